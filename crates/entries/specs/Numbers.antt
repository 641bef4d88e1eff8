-- How a number is written: in digits, with no leading zero save 0 itself, at most 4294967295.
use Rattle.std.specs.Prelude.{◌≡◌, ℕ, ◌+◌, ◌-◌, ◌*◌, ◌<◌, Bool, true, false, cond, not, ◌&&◌, List, [], ◌∷◌, Some, None, decimal, Option, MatchOption, ◌==◌, ◌≢◌, nat_le, nat_lt}

-- A byte that is a digit.
abbrev pub digit : ℕ → Bool
digit b = nat_le 48 b && nat_le b 57

-- Bytes that are all digits.
abbrev pub digits : List ℕ → Bool
digits [] = true
digits (b ∷ bs) = digit b && digits bs

-- There is a first byte, and it is 0 only if it is the only one.
abbrev pub led : List ℕ → Bool
led [] = false
led (b ∷ []) = true
led (b ∷ c ∷ bs) = not (b == 48)

-- The number that digits stand for, read on after n.
abbrev pub read_on : ℕ → List ℕ → ℕ
read_on n [] = n
read_on n (b ∷ bs) = read_on (n * 10 + (b - 48)) bs

-- The number n with one more digit, if the byte is one and the number still fits.
abbrev pub grown : ℕ → ℕ → Option ℕ
grown n b = cond (digit b && nat_lt (n * 10 + (b - 48)) 4294967296) (Some (n * 10 + (b - 48))) None

-- The number that an entry stands for, if it is one.
abbrev pub numeral : List ℕ → Option ℕ
numeral bs = cond (led bs && (digits bs && nat_lt (read_on 0 bs) 4294967296)) (Some (read_on 0 bs)) None

-- A reading is right: v is read exactly from the decimal of v, and nothing from what is no decimal.
abbrev pub Right : List ℕ → Option ℕ → Type 0
Right bs r = MatchOption r ((v : ℕ) → v < 4294967296 → bs ≢ decimal v) (λ v. (v < 4294967296) × (bs ≡ decimal v))

-- The words of a shelf, as a list: place i holds the i-th.
use Rattle.std.specs.Prelude.{ℕ, ◌+◌, ◌*◌, ◌/◌, ◌%◌, ◌<◌, cond, List, [], ◌∷◌, ◌++◌, length, take, Some, None, Option, nat_lt, slice_index}

-- The word at a place. A place outside has no word to give.
abbrev pub at : List ℕ → ℕ → Option ℕ
at words place = cond (nat_lt place (length words)) (Some (slice_index words place)) None

-- Each word has 32 bits.
abbrev pub Fit : List ℕ → Type 0
Fit words = (place : ℕ) → slice_index words place < 4294967296

-- The word that four bytes stand for, highest byte first.
abbrev pub word : List ℕ → ℕ
word bytes = slice_index bytes 0 * 16777216 + slice_index bytes 1 * 65536 + slice_index bytes 2 * 256 + slice_index bytes 3

-- The four bytes of a word, highest first.
abbrev pub bytes_of : ℕ → List ℕ
bytes_of n = (n / 16777216 % 256) ∷ (n / 65536 % 256) ∷ (n / 256 % 256) ∷ (n % 256) ∷ []

-- The places of one shelf, then those of another, up to 65,536.
abbrev pub joined : List ℕ → List ℕ → List ℕ
joined first second = take 65536 (first ++ second)

-- First word i put at place i; the other places stay.
abbrev pub over : List ℕ → List ℕ → List ℕ
over [] words = words
over (f ∷ fs) [] = []
over (f ∷ fs) (w ∷ ws) = f ∷ over fs ws

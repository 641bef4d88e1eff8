-- On which of two shelves end to end a place lies.
use Rattle.std.specs.Prelude.{◌≡◌, ℕ, ◌-◌, Bool, false, cond, List, length, Some, None, Option, nat_lt, slice_set}
use Rattle.shelf.specs.declared.joined.Side.{Side}
use Rattle.shelf.specs.declared.joined.Side.TheVariants.{First, Second}
use Rattle.shelf.specs.Words.{at, joined}

-- The first shelf has `size` places; the two together end at 65,536, and a place beyond that lies on neither.
abbrev pub side : ℕ → ℕ → Option Side
side size place = cond (nat_lt place 65536) (Some (cond (nat_lt place size) (First place) (Second (place - size)))) None

-- What a get at a side gives.
abbrev pub got : List ℕ → List ℕ → Option Side → Option ℕ
got first second (Some (First k)) = at first k
got first second (Some (Second k)) = at second k
got first second None = None

-- What a put at a side says.
abbrev pub inside : List ℕ → List ℕ → Option Side → Bool
inside first second (Some (First k)) = nat_lt k (length first)
inside first second (Some (Second k)) = nat_lt k (length second)
inside first second None = false

-- The words of both shelves after a put at a side.
abbrev pub after : List ℕ → List ℕ → ℕ → Option Side → List ℕ
after first second w (Some (First k)) = joined (slice_set first k w) second
after first second w (Some (Second k)) = joined first (slice_set second k w)
after first second w None = joined first second

-- A get and a put at the side do what they should do at the place.
pub record Leads (first second : List ℕ) (place : ℕ) (s : Option Side) : Type 0 where
  pub gives : got first second s ≡ at (joined first second) place
  pub says : inside first second s ≡ nat_lt place (length (joined first second))
  pub leaves : (w : ℕ) → after first second w s ≡ slice_set (joined first second) place w

-- Entries of the tables that can be checked by eye, and how the two systems hang together.
use Rattle.std.specs.Prelude.{◌≡◌, ℕ, Bool, true, false}
use Rattle.modes.specs.Rights.{Mode, system, mode, code, gray, counting, IS, IN, S, N, SIX, X}

-- two modes of the counting system, by their names, joined
abbrev joins : Mode → Mode → ℕ
joins p q = (system counting).join (code counting p) (code counting q)

-- whether two such modes stand together
abbrev stand : Mode → Mode → Bool
stand p q = (system counting).stands (code counting p) (code counting q)

-- A reader that means to add is a reader with intent to do anything; one that reads and adds is exclusive.
-- Adders stand with adders, and not with somebody who means to read below.
abbrev pub KnownEntries : Type 0
KnownEntries =
    (joins S IN ≡ code counting SIX)
    × (joins S N ≡ code counting X)
    × (stand N N ≡ true)
    × (stand N IS ≡ false)

-- The code in the counting system of the mode that a code has in Gray's.
abbrev pub in_counting : ℕ → ℕ
in_counting c = code counting (mode gray c)

-- Gray's six modes stand and join as the same modes of the counting system do.
abbrev pub GrayWithinCounting : Type 0
GrayWithinCounting =
    (a b : ℕ)
    → ((system gray).stands a b ≡ (system counting).stands (in_counting a) (in_counting b))
    × (in_counting ((system gray).join a b) ≡ (system counting).join (in_counting a) (in_counting b))

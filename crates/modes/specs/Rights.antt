-- Why the tables of modes are as they are: a mode is a pair of rights.
use Rattle.std.specs.Prelude.{ℕ, suc, Bool, true, false, not, ◌&&◌, List, [], ◌∷◌, length, slice_index_or}
use Rattle.modes.specs.declared.kind.Kind.{Kind}
use Rattle.modes.specs.declared.kind.Kind.TheVariants.{Read, Set, Add}
use Rattle.modes.specs.Systems.{System, clipped}

-- What somebody may do to words.
pub data Right : Type 0 where
  nothing reads adds everything : Right

-- Both rights together. Whoever reads and adds has everything.
abbrev pub both : Right → Right → Right
both nothing r = r
both reads nothing = reads
both reads reads = reads
both reads adds = everything
both reads everything = everything
both adds nothing = adds
both adds reads = everything
both adds adds = adds
both adds everything = everything
both everything r = everything

-- Whether two jobs with these rights to one word are in each other's way: readers are not among
-- themselves, nor are adders, nor is one who has no right.
abbrev pub conflicts : Right → Right → Bool
conflicts nothing r = false
conflicts reads nothing = false
conflicts reads reads = false
conflicts reads adds = true
conflicts reads everything = true
conflicts adds nothing = false
conflicts adds reads = true
conflicts adds adds = false
conflicts adds everything = true
conflicts everything nothing = false
conflicts everything reads = true
conflicts everything adds = true
conflicts everything everything = true

-- Whether two rights are one.
abbrev pub same_right : Right → Right → Bool
same_right nothing nothing = true
same_right nothing reads = false
same_right nothing adds = false
same_right nothing everything = false
same_right reads nothing = false
same_right reads reads = true
same_right reads adds = false
same_right reads everything = false
same_right adds nothing = false
same_right adds reads = false
same_right adds adds = true
same_right adds everything = false
same_right everything nothing = false
same_right everything reads = false
same_right everything adds = false
same_right everything everything = true

-- A mode on a granule: what its holder has on all that lies beneath, and what it may come to have
-- on parts of it, by modes on granules further down.
pub record Mode : Type 0 where
  pub has : Right
  pub may : Right

-- The nine modes in which what is had is also allowed below.
abbrev pub NL : Mode  -- no lock
NL = record { has = nothing; may = nothing }

abbrev pub IS : Mode  -- intent to read
IS = record { has = nothing; may = reads }

abbrev pub IN : Mode  -- intent to add
IN = record { has = nothing; may = adds }

abbrev pub IX : Mode  -- intent to do anything
IX = record { has = nothing; may = everything }

abbrev pub S : Mode  -- shared: reads all
S = record { has = reads; may = reads }

abbrev pub N : Mode  -- counting: adds to all
N = record { has = adds; may = adds }

abbrev pub SIX : Mode  -- reads all, intent to do anything
SIX = record { has = reads; may = everything }

abbrev pub NIX : Mode  -- adds to all, intent to do anything
NIX = record { has = adds; may = everything }

abbrev pub X : Mode  -- exclusive
X = record { has = everything; may = everything }

-- The mode of a job that holds both, part by part.
abbrev pub joined : Mode → Mode → Mode
joined p q = record { has = both p.has q.has; may = both p.may q.may }

-- Two modes stand together if what each has does not conflict with what the other may do.
abbrev pub stand : Mode → Mode → Bool
stand p q = not (conflicts p.has q.may) && not (conflicts q.has p.may)

-- Whether two modes are one.
abbrev pub same_mode : Mode → Mode → Bool
same_mode p q = same_right p.has q.has && same_right p.may q.may

-- A system out of rights: its modes in the order of their codes, and the right that each kind of operation needs.
pub record Design : Type 0 where
  pub modes : List Mode
  pub right : Kind → Right

-- The mode that a code stands for.
abbrev pub mode : Design → ℕ → Mode
mode d c = slice_index_or d.modes (clipped (length d.modes) c) NL

-- The code of a mode: its place among the modes.
abbrev pub place : List Mode → Mode → ℕ
place [] p = 0
place (q ∷ qs) p = elim (same_mode q p) [ true ↦ 0 | false ↦ suc (place qs p) ]

-- The code of a mode in a system.
abbrev pub code : Design → Mode → ℕ
code d p = place d.modes p

-- What such a system answers. An operation takes its right in full on its own granule, and says
-- further up that it may use that right below.
abbrev pub system : Design → System
system d =
    record {
      count = length d.modes;
      join = λ a b. code d (joined (mode d a) (mode d b));
      stands = λ a b. stand (mode d a) (mode d b);
      full = λ k. code d (record { has = d.right k; may = d.right k });
      intent = λ k. code d (record { has = nothing; may = d.right k });
    }

-- Gray's system. An addition needs everything, as a set does.
abbrev pub gray_right : Kind → Right
gray_right Read = reads
gray_right Set = everything
gray_right Add = everything

-- The six modes in the order of their codes.
abbrev pub gray : Design
gray = record { modes = NL ∷ IS ∷ IX ∷ S ∷ SIX ∷ X ∷ []; right = gray_right }

-- The counting system. Additions have a right of their own.
abbrev pub counting_right : Kind → Right
counting_right Read = reads
counting_right Set = everything
counting_right Add = adds

-- The nine modes in the order of their codes.
abbrev pub counting : Design
counting = record { modes = NL ∷ IS ∷ IN ∷ IX ∷ S ∷ N ∷ SIX ∷ NIX ∷ X ∷ []; right = counting_right }

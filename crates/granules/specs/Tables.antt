-- Which tables are trees, and what is wrong with the others.
use Rattle.std.specs.Prelude.{ℕ, Bool, true, false, ◌&&◌, List, length, Some, None, Option, ◌==◌, nat_le, nat_lt}
use Rattle.granules.specs.declared.unfit.Unfit.{Unfit}
use Rattle.granules.specs.declared.unfit.Unfit.TheVariants.{Lengths, Parent, Path}
use Rattle.granules.specs.Below.{each_below}
use Rattle.granules.specs.Paths.{parent, path}

-- The number of each refusal.
abbrev pub number : Unfit → ℕ
number Lengths = 10
number Parent = 11
number Path = 12

-- There are 1 to 256 granules, and as many first words.
abbrev pub sized : List ℕ → ℕ → Bool
sized parents words = length parents == words && (nat_lt 0 (length parents) && nat_le (length parents) 256)

-- Whether p may be the parent of g: the root's is the root, any other is smaller than its child.
abbrev pub right_for : ℕ → ℕ → Bool
right_for g p = elim (g == 0) [ true ↦ p == 0 | false ↦ nat_lt p g ]

-- It is so of every granule.
abbrev pub rooted : List ℕ → Bool
rooted parents = each_below (length parents) (λ g. right_for g (parent parents g))

-- No path has more than 8 granules, both ends counted.
abbrev pub shallow : List ℕ → Bool
shallow parents = each_below (length parents) (λ g. nat_le (length (path parents g)) 8)

-- What is wrong with a table that comes with so many first words, if anything is: the first of the three that applies.
abbrev pub fault : List ℕ → ℕ → Option Unfit
fault parents words =
    elim (sized parents words) [
      | false ↦ Some Lengths
      | true ↦ elim (rooted parents) [ false ↦ Some Parent | true ↦ elim (shallow parents) [ false ↦ Some Path | true ↦ None ] ]
    ]

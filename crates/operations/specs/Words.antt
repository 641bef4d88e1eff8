-- What an operation answers and what it leaves, over the list of all words of the shelf.
use Rattle.std.specs.Prelude.{ℕ, suc, ◌*◌, cond, List, [], ◌∷◌, ◌++◌, length, slice_index, codes, decimal}
use Rattle.granules.specs.Below.{sum_below}
use Rattle.granules.specs.Paths.{record_beneath, records_beneath}
use Rattle.operations.specs.declared.operation.Action.{Action}
use Rattle.operations.specs.declared.operation.Action.TheVariants.{Read, Mean, Set, Add}
use Rattle.operations.specs.declared.operation.Operation.{Operation}
use Rattle.operations.specs.declared.operation.Outcome.{Outcome}
use Rattle.operations.specs.declared.operation.Outcome.TheVariants.{Figures, Average, Done}
use Rattle.operations.specs.Actions.{changed, rounded}

-- The sum of the words of the records beneath a granule. The word of record r lies at place r.
abbrev pub sum : List ℕ → List ℕ → ℕ → ℕ
sum parents words g = sum_below (length parents) (record_beneath parents g) (λ r. slice_index words r)

-- No sum of words is larger: there are at most 256, of 32 bits each.
abbrev pub largest_sum : ℕ
largest_sum = 256 * 4294967295

-- What an action answers, where it meets records with this sum, so many of them.
abbrev pub told : Action → ℕ → ℕ → Outcome
told Read s count = Figures s count
told Mean s count = Average (rounded s count)
told (Set w) s count = Done
told (Add w) s count = Done

-- What an operation answers.
abbrev pub answer : List ℕ → Operation → List ℕ → Outcome
answer parents o words = told o.action (sum parents words o.granule) (records_beneath parents o.granule)

-- An answer in writing.
abbrev pub written : Outcome → List ℕ
written (Figures s count) = codes "read " ++ (decimal s ++ (codes " " ++ decimal count))
written (Average m) = codes "mean " ++ decimal m
written Done = codes "done"

-- The words changed place by place, from place i on.
abbrev pub each_from : ℕ → (ℕ → ℕ → ℕ) → List ℕ → List ℕ
each_from i f [] = []
each_from i f (w ∷ ws) = f i w ∷ each_from (suc i) f ws

-- What an operation leaves at place r: the word changed if r is a record beneath its granule, else as it was.
abbrev pub left_at : List ℕ → Operation → ℕ → ℕ → ℕ
left_at parents o r word = cond (record_beneath parents o.granule r) (changed o.action word) word

-- What it leaves on the shelf.
unfoldable pub after : List ℕ → Operation → List ℕ → List ℕ
after parents o words = each_from 0 (left_at parents o) words

-- Cases at the edges.
use Rattle.std.specs.Prelude.{◌≡◌, ℕ, [], ◌∷◌, Some, None}
use Rattle.granules.specs.declared.unfit.Unfit.TheVariants.{Path}
use Rattle.granules.specs.Tables.{fault, number}
use Rattle.operations.specs.declared.operation.Action.{Action}
use Rattle.operations.specs.declared.operation.Action.TheVariants.{Read, Mean, Add}
use Rattle.operations.specs.declared.operation.Operation.{Operation}
use Rattle.operations.specs.declared.operation.Outcome.TheVariants.{Figures, Average}
use Rattle.operations.specs.Words.{answer, after}

-- an action on the whole database
abbrev overall : Action → Operation
overall a = record { granule = 0; action = a }

-- A database of one granule is one record: a read of it answers its word and 1.
abbrev pub OneGranule : Type 0
OneGranule = (word : ℕ) → answer (0 ∷ []) (overall Read) (word ∷ []) ≡ Figures word 1

-- Adding 5 to the largest word gives 4.
abbrev pub Wraps : Type 0
Wraps = after (0 ∷ []) (overall (Add 5)) (4294967295 ∷ []) ≡ 4 ∷ []

-- Over two records, a sum of 3 has the mean 2, and a sum of 5 the mean 3.
abbrev pub HalvesUp : Type 0
HalvesUp =
    (answer (0 ∷ 0 ∷ 0 ∷ []) (overall Mean) (0 ∷ 1 ∷ 2 ∷ []) ≡ Average 2)
    × (answer (0 ∷ 0 ∷ 0 ∷ []) (overall Mean) (0 ∷ 2 ∷ 3 ∷ []) ≡ Average 3)

-- A path of 8 granules is laid; one of 9 earns the number 12.
abbrev pub EightDeep : Type 0
EightDeep =
    (fault (0 ∷ 0 ∷ 1 ∷ 2 ∷ 3 ∷ 4 ∷ 5 ∷ 6 ∷ []) 8 ≡ None)
    × (fault (0 ∷ 0 ∷ 1 ∷ 2 ∷ 3 ∷ 4 ∷ 5 ∷ 6 ∷ 7 ∷ []) 9 ≡ Some Path)
    × (number Path ≡ 12)

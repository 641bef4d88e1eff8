-- Jobs run alone: the definition that every promise about jobs side by side comes down to.
use Rattle.std.specs.Prelude.{◌≡◌, ℕ, List, [], ◌∷◌, length, Some, None, Option}
use Rattle.operations.specs.declared.operation.Operation.{Operation}
use Rattle.operations.specs.declared.operation.Outcome.{Outcome}
use Rattle.operations.specs.Words.{answer, after}

-- A step: an operation and the answer that was noted with it.
abbrev pub Step : Type 0
Step = Operation × Outcome

-- `Alone parents words steps end`: on these words the steps, one after the other and nothing between them, answer
-- just what was noted, and leave the words `end`. A list of jobs run alone is the list of all their steps.
abbrev pub Alone : List ℕ → List ℕ → List Step → List ℕ → Type 0
Alone parents words [] end = end ≡ words
Alone parents words (s ∷ ss) end = (s.1 ≡ answer parents s.0 words) × Alone parents (after parents s.0 words) ss end

-- Operations with their answers, in order.
abbrev pub noted : List Operation → List Outcome → List Step
noted [] answers = []
noted (o ∷ os) [] = []
noted (o ∷ os) (a ∷ answers) = (o, a) ∷ noted os answers

-- What a run of operations from these words promises: an answer to each of them, and words, as of the operations run
-- alone; or, for want of memory, that nothing was done.
abbrev pub Ran : List ℕ → List ℕ → List Operation → Option (List Outcome) → List ℕ → Type 0
Ran parents words os (Some answers) end = (length answers ≡ length os) × Alone parents words (noted os answers) end
Ran parents words os None end = end ≡ words

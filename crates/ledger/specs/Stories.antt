-- Cases at the edges, and a story, worked out by hand.
use Rattle.std.specs.Prelude.{◌≡◌, ℕ, Bool, true, false, List, [], ◌∷◌, ◌++◌, map, Some}
use Rattle.granules.specs.declared.unfit.Unfit.TheVariants.{Lengths, Parent}
use Rattle.granules.specs.Tables.{fault}
use Rattle.modes.specs.Entries.{KnownEntries}
use Rattle.modes.specs.Rights as rights
use Rattle.operations.specs.declared.operation.Action.{Action}
use Rattle.operations.specs.declared.operation.Action.TheVariants.{Read, Mean, Set, Add}
use Rattle.operations.specs.declared.operation.Operation.{Operation}
use Rattle.operations.specs.declared.operation.Outcome.TheVariants.{Figures, Average, Done}
use Rattle.operations.specs.Edges.{OneGranule, Wraps, HalvesUp, EightDeep}
use Rattle.ledger.specs.declared.call.Answer.{Answer}
use Rattle.ledger.specs.declared.call.Answer.TheVariants.{Job, Told, Waits, Refused}
use Rattle.ledger.specs.declared.call.Call.{Call}
use Rattle.ledger.specs.declared.call.Call.TheVariants.{Open, Carry, Go, Again, Commit, GiveUp}
use Rattle.ledger.specs.declared.refusal.Refusal.TheVariants.{NotLaidOut, TooManyJobs, NumbersUsedUp, NoSuchJob, JobWounded, JobWaiting, NoSuchGranule, JobNotWaiting, JobNotWounded}
use Rattle.ledger.specs.Refusals.{Facts, refusal}
use Rattle.ledger.specs.Jobs.{Status, working, waiting, wounded, ended}
use Rattle.ledger.specs.Ledgers.{Layout, Event, blank, together}
use Rattle.ledger.specs.Promises.{EachEvent}
use Rattle.ledger.specs.Models.{fresh, history, served}

-- the counting system over a parents table
abbrev pub counting_over : List ℕ → Layout
counting_over parents = record { system = rights.system rights.counting; parents = parents }

-- an action on a granule
abbrev on : ℕ → Action → Operation
on g a = record { granule = g; action = a }

-- the answers of a history
abbrev answers : List Event → List Answer
answers es = map (λ e. e.1) es

-- Six granules: a database with two files, 1 and 2; records 3 and 4 in the first, 5 in the second.
abbrev pub six : Layout
six = counting_over (0 ∷ 0 ∷ 0 ∷ 1 ∷ 1 ∷ 2 ∷ [])

-- Their first words: records have 10, 20 and 30.
abbrev pub first_words : List ℕ
first_words = 0 ∷ 0 ∷ 0 ∷ 10 ∷ 20 ∷ 30 ∷ []

-- Two jobs add to record 3 side by side. Job 2 then wants to read the file, and waits until job 1 has committed. Job 3
-- sets record 5, and is wounded when job 2, which is older, sets all of file 2. It reopens, takes a mean of everything, and gives up.
abbrev pub story_calls : List Call
story_calls =
    Open
    ∷ Open
    ∷ Carry 1 (on 3 (Add 5))
    ∷ Carry 2 (on 3 (Add 7))
    ∷ Carry 2 (on 1 Read)
    ∷ Commit 1
    ∷ Go 2
    ∷ Open
    ∷ Carry 3 (on 5 (Set 1))
    ∷ Carry 2 (on 2 (Set 4))
    ∷ Commit 3
    ∷ Commit 2
    ∷ Again 3
    ∷ Carry 3 (on 0 Mean)
    ∷ GiveUp 3
    ∷ []

-- What these calls answer.
abbrev pub story_answers : List Answer
story_answers =
    Job 1
    ∷ Job 2
    ∷ Told Done
    ∷ Told Done
    ∷ Waits
    ∷ Told Done
    ∷ Told (Figures 42 2)
    ∷ Job 3
    ∷ Told Done
    ∷ Told Done
    ∷ Refused JobWounded
    ∷ Told Done
    ∷ Told Done
    ∷ Told (Average 15)
    ∷ Told Done
    ∷ []

-- The model gives these answers and leaves these words, and the ledger asks for these answers.
pub record Story : Type 0 where
  pub said : history six story_calls (fresh first_words) ≡ together story_calls story_answers
  pub words : (served six story_calls (fresh first_words)).words ≡ 0 ∷ 0 ∷ 0 ∷ 22 ∷ 20 ∷ 4 ∷ []
  pub asked : EachEvent six blank (together story_calls story_answers)

-- Adding 5 to the largest word gives 4, and giving up restores it.
abbrev pub Restores : Type 0
Restores =
    ((served (counting_over (0 ∷ [])) (Open ∷ Carry 1 (on 0 (Add 5)) ∷ []) (fresh (4294967295 ∷ []))).words ≡ 4 ∷ [])
    × ((served (counting_over (0 ∷ [])) (Open ∷ Carry 1 (on 0 (Add 5)) ∷ GiveUp 1 ∷ []) (fresh (4294967295 ∷ []))).words ≡ 4294967295 ∷ [])

-- A 17th opening is refused until a job has ended.
abbrev sixteen : List Call
sixteen = Open ∷ Open ∷ Open ∷ Open ∷ Open ∷ Open ∷ Open ∷ Open ∷ Open ∷ Open ∷ Open ∷ Open ∷ Open ∷ Open ∷ Open ∷ Open ∷ []

-- Sixteen openings pass, the seventeenth does not, and does once job 1 has committed.
abbrev pub Seventeenth : Type 0
Seventeenth =
    answers (history (counting_over (0 ∷ [])) (sixteen ++ Open ∷ Commit 1 ∷ Open ∷ []) (fresh (0 ∷ [])))
    ≡ Job 1
    ∷ Job 2
    ∷ Job 3
    ∷ Job 4
    ∷ Job 5
    ∷ Job 6
    ∷ Job 7
    ∷ Job 8
    ∷ Job 9
    ∷ Job 10
    ∷ Job 11
    ∷ Job 12
    ∷ Job 13
    ∷ Job 14
    ∷ Job 15
    ∷ Job 16
    ∷ Refused TooManyJobs
    ∷ Told Done
    ∷ Job 17
    ∷ []

-- Where several rows of the table fit, the uppermost is answered.
abbrev looks : Bool → ℕ → ℕ → Status → Facts
looks laid unended opened st = record { laid = laid; unended = unended; opened = opened; status = λ _. st; granules = 6; places = 6 }

-- The answers where two rows or more fit.
pub record Uppermost : Type 0 where
  -- not laid out, and no such job either
  pub unlaid : refusal (looks false 0 0 ended) (Commit 1) ≡ Some NotLaidOut
  -- too many jobs, and the numbers used up
  pub full : refusal (looks true 16 1000000 working) Open ≡ Some TooManyJobs
  pub used_up : refusal (looks true 15 1000000 working) Open ≡ Some NumbersUsedUp
  -- no such job, or one that is wounded or waits, and no such granule
  pub no_job : refusal (looks true 1 1 ended) (Carry 1 (on 6 Read)) ≡ Some NoSuchJob
  pub hurt : refusal (looks true 1 1 wounded) (Carry 1 (on 6 Read)) ≡ Some JobWounded
  pub held : refusal (looks true 1 1 (waiting (on 0 Read))) (Carry 1 (on 6 Read)) ≡ Some JobWaiting
  pub outside : refusal (looks true 1 1 working) (Carry 1 (on 6 Read)) ≡ Some NoSuchGranule
  -- wounded, and so not waiting
  pub gone : refusal (looks true 1 1 wounded) (Go 1) ≡ Some JobWounded
  pub idle : refusal (looks true 1 1 working) (Go 1) ≡ Some JobNotWaiting
  pub well : refusal (looks true 1 1 working) (Again 1) ≡ Some JobNotWounded
  -- a table of another length than the words that has a wrong parent, and one with a wrong parent and a long path
  pub lengths : fault (1 ∷ []) 2 ≡ Some Lengths
  pub parent : fault (0 ∷ 0 ∷ 1 ∷ 2 ∷ 3 ∷ 4 ∷ 5 ∷ 6 ∷ 7 ∷ 9 ∷ []) 10 ≡ Some Parent

-- All of them: single entries of the mode tables, one granule, means, paths of 8 and 9, and the above.
pub record EdgeCases : Type 0 where
  pub entries : KnownEntries
  pub one_granule : OneGranule
  pub wraps : Wraps
  pub halves_up : HalvesUp
  pub eight_deep : EightDeep
  pub restores : Restores
  pub seventeenth : Seventeenth
  pub uppermost : Uppermost
  pub story : Story

-- The promise, of a history of calls with their answers and of the words on the shelf now.
use Rattle.std.specs.Prelude.{◌≡◌, ℕ, zero, suc, ◌<◌, Bool, true, false, not, List, [], ◌∷◌, ◌++◌, Some, None, Option, ◌==◌, ◌≢◌}
use Rattle.modes.specs.Systems.{System}
use Rattle.granules.specs.Below.{count_below}
use Rattle.operations.specs.declared.operation.Action.{Action}
use Rattle.operations.specs.declared.operation.Action.TheVariants.{Read, Mean, Set, Add}
use Rattle.operations.specs.declared.operation.Operation.{Operation}
use Rattle.operations.specs.declared.operation.Outcome.{Outcome}
use Rattle.operations.specs.declared.operation.Outcome.TheVariants.{Figures, Average, Done}
use Rattle.operations.specs.Alone.{Step, Alone}
use Rattle.ledger.specs.declared.call.Answer.{Answer}
use Rattle.ledger.specs.declared.call.Answer.TheVariants.{Job, Told, Waits, Head, Refused}
use Rattle.ledger.specs.declared.call.Call.{Call}
use Rattle.ledger.specs.declared.call.Call.TheVariants.{Lay, Open, Carry, Go, Again, Commit, GiveUp, Look}
use Rattle.ledger.specs.declared.refusal.Refusal.{Refusal}
use Rattle.ledger.specs.Refusals.{refusal, job_of}
use Rattle.ledger.specs.Jobs.{Jobs, is_open, is_wounded, is_ended}
use Rattle.ledger.specs.Ledgers.{Layout, Ledger, Event, ledger_hands, facts, wanted, attempt, next, written, blank}

-- 1. Verdicts: each answer is the one that the ledger before it asks for.

-- An operation answers in the shape that it has: a read by two figures, a mean by one, a set or add by `done`.
abbrev pub Shaped : Action → Outcome → Type 0
Shaped Read (Figures s c) = Unit {0}
Shaped Read (Average m) = ⊥
Shaped Read Done = ⊥
Shaped Mean (Figures s c) = ⊥
Shaped Mean (Average m) = Unit {0}
Shaped Mean Done = ⊥
Shaped (Set w) (Figures s c) = ⊥
Shaped (Set w) (Average m) = ⊥
Shaped (Set w) Done = Unit {0}
Shaped (Add w) (Figures s c) = ⊥
Shaped (Add w) (Average m) = ⊥
Shaped (Add w) Done = Unit {0}

-- An operation whose walk is completed is answered, one whose walk stops waits.
abbrev pub Operated : Bool → Operation → Answer → Type 0
Operated true o a = (t : Outcome) × (a ≡ Told t) × Shaped o.action t
Operated false o a = a ≡ Waits

-- The join of what the jobs below n hold on a granule, and how many of them hold anything.
abbrev pub group : System → Jobs → ℕ → ℕ → ℕ
group s js g zero = 0
group s js g (suc n) = s.join (group s js g n) (js.mode n g)

-- How many of the jobs ever opened hold anything on a granule.
abbrev pub holders : Jobs → ℕ → ℕ
holders js g = count_below (suc js.opened) (λ k. not (js.mode k g == 0))

-- What a call that is not refused has to answer.
abbrev pub Granted : Layout → Ledger → Call → Answer → Type 0
Granted y l (Lay parents words) a = ⊥
Granted y l Open a = a ≡ Job (suc l.jobs.opened)
Granted y l (Carry j o) a = Operated (attempt ledger_hands y j o l).complete o a
Granted y l (Go j) a = let o = wanted (l.jobs.status j) in Operated (attempt ledger_hands y j o l).complete o a
Granted y l (Again j) a = a ≡ Told Done
Granted y l (Commit j) a = a ≡ Told Done
Granted y l (GiveUp j) a = a ≡ Told Done
Granted y l (Look g) a = a ≡ Head (group y.system l.jobs g (suc l.jobs.opened)) (holders l.jobs g)

-- A refused call answers its refusal; of any other, a statement holds.
abbrev pub ByRefusal : Option Refusal → Answer → Type 0 → Type 0
ByRefusal (Some r) a P = a ≡ Refused r
ByRefusal None a P = P

-- What an event answers is what its call has to answer.
abbrev pub RightAnswer : Layout → Ledger → Event → Type 0
RightAnswer y l e = ByRefusal (refusal (facts y l.jobs) e.0) e.1 (Granted y l e.0 e.1)

-- 2. The oldest job: the oldest that has not ended is not wounded by any call, and no call of its own waits.

-- Job k is the oldest that has not ended.
abbrev pub Oldest : Jobs → ℕ → Type 0
Oldest js k = (is_ended (js.status k) ≡ false) × ((j : ℕ) → j < k → is_ended (js.status j) ≡ true)

-- An event neither wounds the oldest job nor answers that it waits.
abbrev pub OldestGoesOn : Layout → Ledger → Event → Type 0
OldestGoesOn y l e =
    (k : ℕ)
    → Oldest l.jobs k
    → (is_wounded (l.jobs.status k) ≡ false → is_wounded ((next y l e).jobs.status k) ≡ false)
    × (job_of e.0 ≡ k → e.1 ≢ Waits)

-- 3. Serial order: the words now, and every answer noted, are those of the jobs run alone: the committed ones in the order
-- of their commits, then the open ones in whatever order.

-- How often a number stands in a list.
abbrev pub count_of : ℕ → List ℕ → ℕ
count_of k [] = 0
count_of k (x ∷ xs) = elim (x == k) [ true ↦ suc (count_of k xs) | false ↦ count_of k xs ]

-- A list of numbers that has each open job once, and no other.
abbrev pub Arranges : Jobs → List ℕ → Type 0
Arranges js ks = (k : ℕ) → count_of k ks ≡ elim (is_open (js.status k)) [ true ↦ 1 | false ↦ 0 ]

-- The steps of some jobs, one job after the other.
abbrev pub in_turn : (ℕ → List Step) → List ℕ → List Step
in_turn f [] = []
in_turn f (k ∷ ks) = f k ++ in_turn f ks

-- In whatever order the open jobs come after the committed ones, run alone in turn they give the answers and these words.
abbrev pub Serial : Layout → List ℕ → Ledger → List ℕ → Type 0
Serial y first l words =
    (ks : List ℕ) → Arranges l.jobs ks → Alone y.parents first (in_turn l.steps l.order ++ in_turn l.steps ks) words

-- Verdicts and the oldest job, at each event of a history from a ledger on.
abbrev pub EachEvent : Layout → Ledger → List Event → Type 0
EachEvent y l [] = Unit {0}
EachEvent y l (e ∷ es) = RightAnswer y l e × OldestGoesOn y l e × EachEvent y (next y l e) es

-- The promise of a history, on an engine that was laid out with these first words, where the shelf now has these words.
pub record Promise (y : Layout) (first : List ℕ) (history : List Event) (words : List ℕ) : Type 0 where
  pub events : EachEvent y blank history
  pub serial : Serial y first (written y blank history) words

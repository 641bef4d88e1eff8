-- What is proved of these definitions. Each statement stands in the contract of a function of src/promises.rt.
use Rattle.std.specs.Prelude.{◌≡◌, ℕ, true, false, List, [], ◌∷◌, ◌++◌, Some, None, ◌==◌}
use Rattle.modes.specs.Systems.{System, Lawful}
use Rattle.shelf.specs.Words.{Fit}
use Rattle.granules.specs.Tables.{fault, rooted}
use Rattle.operations.specs.Alone.{Step, Alone}
use Rattle.ledger.specs.declared.call.Answer.TheVariants.{Refused}
use Rattle.ledger.specs.declared.call.Call.{Call}
use Rattle.ledger.specs.declared.refusal.Refusal.{Refusal}
use Rattle.ledger.specs.Refusals.{refusal}
use Rattle.ledger.specs.Jobs.{Jobs, is_open}
use Rattle.ledger.specs.Ledgers.{Layout, Ledger, Event, facts, blank, next, written}
use Rattle.ledger.specs.Promises.{OldestGoesOn, Promise, count_of, in_turn}
use Rattle.ledger.specs.Collisions.{ListsApart, Covers}
use Rattle.ledger.specs.Models.{Model, fresh, serve, history, served, taken_back}

-- What is said of every run: over every lawful mode system, every parents table that is admitted, every list of words of 32
-- bits that lie on the shelf when the engine is laid out, and every list of calls.
abbrev OfEveryRun : (Layout → List ℕ → List Call → Type 0) → Type 0
OfEveryRun P =
    (s : System)
    → Lawful s
    → (parents : List ℕ) (words : ℕ)
    → fault parents words ≡ None
    → (start : List ℕ)
    → Fit start
    → (calls : List Call)
    → P (record { system = s; parents = parents }) start calls

-- The promise holds of the calls with the answers that the model gives, and of its words.
abbrev pub PromiseKept : Type 0
PromiseKept = OfEveryRun (λ y start calls. Promise y start (history y calls (fresh start)) (served y calls (fresh start)).words)

-- The oldest job that has not ended is never wounded, and no call of its own is ever answered `waits`.
abbrev pub EachGoesOn : Layout → Ledger → List Event → Type 0
EachGoesOn y l [] = Unit {0}
EachGoesOn y l (e ∷ es) = OldestGoesOn y l e × EachGoesOn y (next y l e) es

-- So it is at each event of every run.
abbrev pub OldestNeverWaits : Type 0
OldestNeverWaits = OfEveryRun (λ y start calls. EachGoesOn y blank (history y calls (fresh start)))

-- Two jobs whose modes stand together on every granule, and that cover what they did, do not collide.
abbrev pub CoveredDoNotCollide : Type 0
CoveredDoNotCollide =
    (s : System)
    → Lawful s
    → (parents : List ℕ)
    → rooted parents ≡ true
    → (m n : ℕ → ℕ)
    → ((x : ℕ) → s.stands (m x) (n x) ≡ true)
    → (ss ts : List Step)
    → Covers s parents m ss
    → Covers s parents n ts
    → ListsApart parents ss ts

-- A list of numbers that has each open job but j once, and no other.
abbrev pub ArrangesWithout : Jobs → ℕ → List ℕ → Type 0
ArrangesWithout js j ks =
    (k : ℕ) → count_of k ks ≡ elim (k == j) [ true ↦ 0 | false ↦ elim (is_open (js.status k)) [ true ↦ 1 | false ↦ 0 ] ]

-- To take a job back by its notes gives exactly the words of the others: those of the committed jobs in the order of their
-- commits and then of the other open jobs, in whatever order, run alone.
abbrev pub TakeBackExact : Type 0
TakeBackExact =
    OfEveryRun
    (λ y start calls.
    let l = written y blank (history y calls (fresh start)) in
    let m = served y calls (fresh start) in
    (j : ℕ) (ks : List ℕ)
    → ArrangesWithout l.jobs j ks
    → is_open (l.jobs.status j) ≡ true
    → Alone y.parents start (in_turn l.steps l.order ++ in_turn l.steps ks) (taken_back (m.notes j) m.words))

-- A call that the table refuses leaves the model equal to what it was, and is answered so.
abbrev pub RefusedLeavesEqual : Type 0
RefusedLeavesEqual =
    (y : Layout) (c : Call) (m : Model) (r : Refusal)
    → refusal (facts y m.jobs) c ≡ Some r
    → serve y c m ≡ record { left = m; said = Refused r }

-- The ledger: what calls do to jobs. It is fed each call with its answer, and of an answer uses nothing but what it notes
-- beside an operation. No word of the shelf is in it.
use Rattle.std.specs.Prelude.{ℕ, suc, true, false, not, List, [], ◌∷◌, ◌++◌, length, Some, None, Option}
use Rattle.modes.specs.Systems.{System}
use Rattle.granules.specs.Below.{count_below}
use Rattle.granules.specs.Paths.{path}
use Rattle.operations.specs.declared.operation.Action.TheVariants.{Read}
use Rattle.operations.specs.declared.operation.Operation.{Operation}
use Rattle.operations.specs.declared.operation.Outcome.{Outcome}
use Rattle.operations.specs.declared.operation.Outcome.TheVariants.{Done}
use Rattle.operations.specs.Actions.{kind}
use Rattle.operations.specs.Alone.{Step}
use Rattle.ledger.specs.declared.call.Answer.{Answer}
use Rattle.ledger.specs.declared.call.Answer.TheVariants.{Job, Told, Waits, Head, Refused}
use Rattle.ledger.specs.declared.call.Call.{Call}
use Rattle.ledger.specs.declared.call.Call.TheVariants.{Lay, Open, Carry, Go, Again, Commit, GiveUp, Look}
use Rattle.ledger.specs.declared.refusal.Refusal.{Refusal}
use Rattle.ledger.specs.Refusals.{Facts, refusal}
use Rattle.ledger.specs.Jobs.{Jobs, Status, working, waiting, wounded, ended, is_ended, put, where_so, none, now_is, open_one, end_one, wound_jobs}
use Rattle.ledger.specs.Walks.{Hands, Walked, walk}

-- What an engine is laid out with: its mode system and its parents table.
pub record Layout : Type 0 where
  pub system : System
  pub parents : List ℕ

-- How many jobs have not ended.
abbrev pub unended : Jobs → ℕ
unended js = count_below (suc js.opened) (λ k. not (is_ended (js.status k)))

-- What the table of refusals looks at, once an engine is laid out.
abbrev pub facts : Layout → Jobs → Facts
facts y js =
    record {
      laid = true;
      unended = unended js;
      opened = js.opened;
      status = js.status;
      granules = length y.parents;
      places = 0;
    }

-- The operation for which a job waits. One that does not wait has none; then any operation stands here.
abbrev pub wanted : Status → Operation
wanted working = record { granule = 0; action = Read }
wanted (waiting o) = o
wanted wounded = record { granule = 0; action = Read }
wanted ended = record { granule = 0; action = Read }

-- Job j tries an operation: it walks, and is then working or waits with it.
abbrev pub attempt : {S : Type 0} → Hands S → Layout → ℕ → Operation → S → Walked S
attempt h y j o st =
    let w = walk h y.system (kind o.action) o.granule j (path y.parents o.granule) st in
    let s = w.left in
    record {
      left = h.with_jobs (now_is j (elim w.complete [ true ↦ working | false ↦ waiting o ]) (h.jobs s)) s;
      complete = w.complete;
    }

-- The jobs; the operations that each has carried out since it was opened or reopened, with the answers noted; and
-- the numbers of the committed ones in the order of their commits.
pub record Ledger : Type 0 where
  pub jobs : Jobs
  pub steps : ℕ → List Step
  pub order : List ℕ

-- The ledger before any call.
abbrev pub blank : Ledger
blank = record { jobs = none; steps = λ _. []; order = [] }

-- The ledger in the hands of a walk: a wounded job's list is emptied.
abbrev pub ledger_hands : Hands Ledger
ledger_hands =
    record {
      jobs = λ l. l.jobs;
      with_jobs = λ js l. record { jobs = js; steps = l.steps; order = l.order };
      wound = λ p l. record { jobs = wound_jobs p l.jobs; steps = where_so p [] l.steps; order = l.order };
    }

-- What an answer notes beside an operation.
abbrev pub noting : Answer → Outcome
noting (Job n) = Done
noting (Told o) = o
noting Waits = Done
noting (Head m n) = Done
noting (Refused r) = Done

-- A step more in the list of job j.
abbrev pub note_step : ℕ → Step → Ledger → Ledger
note_step j s l = record { jobs = l.jobs; steps = put j (l.steps j ++ s ∷ []) l.steps; order = l.order }

-- Job j tries operation o, and if its walk is completed operation and answer end its list.
abbrev pub tried : Layout → ℕ → Operation → Answer → Ledger → Ledger
tried y j o a l =
    let w = attempt ledger_hands y j o l in
    elim w.complete [ true ↦ note_step j (o, noting a) w.left | false ↦ w.left ]

-- What a call does that is not refused.
abbrev pub granted : Layout → Call → Answer → Ledger → Ledger
granted y (Lay parents words) a l = l
granted y Open a l = record { jobs = open_one l.jobs; steps = l.steps; order = l.order }
granted y (Carry j o) a l = tried y j o a l
granted y (Go j) a l = tried y j (wanted (l.jobs.status j)) a l
granted y (Again j) a l = record { jobs = now_is j working l.jobs; steps = l.steps; order = l.order }
granted y (Commit j) a l = record { jobs = end_one j l.jobs; steps = l.steps; order = l.order ++ j ∷ [] }
granted y (GiveUp j) a l = record { jobs = end_one j l.jobs; steps = put j [] l.steps; order = l.order }
granted y (Look g) a l = l

-- A call with its answer.
abbrev pub Event : Type 0
Event = Call × Answer

-- Calls with their answers, in order.
abbrev pub together : List Call → List Answer → List Event
together [] xs = []
together (c ∷ cs) [] = []
together (c ∷ cs) (x ∷ xs) = (c, x) ∷ together cs xs

-- What a call leaves: what there was if it is refused, else what is new.
abbrev pub unless_refused : Option Refusal → Ledger → Ledger → Ledger
unless_refused (Some r) before after = before
unless_refused None before after = after

-- The ledger after one more event. A call that the table refuses changes nothing.
abbrev pub next : Layout → Ledger → Event → Ledger
next y l e = unless_refused (refusal (facts y l.jobs) e.0) l (granted y e.0 e.1 l)

-- The ledger of a history, from a blank one.
abbrev pub written : Layout → Ledger → List Event → Ledger
written y l [] = l
written y l (e ∷ es) = written y (next y l e) es

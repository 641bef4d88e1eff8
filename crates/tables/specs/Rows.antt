-- Which row of the table refuses a call for a job, by the state of the job alone.
use Rattle.std.specs.Prelude.{Some, None, Option}
use Rattle.ledger.specs.declared.job.Status.{Status}
use Rattle.ledger.specs.declared.job.Status.TheVariants.{Working, Waiting, Wounded, Ended}
use Rattle.ledger.specs.declared.refusal.Refusal.{Refusal}
use Rattle.ledger.specs.declared.refusal.Refusal.TheVariants.{NoSuchJob, JobWounded, JobWaiting, JobNotWaiting, JobNotWounded}

-- an operation or a commit is for a working job
abbrev pub unless_working : Status → Option Refusal
unless_working Working = None
unless_working (Waiting o) = Some JobWaiting
unless_working Wounded = Some JobWounded
unless_working Ended = Some NoSuchJob

-- to go is for a waiting one
abbrev pub unless_waiting : Status → Option Refusal
unless_waiting Working = Some JobNotWaiting
unless_waiting (Waiting o) = None
unless_waiting Wounded = Some JobWounded
unless_waiting Ended = Some NoSuchJob

-- to work again, for a wounded one
abbrev pub unless_wounded : Status → Option Refusal
unless_wounded Working = Some JobNotWounded
unless_wounded (Waiting o) = Some JobNotWounded
unless_wounded Wounded = None
unless_wounded Ended = Some NoSuchJob

-- to give up, for any that has not ended
abbrev pub if_ended : Status → Option Refusal
if_ended Working = None
if_ended (Waiting o) = None
if_ended Wounded = None
if_ended Ended = Some NoSuchJob

-- How the state of a job moves with what happens to it.
use Rattle.std.specs.Prelude.{Bool, true, false, nat_lt}
use Rattle.operations.specs.declared.operation.Operation.{Operation}
use Rattle.ledger.specs.declared.job.Status.{Status}
use Rattle.ledger.specs.declared.job.Status.TheVariants.{Working, Waiting, Wounded, Ended}
use Rattle.tables.specs.declared.slot.Event.{Event}
use Rattle.tables.specs.declared.slot.Event.TheVariants.{Through, Stop, Wound, Reopen}

-- Only a wounded job is reopened; only an open one walks or is wounded.
abbrev pub moved : Status → Event → Status
moved Working Through = Working
moved Working (Stop o) = Waiting o
moved Working Wound = Wounded
moved Working Reopen = Working
moved (Waiting p) Through = Working
moved (Waiting p) (Stop o) = Waiting o
moved (Waiting p) Wound = Wounded
moved (Waiting p) Reopen = Waiting p
moved Wounded Through = Wounded
moved Wounded (Stop o) = Wounded
moved Wounded Wound = Wounded
moved Wounded Reopen = Working
moved Ended Through = Ended
moved Ended (Stop o) = Ended
moved Ended Wound = Ended
moved Ended Reopen = Ended

-- What a walk for an operation comes to: the job is through with it, or stops.
abbrev pub walked : Operation → Bool → Event
walked o true = Through
walked o false = Stop o

-- A job waits only for what is on one of the 256 granules.
abbrev pub near : Event → Bool
near Through = true
near (Stop o) = nat_lt o.granule 256
near Wound = true
near Reopen = true

-- Jobs that are opened, reopened and ended, in a model.
use Rattle.std.specs.Prelude.{ℕ}
use Rattle.ledger.specs.declared.job.Note.TheVariants.{Nothing}
use Rattle.ledger.specs.declared.job.Status.TheVariants.{Working}
use Rattle.ledger.specs.Jobs.{put, now_is, open_one, end_one}
use Rattle.ledger.specs.Models.{Model, taken_back}

-- one job more
abbrev pub with_one_more : Model → Model
with_one_more m = record { jobs = open_one m.jobs; words = m.words; notes = m.notes }

-- job j works again
abbrev pub at_work : ℕ → Model → Model
at_work j m = record { jobs = now_is j Working m.jobs; words = m.words; notes = m.notes }

-- job j has ended: it holds and notes nothing
abbrev pub without_job : ℕ → Model → Model
without_job j m = record { jobs = end_one j m.jobs; words = m.words; notes = put j (λ _. Nothing) m.notes }

-- its work taken back
abbrev pub undone : ℕ → Model → Model
undone j m = record { jobs = m.jobs; words = taken_back (m.notes j) m.words; notes = m.notes }

-- What the engine's tables mean: the model of `ledger`, in which jobs are known by their numbers.
use Rattle.std.specs.Prelude.{ℕ, List}
use Rattle.ledger.specs.declared.job.Note.{Note}
use Rattle.ledger.specs.declared.job.Note.TheVariants.{Nothing}
use Rattle.ledger.specs.declared.job.Status.{Status}
use Rattle.ledger.specs.Jobs.{Jobs}
use Rattle.ledger.specs.Models.{Model}
use Rattle.tables.specs.declared.kernel.Core.{Core}
use Rattle.tables.specs.declared.held.Held.{Held}
use Rattle.tables.specs.declared.grid.Grid.{Grid}
use Rattle.tables.specs.declared.seats.Seats.{Seats}
use Rattle.tables.specs.Grids.{cell}
use Rattle.tables.specs.Seats.{numbers_in, slot, states_in, status_of}

-- The numbers of the jobs in the slots, 0 where one is free.
abbrev pub numbers_of : Seats → List ℕ
numbers_of seats = numbers_in seats.slots

-- The states of the jobs in the slots, ended where one is free.
abbrev pub states_of : Seats → List Status
states_of seats = states_in seats.slots

-- A job holds and notes what stands in the row of its slot; one that sits nowhere holds and notes nothing.
abbrev pub jobs_of : Seats → Held → Jobs
jobs_of seats held =
    record {
      opened = seats.opened;
      status = status_of (numbers_of seats) (states_of seats);
      mode = λ k x. cell 0 held.modes.rows (slot (numbers_of seats) k) x;
    }

-- The note of a job on a record, in the same way.
abbrev pub notes_of : Seats → Grid Note → ℕ → ℕ → Note
notes_of seats noted k r = cell Nothing noted.rows (slot (numbers_of seats) k) r

-- the words of a shelf, with these tables beside them
abbrev pub whole : List ℕ → Seats → Held → Grid Note → Model
whole words seats held noted = record { jobs = jobs_of seats held; words = words; notes = notes_of seats noted }

-- The words of the shelf alone.
abbrev pub words_on : {S : Type 0} → (S → List ℕ) → Core S → List ℕ
words_on words c = words c.shelf

-- The model of all that is kept.
abbrev pub model : {S : Type 0} → (S → List ℕ) → Core S → Model
model words c = whole (words c.shelf) c.seats c.held c.noted

-- Who in a slot is in the way of a job that asks for a lock.
use Rattle.std.specs.Prelude.{ℕ, Bool, not, ◌&&◌, ◌==◌, slice_index_or}
use Rattle.modes.specs.Systems.{System}
use Rattle.ledger.specs.Walks.{judge, must_wait}
use Rattle.tables.specs.declared.held.Held.{Held}
use Rattle.tables.specs.declared.seats.Seats.{Seats}
use Rattle.tables.specs.Grids.{cell}
use Rattle.tables.specs.Views.{numbers_of}

-- A slot holds a job up if it is not free and the job in it does.
abbrev pub holds_up_at : System → Seats → Held → ℕ → ℕ → ℕ → ℕ → Bool
holds_up_at s seats held asker x target i =
    let number = slice_index_or (numbers_of seats) i 0 in
    not (number == 0) && must_wait (judge s asker target number (cell 0 held.modes.rows i x))

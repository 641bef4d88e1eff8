use Rattle.std.proofs.Common.{◌≡◌}
use Rattle.tables.proofs.Notes.{noted_on}
use Rattle.tables.proofs.grid.notes.Grid+Note.note.Given as goal

abbrev pub invariant-loop-record : goal.invariant-loop-record
invariant-loop-record g l = l.self.rows ≡ noted_on l.operation (g.S.Shelf.words l.shelf) l.seat.slot l.initial.self.rows l.yielded

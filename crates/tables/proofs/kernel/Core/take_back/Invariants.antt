use Rattle.std.proofs.Common.{◌≡◌}
use Rattle.ledger.specs.declared.job.Note.TheVariants.{Nothing}
use Rattle.ledger.specs.Models.{back}
use Rattle.operations.specs.Words.{each_from}
use Rattle.tables.specs.Grids.{cell}
use Rattle.operations.proofs.Sweeps.{swept}
use Rattle.tables.proofs.kernel.Core.take_back.Given as goal

abbrev pub invariant-loop-place : goal.invariant-loop-place
invariant-loop-place g l =
    (g.S.Shelf.words l.self.shelf
    ≡ each_from 0 (swept l.place (λ r w. back (cell Nothing l.initial.self.noted.rows l.seat.slot r) w)) (g.S.Shelf.words l.initial.self.shelf))
    × (l.self.seats ≡ l.initial.self.seats)
    × (l.self.held ≡ l.initial.self.held)
    × (l.self.noted ≡ l.initial.self.noted)

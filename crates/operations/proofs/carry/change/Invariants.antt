use Rattle.std.proofs.Common.{◌≡◌}
use Rattle.operations.proofs.Sweeps.{rewritten}
use Rattle.operations.proofs.carry.change.Given as goal

abbrev pub invariant-loop-r : goal.invariant-loop-r
invariant-loop-r g l = g.S.Shelf.words l.shelf ≡ rewritten l.operation (g.S.Shelf.words l.initial.shelf) l.yielded

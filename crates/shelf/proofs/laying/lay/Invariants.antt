use Rattle.std.proofs.Common.{◌≡◌, take}
use Rattle.shelf.specs.Words.{over}
use Rattle.shelf.proofs.laying.lay.Given as goal

abbrev pub invariant-loop-place : goal.invariant-loop-place
invariant-loop-place g l = g.S.Shelf.words l.shelf ≡ over (take l.place l.words) (g.S.Shelf.words l.initial.shelf)

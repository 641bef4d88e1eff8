use Rattle.std.proofs.Common.{◌≡◌, ◌≤◌, length, take, vec_items, vec_len, vec_capacity}
use Rattle.granules.specs.Trees.{table}
use Rattle.operations.specs.Alone.{Alone, noted}
use Rattle.operations.proofs.alone.run_alone.Given as goal

abbrev pub invariant-loop-operation : goal.invariant-loop-operation
invariant-loop-operation g l =
    (vec_len l.answers ≡ l.operation-index)
    × (length l.operations ≤ vec_capacity l.answers)
    × Alone (table l.tree) (g.S.Shelf.words l.initial.shelf) (noted (take l.operation-index l.operations) (vec_items l.answers))
    (g.S.Shelf.words l.shelf)

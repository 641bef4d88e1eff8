use Rattle.std.proofs.Common.{◌≡◌, drop}
use Rattle.granules.specs.Trees.{steps}
use Rattle.tables.specs.Steps.{walk_on}
use Rattle.tables.specs.Views.{model, numbers_of}
use Rattle.tables.proofs.kernel.Core.walk.Given as goal

-- the rest of the path, walked from here, comes to what the whole comes to
abbrev pub invariant-loop-granule : goal.invariant-loop-granule
invariant-loop-granule g l =
    (walk_on g.M.ModeSystem.meaning l.walker (steps l.path) (model g.S.Shelf.words l.initial.self)
    ≡ walk_on g.M.ModeSystem.meaning l.walker (drop l.granule-index (steps l.path)) (model g.S.Shelf.words l.self))
    × ((numbers_of l.self.seats) ≡ (numbers_of l.initial.self.seats))

use Rattle.std.proofs.Common.{◌≡◌, length, ap, arith}
use Rattle.granules.specs.Paths.{parent, path}
use Rattle.granules.specs.Trees.{table, steps}
use Rattle.granules.proofs.Kept.{long, parent_falls, path_fits}
use Rattle.granules.proofs.tree.Tree.+path.Goals as goal

pub then-requires : goal.then-requires
then-requires t c =
    let s = c.args.self.now in
    let falls = parent_falls s c.args.granule (omega arith) in
    let up : steps c.path.result ≡ path (table s) (parent (table s) c.args.granule) = grind (arith, c.path.ensures.value, c.parent.ensures.value, falls) in
    omega (arith, long c.path.result, ap length up, path_fits s c.args.granule (omega arith))

use Rattle.std.proofs.Common.{length, ap, ◌∙◌, arith}
use Rattle.granules.specs.Paths.{record_beneath}
use Rattle.granules.specs.Trees.{table}
use Rattle.granules.proofs.Below.{count_le}
use Rattle.granules.proofs.Climbs.{records_some}
use Rattle.granules.proofs.Counts.{count_range}
use Rattle.granules.proofs.Kept.{size, tree_falls}
use Rattle.granules.proofs.tree.Tree.records_beneath.Goals as goal

pub counted-requires : goal.counted-requires
counted-requires c =
    let t = c.args.self.now in
    let test = record_beneath (table t) c.args.granule in
    let same = ap length c.records.ensures.value ∙ count_range (length (table t)) test in
    omega (arith, same, count_le (length (table t)) test, size t, t.few)

pub returns : goal.returns
returns c =
    let t = c.args.self.now in
    let test = record_beneath (table t) c.args.granule in
    let all = c.counted.ensures ∙ ap length c.records.ensures.value ∙ count_range (length (table t)) test in
    record {
      value = all;
      some = λ h. omega (arith, all, records_some (table t) (tree_falls t) c.args.granule h);
      bound = omega (arith, all, count_le (length (table t)) test, size t, t.few);
    }

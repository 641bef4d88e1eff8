use Rattle.std.proofs.Common.{length, ◌∙◌}
use Rattle.granules.specs.Paths.{record_beneath}
use Rattle.granules.specs.Trees.{table}
use Rattle.granules.proofs.Counts.{kept_within}
use Rattle.granules.proofs.tree.Tree.records.Goals as goal

pub returns : goal.returns
returns c =
    let ps = table c.args.self.now in
    let s = c.span-first.result in
    record {
      value =
          c.among.ensures
          ∙ kept_within s.0 s.1 (length ps) (record_beneath ps c.args.granule)
          c.span-first.ensures.all c.span-first.ensures.bound;
    }

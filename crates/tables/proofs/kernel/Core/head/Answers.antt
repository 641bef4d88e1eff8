use Rattle.std.proofs.Common.{sum, ap, ◌∙◌, arith}
use Rattle.tables.specs.declared.head.Row.{Row}
use Rattle.tables.proofs.Heads.{group_agrees, holders_agree}
use Rattle.tables.proofs.kernel.Core.head.Goals as goal

pub returns : goal.returns
returns g c =
    let t = c.args.self.now in
    record {
      group =
          c.group.ensures.value
          ∙ ap (λ (r : Row). r.group) c.from-head.ensures
          ∙ c.row.ensures.group
          ∙ group_agrees t c.args.granule (omega (arith, c.ranges.granule.fits)) g.M.ModeSystem.meaning g.met.M.ModeSystem.lawful;
      holders =
          c.holders.ensures.value
          ∙ ap sum (ap (λ (r : Row). r.counts) c.from-head.ensures ∙ c.row.ensures.counts)
          ∙ holders_agree t c.args.granule (omega (arith, c.ranges.granule.fits));
    }

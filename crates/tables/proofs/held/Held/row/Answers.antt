use Rattle.std.proofs.Common.{arith}
use Rattle.tables.proofs.Grids.{long_at}
use Rattle.tables.proofs.held.Held.row.Goals as goal

pub invariant_of-result : goal.invariant_of-result
invariant_of-result g c =
    let t = c.args.self.now in
    record {
      full = long_at 16 t.counts c.args.granule (omega (arith, t.counted.0, c.ranges.granule.fits)) t.counted.1;
    }

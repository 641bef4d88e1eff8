use Rattle.std.proofs.Common.{[], get_or, set, ◌∙◌, arith}
use Rattle.std.proofs.lemmas.List.{length-set}
use Rattle.tables.proofs.Grids.{long_put}
use Rattle.tables.proofs.grid.Grid.put.Goals as goal

pub invariant_of-self : goal.invariant_of-self
invariant_of-self g c =
    let t = c.args.self.now in
    record {
      full = length-set t.rows c.args.seat.slot (set (get_or t.rows c.args.seat.slot []) c.args.granule c.args.value) ∙ t.full;
      long = long_put 256 t.rows c.args.seat.slot c.args.granule c.args.value (omega (arith, t.full, c.args.seat.within)) t.long;
    }

use Rattle.std.proofs.Common.{refl, ◌∙◌}
use Rattle.std.proofs.lemmas.List.{length-set}
use Rattle.tables.proofs.Grids.{long_set}
use Rattle.tables.proofs.grid.Grid.fill.Goals as goal

pub invariant_of-self : goal.invariant_of-self
invariant_of-self g c =
    let t = c.args.self.now in
    record {
      full = length-set t.rows c.args.seat.slot _ ∙ t.full;
      long = long_set 256 t.rows c.args.seat.slot _ refl t.long;
    }

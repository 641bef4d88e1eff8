use Rattle.std.proofs.Common.{ap}
use Rattle.tables.specs.Grids.{is_nothing}
use Rattle.tables.proofs.Lays.{nothing_held, nothing_noted}
use Rattle.tables.proofs.kernel.Core.blank.Goals as goal

pub invariant_of-result : goal.invariant_of-result
invariant_of-result g c =
    record {
      unlocked = λ i x free. nothing_held c.new-2.result.modes.rows c.new-2.ensures.rows i x;
      unnoted = λ i x free. ap is_nothing (nothing_noted c.filled.result.rows c.filled.ensures.rows i x);
    }

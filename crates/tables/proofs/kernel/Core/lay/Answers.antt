use Rattle.std.proofs.Common.{ap, ◌∙◌}
use Rattle.tables.specs.Grids.{is_nothing}
use Rattle.ledger.specs.Models.{fresh}
use Rattle.tables.proofs.Lays.{nothing_held, nothing_noted, blank_view}
use Rattle.tables.proofs.kernel.Core.lay.Goals as goal

pub invariant_of-self : goal.invariant_of-self
invariant_of-self g c =
    record {
      unlocked = λ i x free. nothing_held c.new-self-2.result.modes.rows c.new-self-2.ensures.rows i x;
      unnoted = λ i x free. ap is_nothing (nothing_noted c.filled-self.result.rows c.filled-self.ensures.rows i x);
    }

pub returns : goal.returns
returns g c =
    record {
      model =
          blank_view (g.S.Shelf.words c.lay.new.shelf) c.new-self.result c.new-self-2.result c.filled-self.result c.new-self.ensures.states
          c.new-self.ensures.opened c.new-self-2.ensures.rows c.filled-self.ensures.rows
          ∙ ap fresh c.lay.ensures.after;
    }

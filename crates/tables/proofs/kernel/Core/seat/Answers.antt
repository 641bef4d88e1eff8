use Rattle.std.proofs.Common.{◌∙◌}
use Rattle.tables.proofs.Ends.{open_view}
use Rattle.tables.proofs.kernel.Core.seat.Goals as goal

pub returns : goal.returns
returns g c =
    record {
      value = c.opened.ensures.value ∙ c.sit.ensures.opened;
      model =
          open_view g.S.Shelf.words c.args.self.now c.sit.new.self c.args.seat.slot c.args.seat.within c.requires.vacant c.sit.ensures.numbers c.sit.ensures.states
          c.sit.ensures.opened;
    }

use Rattle.ledger.specs.declared.call.Call.TheVariants.{Open}
use Rattle.tables.specs.Turns.{layout}
use Rattle.engine.proofs.Serves.{laid_serves}
use Rattle.engine.proofs.engine.Engine.open.Goals as goal

pub returns : goal.returns
returns g c =
    record {
      served =
          laid_serves g.M.ModeSystem.meaning g.met.M.ModeSystem.lawful Open g.S.Shelf.words c.args.self.now.tree c.in_ok-laid_out.field-0.now c.args.self.now.core
          c.open.new.self _ c.in_ok-laid_out.ensures.laid (c.open.ensures.served (layout g.M.ModeSystem.meaning c.in_ok-laid_out.field-0.now));
    }

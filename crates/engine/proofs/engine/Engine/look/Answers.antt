use Rattle.ledger.specs.declared.call.Call.TheVariants.{Look}
use Rattle.engine.proofs.Serves.{laid_serves}
use Rattle.engine.proofs.engine.Engine.look.Goals as goal

pub returns : goal.returns
returns g c =
    record {
      served =
          laid_serves g.M.ModeSystem.meaning g.met.M.ModeSystem.lawful (Look c.args.granule) g.S.Shelf.words c.args.self.now.tree c.in_ok-tree.tree.now c.args.self.now.core
          c.args.self.now.core _ c.in_ok-tree.ensures.laid c.look.ensures.served;
    }

use Rattle.ledger.specs.declared.call.Call.TheVariants.{Go}
use Rattle.engine.proofs.Serves.{laid_serves}
use Rattle.engine.proofs.engine.Engine.go.Goals as goal

pub returns : goal.returns
returns g c =
    record {
      served =
          laid_serves g.M.ModeSystem.meaning g.met.M.ModeSystem.lawful (Go c.args.job) g.S.Shelf.words c.args.self.now.tree c.in_ok-tree.tree.now c.args.self.now.core
          c.go.new.self _ c.in_ok-tree.ensures.laid c.go.ensures.served;
    }

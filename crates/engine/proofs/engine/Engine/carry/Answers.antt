use Rattle.ledger.specs.declared.call.Call.TheVariants.{Carry}
use Rattle.tables.specs.Turns.{layout}
use Rattle.tables.specs.Views.{model}
use Rattle.tables.proofs.Replies.{in_shape}
use Rattle.engine.proofs.Serves.{laid_serves}
use Rattle.engine.proofs.engine.Engine.carry.Goals as goal

pub returns : goal.returns
returns g c =
    let core = c.args.self.now.core in
    let words = g.S.Shelf.words in
    let y = layout g.M.ModeSystem.meaning c.in_ok-tree.tree.now in
    record {
      served =
          laid_serves g.M.ModeSystem.meaning g.met.M.ModeSystem.lawful (Carry c.args.job c.args.operation) words c.args.self.now.tree c.in_ok-tree.tree.now core
          c.operate.new.self _ c.in_ok-tree.ensures.laid c.operate.ensures.served;
      shape = in_shape y c.args.job c.args.operation (model words core) (model words c.operate.new.self) c.operate.result c.operate.ensures.served;
    }

use Rattle.std.proofs.Common.{◌≡◌, ℕ, sym, arith}
use Rattle.engine.proofs.Serves.{once}
use Rattle.engine.proofs.engine.Engine.lay.Goals as goal

pub returns-then-is_some : goal.returns-then-is_some
returns-then-is_some g c =
    let s = g.M.ModeSystem.meaning in
    record {
      served = once s g.met.M.ModeSystem.lawful c.args.parents c.args.words g.S.Shelf.words c.args.self.now.tree c.args.self.now.core (sym c.if-is_some.ensures);
      begun = λ e. let z : ◌≡◌ {A = ℕ} 0 1 = cc in absurd (omega arith);
    }

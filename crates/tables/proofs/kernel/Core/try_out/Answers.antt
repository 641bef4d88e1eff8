use Rattle.std.proofs.Common.{sym, ◌∙◌, ap₂}
use Rattle.operations.specs.declared.operation.Outcome.{Outcome}
use Rattle.ledger.specs.declared.call.Answer.TheVariants.{Told}
use Rattle.ledger.specs.Models.{Model}
use Rattle.tables.specs.Turns.{layout}
use Rattle.tables.specs.Views.{model}
use Rattle.tables.proofs.Tries.{try_as}
use Rattle.tables.proofs.kernel.Core.try_out.Goals as goal

pub returns : goal.returns
returns g c =
    let y = layout g.M.ModeSystem.meaning c.args.tree.now in
    record {
      served =
          try_as y c.args.job c.args.operation (model g.S.Shelf.words c.args.self.now) _ c.if-not-attempt.ensures.attempt
          ∙ ap₂ (λ (m : Model) (o : Outcome). record { left = m; said = Told o }) (sym (c.carry.ensures.model g.M.ModeSystem.meaning)) (sym c.carry.ensures.value);
    }

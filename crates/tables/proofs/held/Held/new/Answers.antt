use Rattle.std.proofs.Common.{ℕ, List, sym, refl, ap, ◌∙◌}
use Rattle.tables.specs.Heads.{tally}
use Rattle.tables.proofs.Tallies.{agree_blank}
use Rattle.tables.proofs.held.Held.new.Goals as goal

pub invariant_of-result : goal.invariant_of-result
invariant_of-result c =
    record {
      counted = (refl, refl);
      agree = λ x m. agree_blank x m ∙ ap (λ (rows : List (List ℕ)). tally rows x m) (sym c.filled.ensures.rows);
    }

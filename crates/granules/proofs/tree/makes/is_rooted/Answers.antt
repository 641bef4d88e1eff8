use Rattle.std.proofs.Common.{ℕ, ◌∙◌, rules, tests}
use Rattle.std.proofs.lemmas.Iterator.{YieldsList-from_slice}
use Rattle.std.proofs.lemmas.Iterator.Consumers.{YieldsList-from_enumerate}
use Rattle.std.proofs.lemmas.Iterator.Search.{all_from_yields_List}
use Rattle.granules.specs.Tables.{right_for}
use Rattle.granules.proofs.Counts.{all_pairs}
use Rattle.granules.proofs.tree.makes.is_rooted.Goals as goal

pub returns : goal.returns
returns c =
    let ps = c.args.parents.now in
    record {
      value =
          all_from_yields_List (λ (p : ℕ × ℕ). right_for p.0 p.1) _ _ c.all.result c.all.ensures.ran
          (YieldsList-from_enumerate (YieldsList-from_slice ps (cc)) c.enumerate.ensures.count) (λ x b q k. search (rules, tests))
          ∙ all_pairs ps right_for;
    }

use Rattle.std.proofs.Common.{leb, length, refl, ◌∙◌, arith, rules, tests}
use Rattle.std.proofs.lemmas.Iterator.{YieldsList-from_range}
use Rattle.std.proofs.lemmas.Iterator.Search.{all_from_yields_List}
use Rattle.granules.specs.Paths.{path}
use Rattle.granules.proofs.Counts.{all_range}
use Rattle.granules.proofs.tree.makes.is_shallow.Goals as goal

pub returns : goal.returns
returns c =
    let ps = c.args.parents.now in
    let test = λ (g : _). leb (length (path ps g)) 8 in
    record {
      value =
          all_from_yields_List test _ _ c.all.result c.all.ensures.ran
          (YieldsList-from_range 0 (length ps) (length ps) refl (omega arith)) (λ x b q k. search (rules, tests))
          ∙ all_range (length ps) test;
    }

use Rattle.std.proofs.Common.{rules, tests, arith}
use Rattle.granules.specs.Paths.{record_beneath}
use Rattle.granules.specs.Trees.{table}
use Rattle.granules.proofs.Sought.{found}
use Rattle.granules.proofs.tree.records.RecordsIterator.next.Goals as goal

pub returns-clause-steps : goal.returns-clause-steps
returns-clause-steps c =
    let rs = c.args.self.now in
    let ran = c.find.ensures.ran in
    found (record_beneath (table rs.tree.now) rs.above) _ (λ x b q k. search (rules, tests)) ran.0 rs.rest ran.2.0 _ _ ran.1 ran.2.1 ran.2.2 ran.3 ran.4

pub returns-clause-goes : goal.returns-clause-goes
returns-clause-goes c = let steps = returns-clause-steps c in
    grind (arith, steps)

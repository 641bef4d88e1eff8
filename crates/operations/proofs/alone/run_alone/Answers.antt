use Rattle.std.proofs.Common.{◌≡◌, ◌+◌, List, length, take, vec_items, sym, ◌∙◌, subst, arith}
use Rattle.granules.specs.Trees.{table}
use Rattle.operations.specs.declared.operation.Outcome.{Outcome}
use Rattle.operations.specs.Alone.{Alone, noted}
use Rattle.operations.proofs.Steps.{ran_more}
use Rattle.operations.proofs.alone.run_alone.Goals as goal

pub loop-operation-preserved : goal.loop-operation-preserved
loop-operation-preserved g c =
    let before = c.loop-operation.invariant in
    let v = c.loop-operation.answers in
    let long : length (vec_items v) ≡ c.loop-operation.operation-index = sym v.ok.0 ∙ before.0 in
    let words = g.S.Shelf.words in
    let ps = table c.args.tree.now in
    let i = c.loop-operation.operation-index in (
      omega (arith, c.push_reserved.ensures.len, before.0),
      omega (arith, c.push_reserved.ensures.capacity, before.1),
      subst
          (λ (xs : List Outcome).
          Alone ps (words c.args.shelf.now) (noted (take (i + 1) c.args.operations.now) xs) (words c.carry_out-answer.new.shelf))
          (sym c.push_reserved.ensures.items)
          (ran_more ps (words c.args.shelf.now) c.args.operations.now (vec_items v) i _
          c.carry_out-answer.result (words c.loop-operation.shelf) (words c.carry_out-answer.new.shelf)
          c.loop-operation-test.true long c.carry_out-answer.ensures.value c.carry_out-answer.ensures.after before.2),
    )

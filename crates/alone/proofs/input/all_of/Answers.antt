use Rattle.std.proofs.Common.{◌≡◌, ◌+◌, true, false, Some, None, vec_items, arith, rules, of_calls}
use Rattle.entries.specs.Lines.{remains}
use Rattle.alone.specs.declared.denied.Denied.TheVariants.{Entry}
use Rattle.alone.specs.Inputs.{spent, next}
use Rattle.alone.proofs.Readings.{goes_on, stops, ends, kept, passed}
use Rattle.alone.proofs.input.all_of.Goals as goal

pub returns-in_err-value : goal.returns-in_err-value
returns-in_err-value g c =
    record {
      value = λ f h.
          let none : None ≡ next f (remains c.loop-i.line) = search (rules, of_calls) in
          let why : c.in_err-value.field-0.0 ≡ Entry c.args.at (c.loop-i.i + 1) = search rules in
          passed vec_items _ c.in_err-value.field-0.0 c.from_residual.result c.from_residual.ensures.1
          (rw why
          (stops f c.args.at c.args.count (remains c.args.line) c.loop-i.i (vec_items c.loop-i.values) (remains c.loop-i.line)
          c.loop-i-test.true none (c.loop-i.invariant f h)));
    }

pub loop-i-preserved : goal.loop-i-preserved
loop-i-preserved g c = λ f h.
    let some : Some c.in_ok-value.value ≡ next f (remains c.loop-i.line) = search (rules, of_calls) in
    kept f c.args.at c.args.count (remains c.args.line) (c.loop-i.i + 1) (search rules) (search rules)
    (goes_on f c.args.at c.args.count (remains c.args.line) c.loop-i.i (vec_items c.loop-i.values) (remains c.loop-i.line)
    c.in_ok-value.value c.loop-i-test.true some (c.loop-i.invariant f h))

pub returns-then-not-is_spent : goal.returns-then-not-is_spent
returns-then-not-is_spent g c =
    let r = remains c.loop-i.line in
    let t : false ≡ spent r = search rules in
    record {
      value = λ f h.
          ends f c.args.at c.args.count (remains c.args.line) c.loop-i.i
          (vec_items c.loop-i.values) r false (omega arith) t (c.loop-i.invariant f h);
    }

pub returns : goal.returns
returns g c =
    let r = remains c.loop-i.line in
    let t : true ≡ spent r = search rules in
    record {
      value = λ f h.
          ends f c.args.at c.args.count (remains c.args.line) c.loop-i.i
          (vec_items c.loop-i.values) r true (omega arith) t (c.loop-i.invariant f h);
    }

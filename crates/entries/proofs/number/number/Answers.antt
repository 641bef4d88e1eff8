use Rattle.std.proofs.Common.{None, ◌∙◌, ap, rules, arith}
use Rattle.entries.proofs.Numbers.{right, unled, begins, rest, reads}
use Rattle.entries.proofs.number.number.Goals as goal

pub returns-then-not-is_led : goal.returns-then-not-is_led
returns-then-not-is_led c =
    let bs = c.args.entry.now in
    let e = unled bs c.if-not-is_led.ensures.value in
    record { value = e; right = right bs None e }

pub returns : goal.returns
returns c =
    let bs = c.args.entry.now in
    let ran = c.try_fold.ensures.ran in
    let e =
    reads _ _ tt 0 c.iter.result ran.4.0 c.try_fold.new.self ran.2 ran.3 c.try_fold.result ran.0 ran.1 (λ p n x v q k. search rules)
    (omega arith) ran.4.1 ran.4.2 ran.5 ran.6
    ∙ ap (rest 0) c.iter.ensures.rest
    ∙ begins bs c.if-not-is_led.ensures.value
    in
    record { value = e; right = right bs c.try_fold.result e }

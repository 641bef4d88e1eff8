use Rattle.std.proofs.Common.{vec_items, sym, refl, ◌∙◌, subst, rules}
use Rattle.std.specs.declared.alloc.Global.{Global}
use Rattle.entries.specs.Numbers.{numeral}
use Rattle.alone.specs.Inputs.{ReadAs, read_lines, input_of, operation_in}
use Rattle.alone.proofs.Texts.{bad_part, text_of, line_by}
use Rattle.alone.proofs.input.read_lines.Goals as goal

pub returns-in_err-granules : goal.returns-in_err-granules
unfolding read_lines
returns-in_err-granules c =
    let text =
    text_of c.args.lines.now.rest.now refl
    (line_by _ c.args.lines.now.rest.now c.next_line-first.ensures.bytes c.next_line-first.ensures.whole) c.next_line-first.ensures.after refl refl refl refl refl refl
    in
    record { value = subst (λ d. ReadAs input_of d c.from_residual.result) text (bad_part (λ n. n) input_of _ _ _ _ c.from_residual.ensures.1 (c.in_err-granules.ensures.value)) }

pub returns-in_err-parents : goal.returns-in_err-parents
unfolding read_lines
returns-in_err-parents c =
    let text =
    text_of c.args.lines.now.rest.now refl
    (line_by _ c.args.lines.now.rest.now c.next_line-first.ensures.bytes c.next_line-first.ensures.whole) c.next_line-first.ensures.after
    (line_by _ c.next_line-first.new.self.rest.now c.next_line-second.ensures.bytes c.next_line-second.ensures.whole) c.next_line-second.ensures.after refl refl refl refl
    in
    record { value = subst (λ d. ReadAs input_of d c.from_residual-in_err-parents.result) text (rw (c.in_ok-granules.ensures.value) (bad_part (vec_items {Z = Global}) input_of _ _ _ _ c.from_residual-in_err-parents.ensures.1 (c.in_err-parents.ensures.value numeral (λ entry r k. k.0)))) }

pub returns-in_err-words : goal.returns-in_err-words
unfolding read_lines
returns-in_err-words c =
    let text =
    text_of c.args.lines.now.rest.now refl
    (line_by _ c.args.lines.now.rest.now c.next_line-first.ensures.bytes c.next_line-first.ensures.whole) c.next_line-first.ensures.after
    (line_by _ c.next_line-first.new.self.rest.now c.next_line-second.ensures.bytes c.next_line-second.ensures.whole) c.next_line-second.ensures.after
    (line_by _ c.next_line-second.new.self.rest.now c.next_line-third.ensures.bytes c.next_line-third.ensures.whole) c.next_line-third.ensures.after refl refl
    in
    record { value = subst (λ d. ReadAs input_of d c.from_residual-in_err-words.result) text (rw (c.in_ok-granules.ensures.value, c.in_ok-parents.ensures.value numeral (λ entry r k. k.0)) (bad_part (vec_items {Z = Global}) input_of _ _ _ _ c.from_residual-in_err-words.ensures.1 (c.in_err-words.ensures.value numeral (λ entry r k. k.0)))) }

pub returns-in_err-operations : goal.returns-in_err-operations
unfolding read_lines
returns-in_err-operations c =
    let text =
    text_of c.args.lines.now.rest.now refl
    (line_by _ c.args.lines.now.rest.now c.next_line-first.ensures.bytes c.next_line-first.ensures.whole) c.next_line-first.ensures.after
    (line_by _ c.next_line-first.new.self.rest.now c.next_line-second.ensures.bytes c.next_line-second.ensures.whole) c.next_line-second.ensures.after
    (line_by _ c.next_line-second.new.self.rest.now c.next_line-third.ensures.bytes c.next_line-third.ensures.whole) c.next_line-third.ensures.after
    (line_by _ c.next_line-third.new.self.rest.now c.next_line-fourth.ensures.bytes c.next_line-fourth.ensures.whole) c.next_line-fourth.ensures.after
    in
    record { value = subst (λ d. ReadAs input_of d c.from_residual-in_err-operations.result) text (rw (c.in_ok-granules.ensures.value, c.in_ok-parents.ensures.value numeral (λ entry r k. k.0), c.in_ok-words.ensures.value numeral (λ entry r k. k.0)) (bad_part (vec_items {Z = Global}) input_of _ _ _ _ c.from_residual-in_err-operations.ensures.1 (c.in_err-operations.ensures.value (operation_in c.in_ok-granules.granules) (λ entry r k. search rules)))) }

pub returns-then-not-is_spent : goal.returns-then-not-is_spent
unfolding read_lines
returns-then-not-is_spent c =
    let text =
    text_of c.args.lines.now.rest.now refl
    (line_by _ c.args.lines.now.rest.now c.next_line-first.ensures.bytes c.next_line-first.ensures.whole) c.next_line-first.ensures.after
    (line_by _ c.next_line-first.new.self.rest.now c.next_line-second.ensures.bytes c.next_line-second.ensures.whole) c.next_line-second.ensures.after
    (line_by _ c.next_line-second.new.self.rest.now c.next_line-third.ensures.bytes c.next_line-third.ensures.whole) c.next_line-third.ensures.after
    (line_by _ c.next_line-third.new.self.rest.now c.next_line-fourth.ensures.bytes c.next_line-fourth.ensures.whole) c.next_line-fourth.ensures.after
    in
    record { value = sym text ∙ rw (c.in_ok-granules.ensures.value, c.in_ok-parents.ensures.value numeral (λ entry r k. k.0), c.in_ok-words.ensures.value numeral (λ entry r k. k.0), c.in_ok-operations.ensures.value (operation_in c.in_ok-granules.granules) (λ entry r k. search rules), sym c.is_spent.ensures.value, c.if-not-is_spent.true) refl }

pub returns : goal.returns
unfolding read_lines
returns c =
    let text =
    text_of c.args.lines.now.rest.now refl
    (line_by _ c.args.lines.now.rest.now c.next_line-first.ensures.bytes c.next_line-first.ensures.whole) c.next_line-first.ensures.after
    (line_by _ c.next_line-first.new.self.rest.now c.next_line-second.ensures.bytes c.next_line-second.ensures.whole) c.next_line-second.ensures.after
    (line_by _ c.next_line-second.new.self.rest.now c.next_line-third.ensures.bytes c.next_line-third.ensures.whole) c.next_line-third.ensures.after
    (line_by _ c.next_line-third.new.self.rest.now c.next_line-fourth.ensures.bytes c.next_line-fourth.ensures.whole) c.next_line-fourth.ensures.after
    in
    record { value = sym text ∙ rw (c.in_ok-granules.ensures.value, c.in_ok-parents.ensures.value numeral (λ entry r k. k.0), c.in_ok-words.ensures.value numeral (λ entry r k. k.0), c.in_ok-operations.ensures.value (operation_in c.in_ok-granules.granules) (λ entry r k. search rules), sym c.is_spent.ensures.value, c.if-not-is_spent.false) refl }

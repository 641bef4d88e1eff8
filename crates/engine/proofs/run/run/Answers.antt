use Rattle.std.proofs.Common.{◌≡◌, ℕ, ◌+◌, List, [], length, take, vec_items, sym, refl, ap, ◌∙◌, subst, arith, rules}
use Rattle.std.proofs.lemmas.List.{take_all}
use Rattle.ledger.specs.declared.call.Answer.{Answer}
use Rattle.ledger.specs.declared.call.Call.{Call}
use Rattle.ledger.specs.declared.call.Call.TheVariants.{Lay}
use Rattle.ledger.specs.Ledgers.{together}
use Rattle.ledger.specs.Promises.{Promise}
use Rattle.engine.specs.States.{State, step, state, words_of, Keeps}
use Rattle.shelf.specs.Words.{over}
use Rattle.engine.proofs.Runs.{run_more}
use Rattle.engine.proofs.Serves.{Follows, Began, begins, lay_refused, follows_promise}
use Rattle.engine.proofs.run.run.Goals as goal
use Rattle.engine.proofs.run.run.Goals.{In_ok-answers, at-returns}

pub returns-in-Err : goal.returns-in-Err
returns-in-Err g c =
    let s = g.M.ModeSystem.meaning in
    let words = g.S.Shelf.words in
    let laying = Lay c.args.parents c.args.words in
    let r =
    lay_refused s laying (words c.args.shelf) (state words c.lay.new.self) c.in-Err.refusal
    (ap (step s laying) (sym c.new-engine.ensures.made) ∙ c.in-Err.ensures.served.step)
    in
    record { promise = (r.0, ap words_of r.1) }

-- the laying, wherever it was done
began : (g : _) (c : goal.In_ok-answers g) → Began g.M.ModeSystem.meaning (Lay c.args.parents c.args.words) (g.S.Shelf.words c.args.shelf) c.args.parents.now (over c.args.words.now (g.S.Shelf.words c.args.shelf)) (state g.S.Shelf.words c.lay.new.self)
began g c =
    let s = g.M.ModeSystem.meaning in
    let words = g.S.Shelf.words in
    let ws = words c.args.shelf in
    let first = over c.args.words.now ws in
    let after_it = state words c.lay.new.self in
    begins s (Lay c.args.parents c.args.words) ws c.args.parents.now first (state words c.new-engine.result) after_it c.new-engine.ensures.made refl
    c.in_default.ensures.served
    (subst (λ (st : State). Keeps s after_it (over c.args.words.now (words_of st)) []) c.new-engine.ensures.made (c.in_default.ensures.begun refl))

pub loop-call-init : goal.loop-call-init
loop-call-init g c = (search rules, search rules, (began g c).follows)

pub loop-call-preserved : goal.loop-call-preserved
loop-call-preserved g c =
    let before = c.loop-call.invariant in
    let v = c.loop-call.answers in
    let long : length (vec_items v) ≡ c.loop-call.call-index = sym v.ok.0 ∙ before.0 in
    let words = g.S.Shelf.words in
    let i = c.loop-call.call-index in (
      omega (arith, c.push_reserved.ensures.len, before.0),
      omega (arith, c.push_reserved.ensures.capacity, before.1),
      subst
          (λ (xs : List Answer).
          Follows g.M.ModeSystem.meaning c.args.parents.now (words_of (state words c.lay.new.self)) (together (take (i + 1) c.args.calls.now) xs)
          (state words c.serve-answer.new.self))
          (sym c.push_reserved.ensures.items)
          (run_more g.M.ModeSystem.meaning g.met.M.ModeSystem.lawful c.args.parents.now (words_of (state words c.lay.new.self)) c.args.calls.now (vec_items v) i _
          c.serve-answer.result (state words c.loop-call.engine) (state words c.serve-answer.new.self) c.loop-call-test.true long c.serve-answer.ensures.served before.2),
    )

pub returns : goal.returns
returns g c =
    let s = g.M.ModeSystem.meaning in
    let words = g.S.Shelf.words in
    let inv = c.loop-call.invariant in
    let v = c.loop-call.answers in
    let cs = c.args.calls.now in
    let i = c.loop-call.call-index in
    let start = began g (at-returns g c).In_ok-answers in
    let now_words = words_of (state words c.loop-call.engine) in
    let kept =
    follows_promise s g.met.M.ModeSystem.lawful c.args.parents.now (words_of (state words c.lay.new.self)) (together (take i cs) (vec_items v)) (state words c.loop-call.engine) inv.2
    in
    record {
      promise = (
        start.not_refused,
        omega (arith, v.ok.0, inv.0),
        subst (λ (ds : List Call). Promise (record { system = s; parents = c.args.parents.now }) (over c.args.words.now (words c.args.shelf)) (together ds (vec_items v)) now_words)
            (take_all i cs c.loop-call-test.false)
            (subst (λ (f : List ℕ). Promise (record { system = s; parents = c.args.parents.now }) f (together (take i cs) (vec_items v)) now_words) start.first_words kept),
      );
    }

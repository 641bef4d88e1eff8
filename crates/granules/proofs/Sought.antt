-- A search of the numbers of a range gives the first that passes, and leaves those after it.
use Rattle.std.proofs.Common.{◌≡◌, ℕ, suc, ◌-◌, Bool, true, false, cond, List, [], ◌∷◌, Option, Some, None, sym, ap, ◌∙◌, ap₂, subst, arith}
use Rattle.std.specs.declared.ops.Range.{Range}
use Rattle.std.specs.Bool.{⊤}
use Rattle.std.specs.Fn.{CalledAt}
use Rattle.std.specs.Iterator.{Yields}
use Rattle.std.specs.List.{filter, range_with_len, FoldsTo}
use Rattle.std.specs.Option.{MatchOption}
use Rattle.std.proofs.iter.Yields.{nat_range_steps}
use Rattle.std.proofs.lemmas.Bool.{cond-true, cond-false}
use denote.Param.Members.{Mut}
use denote.Ref.{Bor}

-- the numbers of a range that pass
abbrev pub left : (ℕ → Bool) → Range ℕ → List ℕ
left test s = filter test (range_with_len s.start (s.end - s.start))

-- it gave the first of a list and left the others, or nothing was left
abbrev pub Gives : Option ℕ → List ℕ → List ℕ → Type 0
Gives r xs ys = MatchOption r ((xs ≡ []) × (ys ≡ [])) (λ x. xs ≡ x ∷ ys)

step : (test : ℕ → Bool) (s t : Range ℕ) (x : ℕ) → nat_range_steps s (Some x) t → left test s ≡ cond (test x) (x ∷ left test t) (left test t)
step test s t x y =
    let n = t.end - t.start in
    let e : s.end - s.start ≡ suc n = omega (arith, y.0, y.1.0, y.1.2) in
    ap (λ (m : ℕ). filter test (range_with_len s.start m)) e
    ∙ ap₂ (λ (a b : ℕ). cond (test a) (a ∷ filter test (range_with_len b n)) (filter test (range_with_len b n))) (sym y.1.1) (sym y.1.2)

stop : (test : ℕ → Bool) (s t : Range ℕ) → nat_range_steps s None t → (left test s ≡ []) × (left test t ≡ [])
stop test s t y =
    let e : t.end - t.start ≡ 0 = omega (arith, y.0, y.1.0, y.1.1) in
    (ap (λ (m : ℕ). filter test (range_with_len s.start m)) y.1.0, ap (λ (m : ℕ). filter test (range_with_len t.start m)) e)

pub found :
    {F : Type 0} {g : Mut F (Bor ℕ × Unit {0}) Bool} (test : ℕ → Bool) (f : F)
    → ((x : ℕ) (b : Bool) (q : F) → CalledAt g f x b q → (q ≡ f) × (b ≡ test x))
    → (xs : List ℕ) (s t u : Range ℕ) (r : Option ℕ) (j : F) → Yields nat_range_steps s xs t → nat_range_steps t r u
    → FoldsTo (λ p x q. CalledAt g p x false q) f xs j → MatchOption r ⊤ (λ x. (h : F) × CalledAt g j x true h)
    → Gives r (left test s) (left test u)
found test f pure [] s t u None j y e fold hit = subst (λ (z : Range ℕ). Gives None (left test z) (left test u)) (sym y) (stop test t u e)
found {F} {g} test f pure [] s t u (Some x) j y e fold hit =
    let called : CalledAt g f x true hit.0 = subst (λ (z : F). CalledAt g z x true hit.0) (sym fold) hit.1 in
    let passes = sym (pure x true hit.0 called).1 in
    ap (left test) y ∙ step test t u x e ∙ cond-true (test x) (x ∷ left test u) (left test u) passes
found {F} {g} test f pure (x ∷ xs) s t u r j y e fold hit =
    let p = pure x false fold.0 fold.1 in
    let same = step test s y.0 x y.1 ∙ cond-false (test x) (x ∷ left test y.0) (left test y.0) (sym p.1) in
    let rest = subst (λ (z : F). FoldsTo (λ p x q. CalledAt g p x false q) z xs j) p.0 fold.2 in
    subst (λ (zs : List ℕ). Gives r zs (left test u)) (sym same) (found test f pure xs y.0 t u r j y.2 e rest hit)

-- Several jobs taken back, the oldest first.
use Rattle.std.proofs.Common.{◌≡◌, ℕ, zero, suc, ◌<◌, ◌≤◌, Bool, true, false, ◌&&◌, ltb, List, [], sym, subst, inl, inr, arith}
use Rattle.std.proofs.lemmas.Bool.Decides.{nat_tests}
use Rattle.std.proofs.lemmas.Bool.{cases_Bool}
use Rattle.shelf.specs.Words.{Fit}
use Rattle.operations.specs.Alone.{Step}
use Rattle.ledger.specs.Jobs.{put, where_so}
use Rattle.ledger.specs.Models.{Note, nothing, all_taken_back}
use Rattle.ledger.proofs.Books.{Good, good_ext, clear_one}

pub where_true : {A : Type 0} (p : ℕ → Bool) (a : A) (f : ℕ → A) (k : ℕ) → p k ≡ true → where_so p a f k ≡ a
where_true p a f k e = rw (e, where_so)

pub where_false : {A : Type 0} (p : ℕ → Bool) (a : A) (f : ℕ → A) (k : ℕ) → p k ≡ false → where_so p a f k ≡ f k
where_false p a f k e = rw (e, where_so)

pub where_cong : {A : Type 0} (p q : ℕ → Bool) (a : A) (f : ℕ → A) (k : ℕ) → p k ≡ q k → where_so p a f k ≡ where_so q a f k
where_cong p q a f k e = rw (e, where_so)

-- what holds of the new value where the test passes and of the old one where it does not holds of each
pub where_cases :
    {A : Type 0} (P : A → Type 0) (p : ℕ → Bool) (a : A) (f : ℕ → A) (k : ℕ) → (p k ≡ true → P a) → (p k ≡ false → P (f k))
    → P (where_so p a f k)
where_cases P p a f k h e =
    elim (cases_Bool (p k)) [
      | inl c ↦ subst P (sym (where_true p a f k c)) (h c)
      | inr c ↦ subst P (sym (where_false p a f k c)) (e c)
    ]

module _ {ps start : List ℕ} (fits : Fit start) {done : List Step} {live : ℕ → List Step} {n : ℕ} {ws : List ℕ} {notes : ℕ → ℕ → Note}
    (good : Good ps start done live n ws notes) (p : ℕ → Bool) (within : (k : ℕ) → p k ≡ true → k < n) where
  abbrev upto : ℕ → ℕ → Bool
  upto m k = p k && ltb k m

  -- of the numbers below m the test picks one more if it picks m
  one_more : {A : Type 0} (a : A) (f : ℕ → A) (m : ℕ) → p m ≡ true → (k : ℕ) → put m a (where_so (upto m) a f) k ≡ where_so (upto (suc m)) a f k
  one_more a f m t k = grind (arith, nat_tests)

  no_more : {A : Type 0} (a : A) (f : ℕ → A) (m : ℕ) → p m ≡ false → (k : ℕ) → where_so (upto m) a f k ≡ where_so (upto (suc m)) a f k
  no_more a f m t k = grind (arith, nat_tests)

  go : (m : ℕ) → m ≤ n → Good ps start done (where_so (upto m) [] live) n (all_taken_back p notes m ws) (where_so (upto m) (λ _. nothing) notes)
  go zero l = good_ext _ _ fits (λ k. grind (arith, nat_tests)) (λ k. grind (arith, nat_tests)) good
  go (suc m) l =
      let before = go m (omega arith) in
      elim (cases_Bool (p m)) [
        | inl t ↦
            let same : where_so (upto m) (λ _. nothing) notes m ≡ notes m = grind (arith, nat_tests) in
            rw (t, all_taken_back, ← same)
            (good_ext _ _ fits (one_more [] live m t) (one_more (λ _. nothing) notes m t) (clear_one _ _ fits before m (omega arith)))
        | inr t ↦ rw (t, all_taken_back) (good_ext _ _ fits (no_more [] live m t) (no_more (λ _. nothing) notes m t) before)
      ]

  -- The books are right with all those taken back that the test picks.
  pub wound_all : Good ps start done (where_so p [] live) n (all_taken_back p notes n ws) (where_so p (λ _. nothing) notes)
  wound_all =
      let same : (k : ℕ) → upto n k ≡ p k = λ k. grind (arith, nat_tests, within k) in
      good_ext _ _ fits (λ k. where_cong (upto n) p [] live k (same k)) (λ k. where_cong (upto n) p (λ _. nothing) notes k (same k))
      (go n (omega arith))

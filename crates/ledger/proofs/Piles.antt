-- The lists of all jobs below n, one after the other, and one of them moved to an end.
use Rattle.std.proofs.Common.{◌≡◌, ℕ, zero, suc, ◌<◌, List, [], ◌++◌, sym, refl, subst, ap₂, inl, inr, append_assoc, append-nil, arith}
use Rattle.std.proofs.lemmas.Bool.{cases_eq}
use Rattle.std.proofs.lemmas.Bool.Decides.{nat_tests}
use Rattle.operations.specs.Alone.{Step}
use Rattle.ledger.specs.Collisions.{ListsApart}
use Rattle.ledger.specs.Jobs.{put}
use Rattle.ledger.proofs.Runs.{Same, same_trans, same_before, same_exchange, apart_none, apart_++, apart_sym}

pub put_same : {A : Type 0} (j : ℕ) (a : A) (f : ℕ → A) → put j a f j ≡ a
put_same j a f = grind (arith, nat_tests)

pub put_at : {A : Type 0} (j : ℕ) (a : A) (f : ℕ → A) (k : ℕ) → k ≡ j → put j a f k ≡ a
put_at j a f k h = grind (arith, nat_tests)

pub put_other : {A : Type 0} (j : ℕ) (a : A) (f : ℕ → A) (k : ℕ) → (k ≡ j → ⊥) → put j a f k ≡ f k
put_other j a f k h = grind (arith, nat_tests)

-- what holds of the new value at j and of the old ones elsewhere holds of each
pub put_cases :
    {A : Type 0} (P : A → Type 0) (j : ℕ) (a : A) (f : ℕ → A) (k : ℕ) → (k ≡ j → P a) → ((k ≡ j → ⊥) → P (f k)) → P (put j a f k)
put_cases P j a f k h e =
    elim (cases_eq k j) [
      | inl c ↦ subst P (sym (put_at j a f k c)) (h c)
      | inr c ↦ subst P (sym (put_other j a f k c)) (e c)
    ]

abbrev pub pile : (ℕ → List Step) → ℕ → List Step
pile f zero = []
pile f (suc n) = pile f n ++ f n

pub pile_ext : (f g : ℕ → List Step) (n : ℕ) → ((k : ℕ) → k < n → f k ≡ g k) → pile f n ≡ pile g n
pile_ext f g zero h = refl
pile_ext f g (suc n) h = ap₂ (λ (xs ys : List Step). xs ++ ys) (pile_ext f g n (λ k l. h k (omega arith))) (h n (omega arith))

pub pile_none : (f : ℕ → List Step) (n : ℕ) → ((k : ℕ) → k < n → f k ≡ []) → pile f n ≡ []
pile_none f zero h = refl
pile_none f (suc n) h =
    ap₂ (λ (xs ys : List Step). xs ++ ys) (pile_none f n (λ k l. h k (omega arith))) (h n (omega arith))

-- the lists of any two jobs are apart
abbrev pub Pairwise : List ℕ → (ℕ → List Step) → Type 0
Pairwise ps f = (i j : ℕ) → (i ≡ j → ⊥) → ListsApart ps (f i) (f j)

module _ (ps : List ℕ) where
  -- a job without its steps is apart from all
  pub pairwise_clear : (f : ℕ → List Step) → Pairwise ps f → (k : ℕ) → Pairwise ps (put k [] f)
  pairwise_clear f h k i j n =
      put_cases (λ xs. ListsApart ps xs (put k [] f j)) k [] f i (λ _. tt)
      (λ _. put_cases (ListsApart ps (f i)) k [] f j (λ _. apart_none ps (f i)) (λ _. h i j n))

  pub apart_pile : (ss : List Step) (f : ℕ → List Step) (n : ℕ) → ((k : ℕ) → k < n → ListsApart ps ss (f k)) → ListsApart ps ss (pile f n)
  apart_pile ss f zero h = apart_none ps ss
  apart_pile ss f (suc n) h = apart_++ ps ss (pile f n) (f n) (apart_pile ss f n (λ k l. h k (omega arith))) (h n (omega arith))

  -- one job first
  pub first : (f : ℕ → List Step) → Pairwise ps f → (k n : ℕ) → k < n → Same ps (pile f n) (f k ++ pile (put k [] f) n)
  first f h k zero l = absurd (omega arith)
  first f h k (suc n) l =
      let g = put k [] f in
      elim (cases_eq k n) [
        | inl e ↦
            let same : pile g n ≡ pile f n = pile_ext g f n (λ j m. grind (arith, nat_tests)) in
            let gone : g n ≡ [] = grind (arith, nat_tests) in
            rw (same, gone, append-nil, e)
            (same_exchange ps (pile f n) (f n) (apart_sym ps (f n) (pile f n) (apart_pile (f n) f n (λ j m. h n j (λ z. omega arith)))))
        | inr e ↦
            let kept : g n ≡ f n = grind (arith, nat_tests) in
            rw (kept, ← append_assoc) (same_before ps (f n) (pile f n) (f k ++ pile g n) (first f h k n (omega arith)))
      ]

  -- one job last
  pub last : (f : ℕ → List Step) → Pairwise ps f → (k n : ℕ) → k < n → Same ps (pile f n) (pile (put k [] f) n ++ f k)
  last f h k n l =
      let g = put k [] f in
      same_trans ps (pile f n) (f k ++ pile g n) (pile g n ++ f k) (first f h k n l)
      (same_exchange ps (f k) (pile g n)
      (apart_pile (f k) g n
      (λ j m. put_cases (ListsApart ps (f k)) k [] f j (λ _. apart_none ps (f k)) (λ d. h k j (λ z. d (sym z))))))

-- What tests, counts and sums over the numbers below n say at one of them.
use Rattle.std.proofs.Common.{◌≡◌, ℕ, zero, suc, ◌+◌, ◌<◌, ◌≤◌, Bool, true, false, cond, ◌||◌, sym, refl, ap, subst, inl, inr, add-one, arith}
use Rattle.std.proofs.lemmas.Bool.{cases_eq, and_parts, or_cases, or_left, or_right, both_ways, cond-false, cond-true, cases_Bool}
use Rattle.granules.specs.Below.{each_below, some_below, sum_below, count_below}

pub each_at : (n : ℕ) (f : ℕ → Bool) → each_below n f ≡ true → (k : ℕ) → k < n → f k ≡ true
each_at zero f t k h = absurd (omega arith)
each_at (suc n) f t k h =
    let both = and_parts (each_below n f) (f n) t in
    elim (cases_eq k n) [
      | inl e ↦ subst (λ (m : ℕ). f m ≡ true) (sym e) both.1
      | inr e ↦ each_at n f both.0 k (omega arith)
    ]

pub some_at : (n : ℕ) (f : ℕ → Bool) → some_below n f ≡ true → (k : ℕ) × (k < n) × (f k ≡ true)
some_at zero f t = absurd (both_ways false refl t)
some_at (suc n) f t =
    elim (or_cases (some_below n f) (f n) t) [
      | inl a ↦ let r = some_at n f a in (r.0, omega arith, r.2)
      | inr b ↦ (n, omega arith, b)
    ]

pub some_from : (n : ℕ) (f : ℕ → Bool) (k : ℕ) → k < n → f k ≡ true → some_below n f ≡ true
some_from zero f k h e = absurd (omega arith)
some_from (suc n) f k h e =
    elim (cases_eq k n) [
      | inl s ↦ or_right (some_below n f) (f n) (subst (λ (m : ℕ). f m ≡ true) s e)
      | inr s ↦ or_left (some_below n f) (f n) (some_from n f k (omega arith) e)
    ]

pub some_more : (i : ℕ) (f : ℕ → Bool) → some_below (i + 1) f ≡ (some_below i f || f i)
some_more i f = rw add-one

pub never : (b : Bool) → (b ≡ true → ⊥) → b ≡ false
never true h = absurd (h refl)
never false h = refl

-- nothing is counted where the test never passes
pub sum_none : (n : ℕ) (f : ℕ → Bool) (figure : ℕ → ℕ) → ((k : ℕ) → k < n → f k ≡ true → ⊥) → sum_below n f figure ≡ 0
sum_none zero f figure h = refl
sum_none (suc n) f figure h =
    let rest = sum_none n f figure (λ k l. h k (omega arith)) in
    let last = cond-false (f n) (figure n) 0 (never (f n) (h n (omega arith))) in
    omega arith

-- one of which the test passes is counted
pub sum_has : (n : ℕ) (f : ℕ → Bool) (figure : ℕ → ℕ) (k : ℕ) → k < n → f k ≡ true → figure k ≤ sum_below n f figure
sum_has zero f figure k h e = absurd (omega arith)
sum_has (suc n) f figure k h e =
    elim (cases_eq k n) [
      | inl s ↦
          let at_n : f n ≡ true = subst (λ (m : ℕ). f m ≡ true) s e in
          let last = cond-true (f n) (figure n) 0 at_n in
          let same = ap figure s in
          omega arith
      | inr s ↦ let rest = sum_has n f figure k (omega arith) e in omega arith
    ]

pub count_le : (n : ℕ) (f : ℕ → Bool) → count_below n f ≤ n
count_le zero f = omega arith
count_le (suc n) f =
    let rest = count_le n f in
    elim (cases_Bool (f n)) [
      | inl e ↦ let last : ◌≡◌ {A = ℕ} (cond (f n) 1 0) 1 = cond-true (f n) 1 0 e in omega arith
      | inr e ↦ let last : ◌≡◌ {A = ℕ} (cond (f n) 1 0) 0 = cond-false (f n) 1 0 e in omega arith
    ]

-- A test that passes at each number below n, computed, and what it says at one of them.
-- Lemmas: they stand here, and not in proofs/, since an impl may show its laws only by what stands in specs/.
use Rattle.std.specs.Prelude.{◌≡◌, ℕ, zero, suc, ◌<◌, Bool, true, ◌&&◌}
use Rattle.std.proofs.Common.{subst, sym, inl, inr, arith}
use Rattle.std.proofs.lemmas.Bool.{cases_eq, and_parts}

-- whether the test passes at each number below n
abbrev pub below : ℕ → (ℕ → Bool) → Bool
below zero f = true
below (suc n) f = f n && below n f

pub at : (n : ℕ) (f : ℕ → Bool) → below n f ≡ true → (k : ℕ) → k < n → f k ≡ true
at zero f t k h = absurd (omega arith)
at (suc n) f t k h =
    let both = and_parts (f n) (below n f) t in
    elim (cases_eq k n) [
      | inl e ↦ subst (λ (m : ℕ). f m ≡ true) (sym e) both.0
      | inr e ↦ at n f both.1 k (omega arith)
    ]

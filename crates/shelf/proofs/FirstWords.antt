-- First words put one after the other.
use Rattle.std.proofs.Common.{◌≡◌, ℕ, zero, suc, ◌+◌, ◌<◌, List, [], ◌∷◌, length, get_or, take, set, sym, refl, ap, ◌∙◌, add-one, arith}
use Rattle.shelf.specs.Words.{over}

-- one word more
over_next : (fs ws : List ℕ) (i : ℕ) → i < length fs → set (over (take i fs) ws) i (get_or fs i 0) ≡ over (take (suc i) fs) ws
over_next [] ws i l = absurd (omega arith)
over_next (f ∷ fs) [] zero l = refl
over_next (f ∷ fs) (w ∷ ws) zero l = refl
over_next (f ∷ fs) [] (suc i) l = refl
over_next (f ∷ fs) (w ∷ ws) (suc i) l = ap (λ (xs : List ℕ). f ∷ xs) (over_next fs ws i (omega arith))

pub over_more : (fs ws : List ℕ) (i : ℕ) → i < length fs → set (over (take i fs) ws) i (get_or fs i 0) ≡ over (take (i + 1) fs) ws
over_more fs ws i l = over_next fs ws i l ∙ ap (λ (n : ℕ). over (take n fs) ws) (sym (add-one i))

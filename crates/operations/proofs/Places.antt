-- Words place by place: sums of them, and a change of each.
use Rattle.std.proofs.Common.{◌≡◌, ℕ, zero, suc, ◌+◌, ◌*◌, ◌<◌, ◌≤◌, Bool, true, false, List, [], ◌∷◌, length, get_or, unwrap_or, sym, refl, ap, ◌∙◌, ap₂, inl, inr, add-zero, add-suc, suc-add, zero-add, arith}
use Rattle.std.proofs.lemmas.List.{get_or_past}
use Rattle.std.proofs.lemmas.Bool.{cases_lt, cases_Bool, cond-true, cond-false, lt-ltb, le-ltb}
use Rattle.shelf.specs.Words.{at}
use Rattle.granules.specs.Below.{sum_below}
use Rattle.granules.specs.Paths.{record_beneath}
use Rattle.operations.specs.declared.operation.Action.{Action}
use Rattle.operations.specs.declared.operation.Action.TheVariants.{Read, Mean}
use Rattle.operations.specs.declared.operation.Operation.{Operation}
use Rattle.operations.specs.Actions.{changed}
use Rattle.operations.specs.Words.{sum, largest_sum, each_from, left_at, after}

-- what a place gives, or 0
pub word_at : (ws : List ℕ) (place : ℕ) → unwrap_or (at ws place) 0 ≡ get_or ws place 0
word_at ws place =
    elim (cases_lt place (length ws)) [
      | inl l ↦ let t = lt-ltb place (length ws) l in rw (t, at)
      | inr l ↦ let t = le-ltb place (length ws) l in let e = get_or_past ws place 0 l in rw (t, at, e)
    ]

-- a sum of figures is at most as many times the largest
sum_le : (n : ℕ) (f : ℕ → Bool) (figure : ℕ → ℕ) (m : ℕ) → ((k : ℕ) → figure k ≤ m) → sum_below n f figure ≤ n * m
sum_le zero f figure m h = omega arith
sum_le (suc n) f figure m h = grind (arith, sum_le n f figure m h, h n)

pub sum_bound :
    (ps ws : List ℕ) (g : ℕ) → length ps ≤ 256 → ((k : ℕ) → get_or ws k 0 ≤ 4294967295) → sum ps ws g ≤ largest_sum
sum_bound ps ws g few fit =
    omega (arith, sum_le (length ps) (record_beneath ps g) (λ r. get_or ws r 0) 4294967295 fit)

pub length_each : (i : ℕ) (f : ℕ → ℕ → ℕ) (ws : List ℕ) → length (each_from i f ws) ≡ length ws
length_each i f [] = refl
length_each i f (w ∷ ws) = ap suc (length_each (suc i) f ws)

each_at : (i : ℕ) (f : ℕ → ℕ → ℕ) (ws : List ℕ) (k : ℕ) → k < length ws → get_or (each_from i f ws) k 0 ≡ f (i + k) (get_or ws k 0)
each_at i f [] k h = absurd (omega arith)
each_at i f (w ∷ ws) zero h = ap (λ (x : ℕ). f x w) (sym (add-zero i))
each_at i f (w ∷ ws) (suc k) h =
    each_at (suc i) f ws k (omega arith) ∙ ap (λ (x : ℕ). f x (get_or ws k 0)) (suc-add i k ∙ sym (add-suc i k))

-- what stands at a place after a change of each
pub get_or_each : (f : ℕ → ℕ → ℕ) (ws : List ℕ) (k : ℕ) → k < length ws → get_or (each_from 0 f ws) k 0 ≡ f k (get_or ws k 0)
get_or_each f ws k h = each_at 0 f ws k h ∙ ap (λ (x : ℕ). f x (get_or ws k 0)) (zero-add k)

pub each_same :
    (i : ℕ) (f h : ℕ → ℕ → ℕ) (ws : List ℕ) → ((k w : ℕ) → f k w ≡ h k w) → each_from i f ws ≡ each_from i h ws
each_same i f h [] e = refl
each_same i f h (w ∷ ws) e = ap₂ (λ (x : ℕ) (xs : List ℕ). x ∷ xs) (e i w) (each_same (suc i) f h ws e)

pub each_still : (i : ℕ) (f : ℕ → ℕ → ℕ) (ws : List ℕ) → ((k w : ℕ) → f k w ≡ w) → each_from i f ws ≡ ws
each_still i f [] e = refl
each_still i f (w ∷ ws) e = ap₂ (λ (x : ℕ) (xs : List ℕ). x ∷ xs) (e i w) (each_still (suc i) f ws e)

-- what an operation leaves at a place that it does not reach, and at one that it does
pub left_still : (ps : List ℕ) (o : Operation) (k w : ℕ) → record_beneath ps o.granule k ≡ false → left_at ps o k w ≡ w
left_still ps o k w e = cond-false (record_beneath ps o.granule k) (changed o.action w) w e

pub left_new : (ps : List ℕ) (o : Operation) (k w : ℕ) → record_beneath ps o.granule k ≡ true → left_at ps o k w ≡ changed o.action w
left_new ps o k w e = cond-true (record_beneath ps o.granule k) (changed o.action w) w e

-- an action that leaves each word leaves the shelf
pub after_still : (ps : List ℕ) (o : Operation) (ws : List ℕ) → ((w : ℕ) → changed o.action w ≡ w) → after ps o ws ≡ ws
unfolding after
after_still ps o ws h =
    each_still 0 (left_at ps o) ws
    (λ k w.
    elim (cases_Bool (record_beneath ps o.granule k))
    [ inl t ↦ left_new ps o k w t ∙ h w | inr t ↦ left_still ps o k w t ])

pub after_read : (ps : List ℕ) (o : Operation) (ws : List ℕ) → o.action ≡ Read → after ps o ws ≡ ws
after_read ps o ws e = after_still ps o ws (λ w. ap (λ (a : Action). changed a w) e)

pub after_mean : (ps : List ℕ) (o : Operation) (ws : List ℕ) → o.action ≡ Mean → after ps o ws ≡ ws
after_mean ps o ws e = after_still ps o ws (λ w. ap (λ (a : Action). changed a w) e)

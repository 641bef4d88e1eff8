-- The words of two shelves end to end, by the side that a place lies on.
-- Lemmas: they stand here, and not in proofs/, since an impl may show its laws only by what stands in specs/.
use Rattle.std.specs.Prelude.{◌≡◌, ℕ, ◌+◌, ◌-◌, ◌<◌, ◌≤◌, min, cond, ltb, List, ◌++◌, length, take, Some, None, Option, nat_lt, slice_index, refl}
use Rattle.std.proofs.Common.{sym, ◌∙◌, ap, ap₂, inl, inr, arith, length-take, length-append}
use Rattle.std.proofs.Math.Seq.{take-set-lt}
use Rattle.std.proofs.lemmas.List.{get_or_past, get_or-take, get_or_append_left, get_or-append_right, set-append_left, set-append_right, set_past}
use Rattle.std.proofs.lemmas.Bool.{cond_above, cond_both, cases_lt, le-ltb, ltb-true, ltb-false}
use Rattle.std.proofs.lemmas.Bool.Decides.{nat_tests}
use Rattle.shelf.specs.declared.joined.Side.{Side}
use Rattle.shelf.specs.declared.joined.Side.TheVariants.{First, Second}
use Rattle.shelf.specs.Words.{Fit, joined}
use Rattle.shelf.specs.Sides.{side, Leads}

-- what holds at each side, where a place lies on it, holds at the side that it lies on
by_side :
    (P : Option Side → Type 0) (n i : ℕ) → (i < 65536 → i < n → P (Some (First i))) → (i < 65536 → n ≤ i → P (Some (Second (i - n))))
    → (65536 ≤ i → P None) → P (side n i)
by_side P n i first second outside =
    cond_both (nat_lt i 65536) _ None P
    (λ l.
    cond_both (nat_lt i n) (First i) (Second (i - n)) (λ s. P (Some s)) (λ h. first (ltb-true i 65536 l) (ltb-true i n h))
    (λ h. second (ltb-true i 65536 l) (ltb-false i n h)))
    (λ l. outside (ltb-false i 65536 l))

module _ (xs ys : List ℕ) where
  -- two shelves end to end have all their places, up to the limit
  pub length_joined : length (joined xs ys) ≡ min (length xs + length ys) 65536
  length_joined = simp (length-take, length-append) (omega arith)

  pub joined_few : length (joined xs ys) ≤ 65536
  joined_few = rw length_joined (omega arith)

  -- the word at a place, on each side
  held_first : (i : ℕ) → i < 65536 → i < length xs → slice_index xs i ≡ slice_index (joined xs ys) i
  held_first i l h = sym (get_or-take 65536 (xs ++ ys) i 0 l ∙ get_or_append_left xs ys 0 i h)

  held_second : (i : ℕ) → i < 65536 → length xs ≤ i → slice_index ys (i - length xs) ≡ slice_index (joined xs ys) i
  held_second i l h = sym (get_or-take 65536 (xs ++ ys) i 0 l ∙ get_or-append_right xs ys (length xs) i 0 refl h)

  -- they end at the limit
  ends : (i : ℕ) → 65536 ≤ i → length (joined xs ys) ≤ i
  ends i h = rw length_joined (omega arith)

  -- the words of both are words
  pub joined_fit : Fit xs → Fit ys → Fit (joined xs ys)
  joined_fit f g i =
      elim (cases_lt i 65536) [
        | inl l ↦
            elim (cases_lt i (length xs)) [
              | inl h ↦ omega (arith, held_first i l h, f i)
              | inr h ↦ omega (arith, held_second i l h, g (i - length xs))
            ]
        | inr l ↦ omega (arith, get_or_past (joined xs ys) i 0 (ends i l))
      ]

  -- what a place leads to on the first side, on the second and outside
  first : (i : ℕ) → i < 65536 → i < length xs → Leads xs ys i (Some (First i))
  first i l h =
      let says : ltb i (length xs) ≡ ltb i (length (joined xs ys)) = rw length_joined (grind (arith, nat_tests)) in
      record {
        gives = ap₂ (λ b v. cond b (Some v) None) says (held_first i l h);
        says = says;
        leaves = λ w. ap (take 65536) (sym (set-append_left xs ys i w h)) ∙ take-set-lt 65536 (xs ++ ys) i w l;
      }

  second : (i : ℕ) → i < 65536 → length xs ≤ i → Leads xs ys i (Some (Second (i - length xs)))
  second i l h =
      let says : ltb (i - length xs) (length ys) ≡ ltb i (length (joined xs ys)) = rw length_joined (grind (arith, nat_tests)) in
      record {
        gives = ap₂ (λ b v. cond b (Some v) None) says (held_second i l h);
        says = says;
        leaves = λ w. ap (take 65536) (sym (set-append_right xs ys (length xs) i w refl h)) ∙ take-set-lt 65536 (xs ++ ys) i w l;
      }

  outside : (i : ℕ) → 65536 ≤ i → Leads xs ys i None
  outside i h =
      record {
        gives = cond_above i (length (joined xs ys)) (Some (slice_index (joined xs ys) i)) None None (ends i h) refl;
        says = sym (le-ltb i (length (joined xs ys)) (ends i h));
        leaves = λ w. sym (set_past (joined xs ys) i w (ends i h));
      }

  -- a place leads to its side, where the first shelf has as many places as it says
  pub leads : (n i : ℕ) → n ≡ length xs → Leads xs ys i (side n i)
  leads n i e = rw e (by_side (Leads xs ys i) (length xs) i (first i) (second i) (outside i))

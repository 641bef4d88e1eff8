-- The first place of a number in a list, and lists whose numbers are apart and given.
use Rattle.std.proofs.Common.{◌≡◌, ℕ, zero, suc, ◌<◌, ◌≤◌, true, false, ltb, List, [], ◌∷◌, length, get_or, set, fold, min, Some, refl, inl, inr, arith}
use Rattle.std.proofs.lemmas.List.{get_or_past}
use Rattle.std.proofs.lemmas.Option.{none-some}
use Rattle.std.proofs.lemmas.Bool.{cases_lt, lt-ltb, le-ltb, both_ways}
use Rattle.std.proofs.lemmas.Bool.Decides.{nat_tests}
use Rattle.granules.specs.Paths.{among}
use Rattle.std.specs.List.{filter, reduce}
use Rattle.tables.specs.Seats.{place, distinct, all_given, next_above}

-- what stands at the first place
pub place_at : (xs : List ℕ) (k : ℕ) → place xs k < length xs → get_or xs (place xs k) 0 ≡ k
place_at [] k l = absurd (omega arith)
place_at (x ∷ xs) k l = grind (arith, nat_tests, place_at xs k)

-- a first place is no further than the end
pub place_bound : (xs : List ℕ) (k : ℕ) → place xs k ≤ length xs
place_bound [] k = omega arith
place_bound (x ∷ xs) k = grind (arith, nat_tests, place_bound xs k)

-- numbers that were given stay so when more are
pub given_more : (n m : ℕ) (xs : List ℕ) → n ≤ m → all_given n xs ≡ true → all_given m xs ≡ true
given_more n m [] h e = refl
given_more n m (x ∷ xs) h e = grind (arith, nat_tests, given_more n m xs h)

-- a number that was given may be put anywhere
pub given_set : (n : ℕ) (xs : List ℕ) (i v : ℕ) → v ≤ n → all_given n xs ≡ true → all_given n (set xs i v) ≡ true
given_set n [] i v h e = refl
given_set n (x ∷ xs) zero v h e = grind (arith, nat_tests)
given_set n (x ∷ xs) (suc i) v h e = grind (arith, nat_tests, given_set n xs i v h)

-- a number that was not given is not among those that were
pub new_among : (n : ℕ) (xs : List ℕ) (v : ℕ) → n < v → all_given n xs ≡ true → among v xs ≡ false
new_among n [] v h e = refl
new_among n (x ∷ xs) v h e = grind (arith, nat_tests, new_among n xs v h)

-- nor does a number come among others by being put for one of them, unless it is that number
among_set : (xs : List ℕ) (i v x : ℕ) → (x ≡ v → ⊥) → among x xs ≡ false → among x (set xs i v) ≡ false
among_set [] i v x d e = refl
among_set (y ∷ ys) zero v x d e = grind (arith, nat_tests)
among_set (y ∷ ys) (suc i) v x d e = grind (arith, nat_tests, among_set ys i v x d)

-- Numbers stay apart when a new one is put for one of them.
pub distinct_new : (n : ℕ) (xs : List ℕ) (i v : ℕ) → n < v → all_given n xs ≡ true → distinct xs ≡ true → distinct (set xs i v) ≡ true
distinct_new n [] i v h g e = refl
distinct_new n (x ∷ xs) zero v h g e = grind (arith, nat_tests, new_among n xs v h)
distinct_new n (x ∷ xs) (suc i) v h g e = grind (arith, nat_tests, distinct_new n xs i v h, among_set xs i v x)

-- And when a slot is freed.
pub distinct_free : (xs : List ℕ) (i : ℕ) → distinct xs ≡ true → distinct (set xs i 0) ≡ true
distinct_free [] i e = refl
distinct_free (x ∷ xs) zero e = grind (arith, nat_tests)
distinct_free (x ∷ xs) (suc i) e = grind (arith, nat_tests, distinct_free xs i, among_set xs i 0 x)

-- What a search for the next number finds, where it finds any: it is above n, no number above n that it met is smaller, and it
-- is one of these.
pub record Nearest (n : ℕ) (xs : List ℕ) (r : ℕ) : Type 0 where
  pub above : (r ≡ 0 → ⊥) → n < r
  pub least : (x : ℕ) → among x xs ≡ true → n < x → (r ≡ 0 → ⊥) × (r ≤ x)
  pub found : (r ≡ 0 → ⊥) → among r xs ≡ true

-- The same, where there is one.
record Least (n : ℕ) (xs : List ℕ) (r : ℕ) : Type 0 where
  above : n < r
  least : (x : ℕ) → among x xs ≡ true → n < x → r ≤ x
  found : among r xs ≡ true

better : (n b : ℕ) (xs : List ℕ) → n < b → Least n (b ∷ xs) (fold min b (filter (ltb n) xs))
better n b [] l = record { above = l; least = λ y e k. grind (arith, nat_tests); found = grind (arith, nat_tests) }
better n b (x ∷ xs) l =
    elim (cases_lt n x) [
      | inl m ↦
          let h = better n (min b x) xs (omega arith) in
          let t = lt-ltb n x m in
          rw (t, filter)
          (record {
            above = h.above;
            least = λ y e k. grind (arith, nat_tests, h.least y, h.least (min b x));
            found = grind (arith, nat_tests, h.found);
          })
      | inr m ↦
          let h = better n b xs l in
          let t = le-ltb n x m in
          rw (t, filter)
          (record { above = h.above; least = λ y e k. grind (arith, nat_tests, h.least y); found = grind (arith, nat_tests, h.found) })
    ]

pub next_nearest : (n : ℕ) (numbers : List ℕ) → Nearest n numbers (next_above n numbers)
next_nearest n [] = record { above = λ d. absurd (d refl); least = λ x e. absurd (both_ways false refl e); found = λ d. absurd (d refl) }
next_nearest n (x ∷ xs) =
    elim (cases_lt n x) [
      | inl m ↦
          let h = better n x xs m in
          let t = lt-ltb n x m in
          rw (t, filter)
          (record { above = λ d. h.above; least = λ y e k. (λ z. omega (arith, z, h.above), h.least y e k); found = λ d. h.found })
      | inr m ↦
          let h = next_nearest n xs in
          let t = le-ltb n x m in
          rw (t, filter)
          (record { above = h.above; least = λ y e k. h.least y (grind (arith, nat_tests)) k; found = λ d. grind (arith, nat_tests, h.found d) })
    ]

-- a number that is found is above n
pub next_some : (n : ℕ) (xs : List ℕ) (k : ℕ) → reduce min (filter (ltb n) xs) ≡ Some k → n < k
next_some n [] k e = absurd (none-some k e)
next_some n (x ∷ xs) k e = grind (arith, nat_tests, λ (m : n < x). (better n x xs m).above, next_some n xs k)

-- a number that stands in a list has a place there, and the other way round
pub among_place : (xs : List ℕ) (k : ℕ) → among k xs ≡ true → place xs k < length xs
among_place [] k e = absurd (both_ways false refl e)
among_place (x ∷ xs) k e = grind (arith, nat_tests, among_place xs k)

pub place_among : (xs : List ℕ) (k : ℕ) → place xs k < length xs → among k xs ≡ true
place_among [] k l = absurd (omega arith)
place_among (x ∷ xs) k l = grind (arith, nat_tests, place_among xs k)

pub among_at : (xs : List ℕ) (i : ℕ) → i < length xs → among (get_or xs i 0) xs ≡ true
among_at [] i l = absurd (omega arith)
among_at (x ∷ xs) zero l = grind (arith, nat_tests)
among_at (x ∷ xs) (suc i) l = grind (arith, nat_tests, among_at xs i)

-- a number that is apart from the others has its first place where it stands
pub place_own : (xs : List ℕ) (i : ℕ) → i < length xs → distinct xs ≡ true → (get_or xs i 0 ≡ 0 → ⊥) → place xs (get_or xs i 0) ≡ i
place_own [] i l e d = absurd (omega arith)
place_own (x ∷ xs) zero l e d = grind (arith, nat_tests)
place_own (x ∷ xs) (suc i) l e d = grind (arith, nat_tests, place_own xs i, among_at xs i)

-- a number written at a place: the first places of others stay
pub place_set_other :
    (xs : List ℕ) (i v k : ℕ) → (k ≡ v → ⊥) → (k ≡ get_or xs i 0 → ⊥) → place (set xs i v) k ≡ place xs k
place_set_other [] i v k d e = refl
place_set_other (x ∷ xs) zero v k d e = grind (arith, nat_tests)
place_set_other (x ∷ xs) (suc i) v k d e = grind (arith, nat_tests, place_set_other xs i v k d e)

-- and a new number has its first place there
pub place_set_new : (xs : List ℕ) (i v : ℕ) → i < length xs → among v xs ≡ false → place (set xs i v) v ≡ i
place_set_new [] i v l e = absurd (omega arith)
place_set_new (x ∷ xs) zero v l e = grind (arith, nat_tests)
place_set_new (x ∷ xs) (suc i) v l e = grind (arith, nat_tests, place_set_new xs i v)

-- a number whose only place is written over is gone
pub among_gone : (xs : List ℕ) (i k : ℕ) → (k ≡ 0 → ⊥) → distinct xs ≡ true → get_or xs i 0 ≡ k → among k (set xs i 0) ≡ false
among_gone [] i k d a e = refl
among_gone (x ∷ xs) zero k d a e = grind (arith, nat_tests)
among_gone (x ∷ xs) (suc i) k d a e = grind (arith, nat_tests, among_at xs i, get_or_past xs i 0, among_gone xs i k d)

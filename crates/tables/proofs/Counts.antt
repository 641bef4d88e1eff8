-- Jobs counted by their numbers are the slots counted one by one.
use Rattle.std.proofs.lemmas.Bool.Decides.{nat_tests}
use Rattle.std.proofs.Common.{◌≡◌, ℕ, zero, suc, ◌+◌, ◌<◌, Bool, true, false, cond, not, ◌||◌, eqb, leb, List, [], ◌∷◌, length, get_or, sym, refl, ap, ◌∙◌, inl, inr, arith}
use Rattle.std.proofs.lemmas.List.{get_or_past}
use Rattle.std.proofs.lemmas.Bool.{cases_eq, both_ways, and_parts, le-leb, lt-leb, leb-true}
use Rattle.granules.specs.Below.{count_below, sum_below}
use Rattle.granules.specs.Paths.{among}
use Rattle.granules.proofs.Below.{sum_none, count_le}
use Rattle.ledger.specs.declared.job.Status.TheVariants.{Ended}
use Rattle.ledger.specs.Jobs.{is_ended}
use Rattle.ledger.specs.Ledgers.{unended}
use Rattle.tables.specs.declared.held.Held.{Held}
use Rattle.tables.specs.declared.seats.Seats.{Seats}
use Rattle.tables.specs.Seats.{place, slot, distinct, all_given}
use Rattle.tables.specs.Views.{jobs_of, numbers_of, states_of}
use Rattle.tables.proofs.Places.{place_at, among_at, among_place}
use Rattle.tables.proofs.Views.{slot_among}
use Rattle.tables.proofs.Sitting.{numbers_full, free_at}

-- the first counted apart
pub sum_front :
    (m : ℕ) (q : ℕ → Bool) (f : ℕ → ℕ) → sum_below (suc m) q f ≡ cond (q 0) (f 0) 0 + sum_below m (λ i. q (suc i)) (λ i. f (suc i))
sum_front zero q f = omega arith
sum_front (suc m) q f = omega (arith, sum_front m q f)

count_ext : (n : ℕ) (p q : ℕ → Bool) → ((k : ℕ) → k < n → p k ≡ q k) → count_below n p ≡ count_below n q
count_ext zero p q h = refl
count_ext (suc n) p q h = grind (arith, h n (omega arith), count_ext n p q (λ k l. h k (omega arith)))

-- two tests that differ at one place only
count_one :
    (n : ℕ) (p q : ℕ → Bool) (x : ℕ) → x < n → q x ≡ false → ((k : ℕ) → (k ≡ x → ⊥) → p k ≡ q k)
    → count_below n p ≡ count_below n q + cond (p x) 1 0
count_one zero p q x l e h = absurd (omega arith)
count_one (suc n) p q x l e h =
    elim (cases_eq x n) [
      | inl z ↦ grind (arith, e, count_ext n p q (λ k m. h k (λ (y : k ≡ x). omega arith)))
      | inr z ↦ grind (arith, h n (λ (y : n ≡ x). z (sym y)), count_one n p q x (omega arith) e h)
    ]

count_all : (n : ℕ) (f : ℕ → Bool) → ((k : ℕ) → k < n → f k ≡ true) → count_below n f ≡ n
count_all zero f h = refl
count_all (suc n) f h = grind (arith, h n (omega arith), count_all n f (λ k l. h k (omega arith)))

count_lacks : (n : ℕ) (f : ℕ → Bool) (k : ℕ) → k < n → f k ≡ false → count_below n f < n
count_lacks zero f k l e = absurd (omega arith)
count_lacks (suc n) f k l e = grind (arith, nat_tests, count_le n f, count_lacks n f k)

-- Whoever sits in a slot of which a test passes is counted once, by number or by slot.
pub seat_count :
    (xs : List ℕ) (n : ℕ) (q : ℕ → Bool) → distinct xs ≡ true → all_given n xs ≡ true → ((i : ℕ) → get_or xs i 0 ≡ 0 → q i ≡ false)
    → count_below (suc n) (λ k. q (slot xs k)) ≡ count_below (length xs) q
seat_count [] n q apart given h =
    sum_none (suc n) (λ k. q (slot [] k)) (λ _. 1)
    (λ k l e. both_ways (q (slot [] k)) (h (slot [] k) refl) e)
seat_count (x ∷ xs) n q apart given h =
    let ps = and_parts (eqb x 0 || not (among x xs)) (distinct xs) apart in
    let gs = and_parts (leb x n) (all_given n xs) given in
    let rest = seat_count xs n (λ i. q (suc i)) ps.1 gs.1 (λ i e. h (suc i) e) in
    let front = sum_front (length xs) q (λ _. 1) in
    elim (cases_eq x 0) [
      | inl z ↦ grind (arith, rest, front, h 0 z, count_ext (suc n) p p' (λ k l. agree k (λ some e. some (sym e ∙ z))))
      | inr z ↦
          let gone : among x xs ≡ false = grind (arith, nat_tests, ps.0) in
          let here : p x ≡ q 0 = grind (arith, nat_tests) in
          let more = count_one (suc n) p p' x (omega (arith, leb-true x n gs.0)) (missing gone) (λ k d. agree k (λ some e. d (sym e))) in
          grind (arith, rest, front, here, more)
    ]
  where
    p : ℕ → Bool
    p k = q (slot (x ∷ xs) k)

    p' : ℕ → Bool
    p' k = q (suc (slot xs k))

    agree : (k : ℕ) → ((k ≡ 0 → ⊥) → x ≡ k → ⊥) → p k ≡ p' k
    agree k d = grind (arith, nat_tests, d)

    missing : among x xs ≡ false → p' x ≡ false
    missing e = grind (arith, nat_tests, slot_among xs x, get_or_past xs (slot xs x) 0, h (suc (slot xs x)))

-- There is a free slot just if fewer than 16 jobs have not ended.
module _ (seats : Seats) (held : Held) where
  abbrev lives : ℕ → Bool
  lives i = not (is_ended (get_or (states_of seats) i Ended))

  seated : unended (jobs_of seats held) ≡ count_below 16 lives
  seated =
      seat_count (numbers_of seats) seats.opened lives seats.apart seats.known (λ i e. grind (arith, nat_tests, free_at seats i))
      ∙ ap (λ (n : ℕ). count_below n lives) (numbers_full seats)

  pub all_taken : place (numbers_of seats) 0 ≡ 16 → leb 16 (unended (jobs_of seats held)) ≡ true
  all_taken e =
      let numbers = numbers_of seats in
      let all =
      count_all 16 lives (λ k l. grind (arith, nat_tests, free_at seats k, among_at numbers k, among_place numbers 0, e, numbers_full seats)) in
      le-leb 16 (unended (jobs_of seats held)) (omega (arith, seated, all))

  pub one_free : place (numbers_of seats) 0 < 16 → leb 16 (unended (jobs_of seats held)) ≡ false
  one_free l =
      let i = place (numbers_of seats) 0 in
      let gone : lives i ≡ false = grind (arith, nat_tests, free_at seats i, place_at (numbers_of seats) 0, numbers_full seats) in
      lt-leb 16 (unended (jobs_of seats held)) (omega (arith, seated, count_lacks 16 lives i l gone))

-- The counts of a granule say who holds it: their sum is the number of holders, and the join of the modes counted is the
-- group mode.
use Rattle.std.proofs.lemmas.Bool.Decides.{nat_tests}
use Rattle.std.proofs.Common.{◌≡◌, ℕ, zero, suc, ◌+◌, ◌<◌, ◌≤◌, Bool, true, cond, not, eqb, List, [], ◌∷◌, length, get_or, sum, sym, refl, ap, ◌∙◌, inl, inr, arith}
use Rattle.std.proofs.lemmas.List.{get_or_past}
use Rattle.std.proofs.lemmas.List.Sums.{sum_by-cons}
use Rattle.std.proofs.lemmas.Bool.{cases_eq}
use Rattle.modes.specs.Systems.{System, Lawful}
use Rattle.granules.specs.Below.{sum_below, count_below}
use Rattle.ledger.specs.Promises.{group, holders}
use Rattle.tables.specs.declared.kernel.Core.{Core}
use Rattle.tables.specs.Grids.{cell}
use Rattle.tables.specs.Heads.{one, tally, if_held, group_of}
use Rattle.tables.specs.Seats.{slot}
use Rattle.tables.specs.Views.{jobs_of, numbers_of}
use Rattle.tables.proofs.Counts.{sum_front, seat_count}
use Rattle.tables.proofs.Grids.{long_at}
use Rattle.tables.proofs.Groups.{Found, group_is, same_join, stands_below}
use Rattle.tables.proofs.Places.{among_at}
use Rattle.tables.proofs.Tallies.{one_same, one_none, tally_some, held_small, held_counted}
use Rattle.tables.proofs.Views.{slot_own_number, seated_given}
use Rattle.tables.proofs.Sitting.{numbers_full}

-- the sum of f below n
abbrev all_below : ℕ → (ℕ → ℕ) → ℕ
all_below n f = sum_below n (λ _. true) f

all_ext : (n : ℕ) (f h : ℕ → ℕ) → ((k : ℕ) → f k ≡ h k) → all_below n f ≡ all_below n h
all_ext zero f h e = refl
all_ext (suc n) f h e = omega (arith, all_ext n f h e, e n)

all_plus : (n : ℕ) (f h : ℕ → ℕ) → all_below n (λ k. f k + h k) ≡ all_below n f + all_below n h
all_plus zero f h = refl
all_plus (suc n) f h = omega (arith, all_plus n f h)

all_none : (n : ℕ) → all_below n (λ _. 0) ≡ 0
all_none zero = refl
all_none (suc n) = omega (arith, all_none n)

-- a list added up is the sum over its places
sum_all : (xs : List ℕ) → sum xs ≡ all_below (length xs) (λ m. get_or xs m 0)
sum_all [] = refl
sum_all (x ∷ xs) = sum_by-cons (λ (y : ℕ). y) x xs ∙ ap (λ (n : ℕ). x + n) (sum_all xs) ∙ sym (sum_front (length xs) (λ _. true) (λ m. get_or (x ∷ xs) m 0))

-- one holder is counted at its mode alone
one_below : (n h : ℕ) → n ≤ h → all_below n (one h) ≡ 0
one_below zero h l = refl
one_below (suc n) h l = grind (arith, nat_tests, one_below n h)

one_once : (n h : ℕ) → h < n → (h ≡ 0 → ⊥) → all_below n (one h) ≡ 1
one_once zero h l d = absurd (omega arith)
one_once (suc n) h l d = grind (arith, nat_tests, one_below n h, one_once n h)

one_all : (n h : ℕ) → h < n → all_below n (one h) ≡ cond (not (eqb h 0)) 1 0
one_all n zero l = all_ext n (one 0) (λ _. 0) one_none ∙ all_none n
one_all n (suc h) l = grind (arith, nat_tests, one_once n (suc h) l)

-- the counts of all modes count every slot that holds one
tally_all :
    (rows : List (List ℕ)) (n x : ℕ) → ((i : ℕ) → i < length rows → cell 0 rows i x < n)
    → all_below n (tally rows x) ≡ count_below (length rows) (λ i. not (eqb (cell 0 rows i x) 0))
tally_all [] n x h = all_none n
tally_all (row ∷ rows) n x h =
    all_plus n (one (get_or row x 0)) (tally rows x)
    ∙ omega (
      arith,
      one_all n (get_or row x 0) (h 0 (omega arith)),
      tally_all rows n x (λ i l. h (suc i) (omega arith)),
      sum_front (length rows) (λ i. not (eqb (cell 0 (row ∷ rows) i x) 0)) (λ _. 1),
    )

module _ {S : Type 0} (c : Core S) (x : ℕ) (inside : x < 256) where
  abbrev rows : List (List ℕ)
  rows = c.held.modes.rows

  abbrev counts : List ℕ
  counts = get_or c.held.counts x []

  small : (i : ℕ) → i < length rows → cell 0 rows i x < 16
  small i l = held_small rows c.held.counts i x l (omega (arith, c.held.counted.0)) c.held.counted.1 c.held.agree

  -- The counts added up are the holders.
  pub holders_agree : sum counts ≡ holders (jobs_of c.seats c.held) x
  holders_agree =
      let q : ℕ → Bool = λ i. not (eqb (cell 0 rows i x) 0) in
      let wide = long_at 16 c.held.counts x (omega (arith, c.held.counted.0)) c.held.counted.1 in
      sum_all counts
      ∙ ap (λ (n : ℕ). all_below n (λ m. get_or counts m 0)) wide
      ∙ all_ext 16 (λ m. get_or counts m 0) (tally rows x) (c.held.agree x)
      ∙ tally_all rows 16 x small
      ∙ ap (λ (n : ℕ). count_below n q) (c.held.modes.full ∙ sym (numbers_full c.seats))
      ∙ sym (seat_count (numbers_of c.seats) c.seats.opened q c.seats.apart c.seats.known (λ i e. grind (arith, nat_tests, c.unlocked i x e)))

  abbrev mode_of : ℕ → ℕ
  mode_of k = (jobs_of c.seats c.held).mode k x

  -- whoever holds a mode is counted there
  counted_job : (k : ℕ) → Found 16 (if_held counts) (mode_of k)
  counted_job k =
      let i = slot (numbers_of c.seats) k in
      let h = mode_of k in
      elim (cases_eq h 0) [
        | inl e ↦ inl e
        | inr d ↦
            let l : i < length rows = grind (arith, d, get_or_past rows i []) in
            inr (h, small i l, grind (arith, nat_tests, held_counted rows c.held.counts i x l c.held.agree, one_same h h refl d))
      ]

  -- and whoever is counted there holds it
  job_counted : (m : ℕ) → Found (suc c.seats.opened) mode_of (if_held counts m)
  job_counted m =
      elim (cases_eq (get_or counts m 0) 0) [
        | inl e ↦ inl (grind (arith, nat_tests))
        | inr d ↦
            let numbers = (numbers_of c.seats) in
            let r = tally_some rows x m (omega (arith, d, c.held.agree x m)) in
            let i = r.0 in
            let h = cell 0 rows i x in
            let k = get_or numbers i 0 in
            let is : (h ≡ m) × (m ≡ 0 → ⊥) = (grind (arith, nat_tests, r.2), λ z. grind (arith, nat_tests, r.2)) in
            let l : i < length numbers = omega (arith, r.1, c.held.modes.full, (numbers_full c.seats)) in
            let taken : k ≡ 0 → ⊥ = λ z. is.1 (sym is.0 ∙ c.unlocked i x z) in
            inr (
              k,
              omega (arith, seated_given c.seats k (among_at numbers i l)),
              grind (arith, nat_tests, is.0, slot_own_number numbers i l c.seats.apart taken),
            )
      ]

  module _ (s : System) (law : Lawful s) where
    -- The join of the modes counted is the group mode.
    pub group_agrees : group_of s counts ≡ group s (jobs_of c.seats c.held) x (suc c.seats.opened)
    group_agrees =
        same_join s law 16 (suc c.seats.opened) (if_held counts) mode_of (λ m l. job_counted m) (λ k l. counted_job k)
        ∙ sym (group_is s (jobs_of c.seats c.held) x (suc c.seats.opened))

    -- What stands with the group mode stands with everybody's mode.
    pub all_stand : (t : ℕ) → s.stands (group_of s counts) t ≡ true → (k : ℕ) → s.stands (mode_of k) t ≡ true
    all_stand t e k =
        elim (counted_job k) [
          | inl z ↦ grind (arith, z, law.stands_none t)
          | inr r ↦
              let below = stands_below s law 16 (if_held counts) t (law.stands_comm t (group_of s counts) ∙ e) r.0 r.1 in
              cc (r.2, law.stands_comm (if_held counts r.0) t, below)
        ]

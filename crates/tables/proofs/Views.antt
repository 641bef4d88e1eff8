-- What a change in one slot is to the job that sits there.
use Rattle.std.proofs.lemmas.Bool.Decides.{nat_tests}
use Rattle.std.proofs.Common.{◌≡◌, ℕ, ◌<◌, ◌≤◌, true, false, eqb, List, [], length, get_or, set, replicate, sym, ap, ◌∙◌, arith}
use mathlib.Core.Path.{fun_ext}
use Rattle.std.proofs.lemmas.List.{get_or-set_same, get_or-set_other}
use Rattle.std.proofs.lemmas.Bool.{ne_eqb}
use Rattle.granules.specs.Paths.{among}
use Rattle.ledger.specs.declared.job.Status.TheVariants.{Ended}
use Rattle.ledger.specs.Jobs.{is_ended, put, where_so}
use Rattle.tables.specs.declared.seats.Seats.{Seats}
use Rattle.tables.specs.Grids.{cell, with_cell}
use Rattle.tables.specs.Seats.{place, slot, distinct}
use Rattle.tables.proofs.Grids.{empty}
use Rattle.tables.proofs.Places.{place_at, place_among, among_place, place_own, new_among}
use Rattle.tables.specs.Views.{numbers_of, states_of}
use Rattle.tables.proofs.Sitting.{numbers_full, free_at}

pub slot_some : (numbers : List ℕ) (k : ℕ) → (k ≡ 0 → ⊥) → slot numbers k ≡ place numbers k
slot_some numbers k e = let t = ne_eqb k 0 e in rw (t, slot)

-- a slot of the table has its job's number, which is not 0
pub slot_number : (numbers : List ℕ) (k : ℕ) → slot numbers k < length numbers → (get_or numbers (slot numbers k) 0 ≡ k) × (k ≡ 0 → ⊥)
slot_number numbers k l = (grind (arith, nat_tests, place_at numbers k), λ e. grind (arith, nat_tests))

-- who has a slot of the table stands in it, and the other way round
pub slot_among : (numbers : List ℕ) (k : ℕ) → slot numbers k < length numbers → among k numbers ≡ true
slot_among numbers k l = grind (arith, nat_tests, place_among numbers k)

pub among_slot : (numbers : List ℕ) (k : ℕ) → (k ≡ 0 → ⊥) → among k numbers ≡ true → slot numbers k < length numbers
among_slot numbers k some e = omega (arith, slot_some numbers k some, among_place numbers k e)

-- the slot of the number in a slot
pub slot_own_number :
    (numbers : List ℕ) (i : ℕ) → i < length numbers → distinct numbers ≡ true → (get_or numbers i 0 ≡ 0 → ⊥) → slot numbers (get_or numbers i 0) ≡ i
slot_own_number numbers i l e some = slot_some numbers (get_or numbers i 0) some ∙ place_own numbers i l e some

-- two jobs do not share a slot
pub slot_own : (numbers : List ℕ) (j k : ℕ) → slot numbers j ≡ slot numbers k → slot numbers k < length numbers → j ≡ k
slot_own numbers j k e l =
    let a = (slot_number numbers j (omega arith)).0 in
    let b = (slot_number numbers k l).0 in
    sym a ∙ ap (λ (i : ℕ). get_or numbers i 0) e ∙ b

-- whoever sits in a slot was given its number
pub seated_given : (seats : Seats) (k : ℕ) → among k (numbers_of seats) ≡ true → k ≤ seats.opened
seated_given seats k e = grind (arith, nat_tests, new_among seats.opened (numbers_of seats) k, seats.known)

-- whoever sits in a slot has not ended
pub seated_lives : (seats : Seats) (k : ℕ) → slot (numbers_of seats) k < 16 → is_ended (get_or (states_of seats) (slot (numbers_of seats) k) Ended) ≡ false
seated_lives seats k l = grind (arith, nat_tests, slot_number (numbers_of seats) k, numbers_full seats, free_at seats (slot (numbers_of seats) k))

-- and its slot is not free
pub not_free : (seats : Seats) (k i : ℕ) → slot (numbers_of seats) k < 16 → get_or (numbers_of seats) i 0 ≡ 0 → i ≡ slot (numbers_of seats) k → ⊥
not_free seats k i l free e = grind (arith, nat_tests, slot_number (numbers_of seats) k, numbers_full seats)

-- A row written at the slot of job k is what job k has, and nobody else.
pub view_set :
    {A : Type 0} (rows : List A) (d : A) (numbers : List ℕ) (k : ℕ) (v : A) → length rows ≡ length numbers → slot numbers k < length numbers
    → (j : ℕ) → get_or (set rows (slot numbers k) v) (slot numbers j) d ≡ put k v (λ i. get_or rows (slot numbers i) d) j
view_set rows d numbers k v e l j =
    grind (
      arith,
      nat_tests,
      get_or-set_same rows (slot numbers k) v d,
      get_or-set_other rows (slot numbers k) (slot numbers j) v d,
      slot_own numbers j k,
    )

-- The same, cell by cell.
pub view_row :
    {A : Type 0} (rows : List (List A)) (d : A) (numbers : List ℕ) (k : ℕ) (row : List A) → length rows ≡ length numbers → slot numbers k < length numbers
    → (j x : ℕ) → cell d (set rows (slot numbers k) row) (slot numbers j) x ≡ put {A = ℕ → A} k (λ y. get_or row y d) (λ i y. cell d rows (slot numbers i) y) j x
view_row {A} rows d numbers k row e l j x = ap (λ (r : List A). get_or r x d) (view_set rows [] numbers k row e l j) ∙ grind (arith, nat_tests)

-- An empty row written at the slot of job k leaves job k empty, and nobody else changed.
pub view_wiped :
    {A : Type 0} (rows : List (List A)) (d : A) (numbers : List ℕ) (k : ℕ) → length rows ≡ length numbers → slot numbers k < length numbers
    → (j x : ℕ)
    → cell d (set rows (slot numbers k) (replicate 256 d)) (slot numbers j) x
    ≡ where_so {A = ℕ → A} (λ i. eqb i k) (λ _. d) (λ i y. cell d rows (slot numbers i) y) j x
view_wiped {A} rows d numbers k e l j x =
    view_row rows d numbers k (replicate 256 d) e l j x
    ∙ ap (λ (f : ℕ → A). put {A = ℕ → A} k f (λ i y. cell d rows (slot numbers i) y) j x) (fun_ext (empty 256 d))

-- One cell written there is one cell of job k.
pub view_cell :
    {A : Type 0} (rows : List (List A)) (d : A) (numbers : List ℕ) (k x : ℕ) (v : A) → length rows ≡ length numbers → slot numbers k < length numbers
    → x < length (get_or rows (slot numbers k) [])
    → (j y : ℕ)
    → cell d (with_cell rows (slot numbers k) x v) (slot numbers j) y
    ≡ put {A = ℕ → A} k (put x v (cell d rows (slot numbers k))) (λ i z. cell d rows (slot numbers i) z) j y
view_cell {A} rows d numbers k x v e l h j y =
    let row = get_or rows (slot numbers k) [] in
    view_row rows d numbers k (set row x v) e l j y
    ∙ ap (λ (f : ℕ → A). put {A = ℕ → A} k f (λ i z. cell d rows (slot numbers i) z) j y)
    (fun_ext (λ z. grind (arith, nat_tests, get_or-set_same row x v d h, get_or-set_other row x z v d)))

-- Counts of those who hold a mode.
use Rattle.std.proofs.lemmas.Bool.Decides.{nat_tests}
use Rattle.std.proofs.Common.{◌≡◌, ℕ, zero, suc, ◌+◌, ◌<◌, ◌≤◌, true, List, [], ◌∷◌, length, get_or, set, replicate, sym, refl, ◌∙◌, inl, inr, arith}
use Rattle.std.proofs.lemmas.List.{get_or-set_same, get_or-set_other, get_or_past}
use Rattle.std.proofs.lemmas.Bool.{cases_eq}
use Rattle.tables.specs.Grids.{all_long, cell, with_cell}
use Rattle.tables.specs.Heads.{one, tally}
use Rattle.tables.proofs.Grids.{empty, empty_cell, long_at}

pub one_same : (h m : ℕ) → h ≡ m → (m ≡ 0 → ⊥) → one h m ≡ 1
one_same h m e some = grind (arith, nat_tests)

-- no lock is not counted
pub one_none : (m : ℕ) → one 0 m ≡ 0
one_none m = grind (arith, nat_tests)

-- at most one a slot
pub tally_le : (rows : List (List ℕ)) (x m : ℕ) → tally rows x m ≤ length rows
tally_le [] x m = omega arith
tally_le (row ∷ rows) x m = grind (arith, nat_tests, tally_le rows x m)

-- who holds a mode is counted
tally_has : (rows : List (List ℕ)) (s x m : ℕ) → s < length rows → one (cell 0 rows s x) m ≤ tally rows x m
tally_has [] s x m l = absurd (omega arith)
tally_has (row ∷ rows) zero x m l = omega arith
tally_has (row ∷ rows) (suc s) x m l = omega (arith, tally_has rows s x m (omega arith))

-- and somebody who is counted holds it
pub tally_some : (rows : List (List ℕ)) (x m : ℕ) → 0 < tally rows x m → (s : ℕ) × (s < length rows) × (0 < one (cell 0 rows s x) m)
tally_some [] x m l = absurd (omega arith)
tally_some (row ∷ rows) x m l =
    elim (cases_eq (one (get_or row x 0) m) 0) [
      | inl e ↦ let r = tally_some rows x m (omega arith) in (suc r.0, omega (arith, r.1), r.2)
      | inr e ↦ (0, omega arith, omega arith)
    ]

tally_blank : (n : ℕ) (x m : ℕ) → tally (replicate n (replicate 256 0)) x m ≡ 0
tally_blank zero x m = refl
tally_blank (suc n) x m = let blank = empty {A = ℕ} 256 0 x in grind (arith, nat_tests, blank, tally_blank n x m)

-- One row written for another.
tally_set :
    (rows : List (List ℕ)) (s : ℕ) (row : List ℕ) (x m : ℕ) → s < length rows
    → tally (set rows s row) x m + one (cell 0 rows s x) m ≡ tally rows x m + one (get_or row x 0) m
tally_set [] s row x m l = absurd (omega arith)
tally_set (r ∷ rows) zero row x m l = omega arith
tally_set (r ∷ rows) (suc s) row x m l = omega (arith, tally_set rows s row x m (omega arith))

-- One cell written: the counts of its granule change by that, those of others do not.
pub agree_put :
    (rows counts : List (List ℕ)) (s x v : ℕ) (new : List ℕ) → s < length rows → x < length counts → x < length (get_or rows s [])
    → ((y m : ℕ) → cell 0 counts y m ≡ tally rows y m)
    → ((m : ℕ) → get_or new m 0 + one (cell 0 rows s x) m ≡ get_or (get_or counts x []) m 0 + one v m)
    → (y m : ℕ) → cell 0 (set counts x new) y m ≡ tally (with_cell rows s x v) y m
agree_put rows counts s x v new l h k agree e y m =
    let row = get_or rows s [] in
    let moved = tally_set rows s (set row x v) y m l in
    grind (
      arith,
      nat_tests,
      moved,
      get_or-set_same counts x new [] h,
      get_or-set_same row x v 0 k,
      get_or-set_other counts x y new [],
      get_or-set_other row x y v 0,
      agree y m,
      e m,
    )

pub agree_blank : (x m : ℕ) → cell 0 (replicate 256 (replicate 16 0)) x m ≡ tally (replicate 16 (replicate 256 0)) x m
agree_blank x m = empty_cell 256 16 0 x m ∙ sym (tally_blank 16 x m)

-- Where counts agree with rows, whoever holds a mode is counted, so that it has a place among the 16.
pub held_small :
    (rows counts : List (List ℕ)) (s x : ℕ) → s < length rows → x < length counts → all_long 16 counts ≡ true
    → ((y m : ℕ) → cell 0 counts y m ≡ tally rows y m) → cell 0 rows s x < 16
held_small rows counts s x l h long agree =
    let old = cell 0 rows s x in
    grind (
      arith,
      nat_tests,
      get_or_past (get_or counts x []) old 0,
      long_at 16 counts x h long,
      tally_has rows s x old l,
      agree x old,
      one_same old old refl,
    )

pub held_counted :
    (rows counts : List (List ℕ)) (s x : ℕ) → s < length rows → ((y m : ℕ) → cell 0 counts y m ≡ tally rows y m)
    → one (cell 0 rows s x) (cell 0 rows s x) ≤ cell 0 counts x (cell 0 rows s x)
held_counted rows counts s x l agree = omega (arith, agree x (cell 0 rows s x), tally_has rows s x (cell 0 rows s x) l)

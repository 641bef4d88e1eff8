-- The row of a slot changed from cell to cell.
use Rattle.std.proofs.lemmas.Bool.Decides.{nat_tests}
use Rattle.std.proofs.Common.{◌≡◌, ℕ, ◌+◌, ◌<◌, ◌≤◌, cond, ltb, List, [], length, get_or, set, refl, arith}
use Rattle.std.proofs.lemmas.List.{get_or-set_same, get_or-set_other, set-set}
use Rattle.tables.specs.Grids.{cell, with_cell}
use Rattle.tables.proofs.Grids.{own_cell}

module _ {A : Type 0} (d : A) (s : ℕ) (f old : ℕ → A) where
  -- the cells before p are changed, the others not yet
  abbrev pub Swept : ℕ → List (List A) → Type 0
  Swept p rows = (r : ℕ) → cell d rows s r ≡ cond (ltb r p) (f r) (old r)

  -- before the first cell that changes
  pub swept_from : (rows : List (List A)) (p : ℕ) → ((r : ℕ) → cell d rows s r ≡ old r) → ((r : ℕ) → r < p → f r ≡ old r) → Swept p rows
  swept_from rows p e h r = grind (arith, nat_tests, e r, h r)

  -- past the last one
  pub swept_all : (rows : List (List A)) (p : ℕ) → ((r : ℕ) → p ≤ r → f r ≡ old r) → Swept p rows → (r : ℕ) → cell d rows s r ≡ f r
  swept_all rows p h e r = grind (arith, nat_tests, e r, h r)

  -- a cell that does not change
  pub swept_skip : (rows : List (List A)) (p : ℕ) → f p ≡ old p → Swept p rows → Swept (p + 1) rows
  swept_skip rows p h e r = grind (arith, nat_tests, e r, h)

  -- a cell written
  pub swept_put :
      (rows : List (List A)) (p : ℕ) (v : A) → s < length rows → p < length (get_or rows s []) → v ≡ f p → Swept p rows → Swept (p + 1) (with_cell rows s p v)
  swept_put rows p v l h q e r =
      let row = get_or rows s [] in
      grind (
        arith,
        nat_tests,
        own_cell d rows s (set row p v) s r refl l,
        get_or-set_same row p v d h,
        get_or-set_other row p r v d,
        e r,
      )

-- while only one slot changes
pub only_slot :
    {A : Type 0} (rows₀ rows rows' : List (List A)) (s x : ℕ) (v : A) → s < length rows → rows ≡ set rows₀ s (get_or rows s []) → rows' ≡ with_cell rows s x v
    → rows' ≡ set rows₀ s (get_or rows' s [])
only_slot {A} rows₀ rows rows' s x v l e w =
    let row = set (get_or rows s []) x v in
    grind (arith, set-set rows₀ s (get_or rows s []) row, get_or-set_same rows s row [] l)

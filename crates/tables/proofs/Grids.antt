-- Grids keep their shape, and a cell written is the one that is read.
use Rattle.std.proofs.lemmas.Bool.Decides.{nat_tests}
use Rattle.std.proofs.Common.{◌≡◌, ℕ, zero, suc, ◌+◌, ◌<◌, true, List, [], ◌∷◌, length, get_or, set, replicate, sym, refl, ap, ◌∙◌, subst, inl, inr, arith}
use Rattle.std.proofs.lemmas.List.{length-set, get_or-replicate, get_or_past, get_or-set_same, get_or-set_other, set-get_or, ext_get_or, length-replicate}
use Rattle.std.proofs.lemmas.Bool.{cases_eq}
use Rattle.tables.specs.Grids.{all_long, cell, with_cell}

pub long_set : {A : Type 0} (n : ℕ) (rows : List (List A)) (s : ℕ) (row : List A) → length row ≡ n → all_long n rows ≡ true → all_long n (set rows s row) ≡ true
long_set n [] s row l e = refl
long_set n (r ∷ rows) zero row l e = grind (arith, nat_tests)
long_set n (r ∷ rows) (suc s) row l e = grind (arith, nat_tests, long_set n rows s row l)

pub long_at : {A : Type 0} (n : ℕ) (rows : List (List A)) (s : ℕ) → s < length rows → all_long n rows ≡ true → length (get_or rows s []) ≡ n
long_at n [] s l e = absurd (omega arith)
long_at n (r ∷ rows) zero l e = grind (arith, nat_tests)
long_at n (r ∷ rows) (suc s) l e = grind (arith, nat_tests, long_at n rows s)

pub long_put :
    {A : Type 0} (n : ℕ) (rows : List (List A)) (s x : ℕ) (v : A) → s < length rows → all_long n rows ≡ true → all_long n (with_cell rows s x v) ≡ true
long_put n rows s x v l e = long_set n rows s (set (get_or rows s []) x v) (length-set (get_or rows s []) x v ∙ long_at n rows s l e) e

-- every cell of an empty row is empty
pub empty : {A : Type 0} (n : ℕ) (d : A) (x : ℕ) → get_or (replicate n d) x d ≡ d
empty n d x = grind (arith, nat_tests, get_or-replicate n x d d, get_or_past (replicate n d) x d, length-replicate n d)

pub empty_cell : {A : Type 0} (m n : ℕ) (d : A) (s x : ℕ) → cell d (replicate m (replicate n d)) s x ≡ d
empty_cell {A} m n d s x =
    let row = replicate n d in
    grind (arith, get_or-replicate m s row [], get_or_past (replicate m row) s [], length-replicate m row, empty n d x)

-- a row written for another leaves the cells of the others
pub other_cell : {A : Type 0} (d : A) (rows : List (List A)) (s : ℕ) (row : List A) (i x : ℕ) → (i ≡ s → ⊥) → cell d (set rows s row) i x ≡ cell d rows i x
other_cell {A} d rows s row i x e = ap (λ (r : List A). get_or r x d) (get_or-set_other rows s i row [] e)

pub own_cell : {A : Type 0} (d : A) (rows : List (List A)) (s : ℕ) (row : List A) (i x : ℕ) → i ≡ s → s < length rows → cell d (set rows s row) i x ≡ get_or row x d
own_cell {A} d rows s row i x e l = grind (arith, get_or-set_same rows s row [] l)

-- What holds of an empty cell, and of some other slots, holds of them and of a slot that is wiped.
pub wiped_stays :
    {A : Type 0} (d : A) (rows : List (List A)) (s : ℕ) (P : A → Type 0) (Q : ℕ → Type 0) → P d → ((i x : ℕ) → (i ≡ s → ⊥) → Q i → P (cell d rows i x))
    → (i x : ℕ) → Q i → P (cell d (set rows s (replicate 256 d)) i x)
wiped_stays {A} d rows s P Q p h i x q =
    let row = replicate 256 d in
    elim (cases_eq i s) [
      | inr e ↦ subst P (sym (other_cell d rows s row i x e)) (h i x e q)
      | inl e ↦
          let blank : cell d (set rows s row) i x ≡ d =
          grind (arith, empty 256 d x, own_cell d rows s row i x e, get_or_past (set rows s row) i [], length-set rows s row) in
          subst P (sym blank) p
    ]

-- A slot wiped cell by cell: one more, and all of them.
pub wiped_more :
    {A : Type 0} (d : A) (rows : List (List A)) (s x : ℕ) → s < length rows → x < length (get_or rows s []) → ((y : ℕ) → y < x → cell d rows s y ≡ d)
    → (y : ℕ) → y < x + 1 → cell d (with_cell rows s x d) s y ≡ d
wiped_more d rows s x l m h y k =
    let row = get_or rows s [] in
    grind (
      arith,
      own_cell d rows s (set row x d) s y refl l,
      get_or-set_same row x d d m,
      get_or-set_other row x y d d,
      h y,
    )

pub wiped_all :
    {A : Type 0} (d : A) (rows : List (List A)) (s : ℕ) → length (get_or rows s []) ≡ 256 → ((y : ℕ) → y < 256 → cell d rows s y ≡ d)
    → rows ≡ set rows s (replicate 256 d)
wiped_all d rows s l h =
    sym (set-get_or rows s [])
    ∙ ap (set rows s)
    (ext_get_or d (get_or rows s []) (replicate 256 d) (l ∙ sym (length-replicate 256 d))
    (λ y k. h y (omega arith) ∙ sym (get_or-replicate 256 y d d (omega arith))))

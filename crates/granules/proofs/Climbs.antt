-- Paths in a rooted table: one granule at a time, and what lies beneath what.
use Rattle.std.proofs.Common.{◌≡◌, ℕ, zero, suc, ◌+◌, ◌<◌, ◌≤◌, Bool, true, false, not, ◌&&◌, ◌||◌, eqb, ltb, leb, List, [], ◌∷◌, ◌++◌, length, sym, refl, ap, ◌∙◌, subst, inl, inr, arith}
use Rattle.std.proofs.lemmas.List.{length_push, get_or_past}
use Rattle.std.proofs.lemmas.Bool.{cases_lt, cases_Bool, and_parts, and_from, or_cases, or_left, or_right, both_ways, ne_eqb, eq-eqb, and_left, le-ltb, eqb-true, ltb-true, leb-true, lt-ltb, not-true, not_from_false}
use Rattle.granules.specs.Paths.{parent, path, path_by, among, beneath, has_child, is_record, record_beneath, records_beneath}
use Rattle.granules.specs.Tables.{rooted, right_for, shallow}
use Rattle.granules.proofs.Below.{each_at, some_at, some_from, sum_has}

-- A climb falls: each parent is smaller, beyond the table too.
abbrev pub Falls : List ℕ → Type 0
Falls ps = (g : ℕ) → 0 < g → parent ps g < g

right_falls : (g p : ℕ) → 0 < g → right_for g p ≡ true → p < g
right_falls g p h t =
    let e : eqb g 0 ≡ false = ne_eqb g 0 (λ z. omega arith) in
    ltb-true p g (rw (e, right_for) at t)

pub falls : (ps : List ℕ) → rooted ps ≡ true → Falls ps
falls ps t g h =
    elim (cases_lt g (length ps)) [
      | inl l ↦ right_falls g (parent ps g) h (each_at (length ps) (λ x. right_for x (parent ps x)) t g l)
      | inr l ↦ let e = get_or_past ps g 0 l in omega arith
    ]

-- no parent is larger than any granule
pub parent_small : (ps : List ℕ) → rooted ps ≡ true → (g : ℕ) → g < length ps → parent ps g < length ps
parent_small ps t g l =
    elim (cases_lt 0 g) [
      | inl h ↦ let f = falls ps t g h in omega arith
      | inr h ↦
          let zero_is : eqb g 0 ≡ true = eq-eqb g 0 (omega arith) in
          let e = eqb-true (parent ps g) 0 (rw (zero_is, right_for) at (each_at (length ps) (λ x. right_for x (parent ps x)) t g l)) in
          omega arith
    ]

-- any bound that is large enough gives the same path
fuel : (ps : List ℕ) → Falls ps → (n m g : ℕ) → g ≤ n → g ≤ m → path_by n ps g ≡ path_by m ps g
fuel ps f zero zero g a b = refl
fuel ps f zero (suc m) zero a b = refl
fuel ps f zero (suc m) (suc g) a b = absurd (omega arith)
fuel ps f (suc n) zero zero a b = refl
fuel ps f (suc n) zero (suc g) a b = absurd (omega arith)
fuel ps f (suc n) (suc m) zero a b = refl
fuel ps f (suc n) (suc m) (suc g) a b =
    let l = f (suc g) (omega arith) in
    ap (λ (xs : List ℕ). xs ++ suc g ∷ []) (fuel ps f n m (parent ps (suc g)) (omega arith) (omega arith))

pub path_root : (ps : List ℕ) → path ps 0 ≡ 0 ∷ []
unfolding path
path_root ps = refl

pub path_step : (ps : List ℕ) → Falls ps → (g : ℕ) → 0 < g → path ps g ≡ path ps (parent ps g) ++ g ∷ []
unfolding path
path_step ps f zero h = absurd (omega arith)
path_step ps f (suc g) h =
    let l = f (suc g) h in
    ap (λ (xs : List ℕ). xs ++ suc g ∷ []) (fuel ps f g (parent ps (suc g)) (parent ps (suc g)) (omega arith) (omega arith))

-- Induction along climbs: what holds of the root, and of a granule if of its parent, holds of each granule.
pub climb : (ps : List ℕ) → Falls ps → (P : ℕ → Type 0) → P 0 → ((g : ℕ) → 0 < g → P (parent ps g) → P g) → (g : ℕ) → P g
climb ps f P root step g = go (suc g) g (omega arith)
  where
    go : (n g : ℕ) → g < n → P g
    go zero g h = absurd (omega arith)
    go (suc n) zero h = root
    go (suc n) (suc g) h = let l = f (suc g) (omega arith) in step (suc g) (omega arith) (go n (parent ps (suc g)) (omega arith))

pub path_more : (ps : List ℕ) → Falls ps → (g : ℕ) → 0 < g → length (path ps g) ≡ length (path ps (parent ps g)) + 1
path_more ps f g h = ap length (path_step ps f g h) ∙ length_push (path ps (parent ps g)) g

-- how deep the granules of a rooted table lie
pub rooted_falls : (ps : List ℕ) (g : ℕ) → rooted ps ≡ true → 0 < g → parent ps g < g
rooted_falls ps g t h = falls ps t g h

pub depth_root : (ps : List ℕ) (g : ℕ) → g ≡ 0 → length (path ps g) ≡ 1
depth_root ps g e = ap (λ (x : ℕ). length (path ps x)) e ∙ ap length (path_root ps)

pub depth_more : (ps : List ℕ) (g : ℕ) → rooted ps ≡ true → 0 < g → length (path ps g) ≡ length (path ps (parent ps g)) + 1
depth_more ps g t h = path_more ps (falls ps t) g h

pub depth_long : (ps : List ℕ) (g : ℕ) → rooted ps ≡ true → length (path ps g) ≤ g + 1
depth_long ps g t =
    let f = falls ps t in
    climb ps f (λ g. length (path ps g) ≤ g + 1) (rw path_root (omega arith))
    (λ g h ih.
    let l = f g h in
    let e = path_more ps f g h in
    omega arith)
    g

pub ruleset depths = (rooted_falls, depth_root, depth_more, depth_long)

-- in a shallow table a path that goes on has room for one more
pub path_room : (ps : List ℕ) → Falls ps → shallow ps ≡ true → (g : ℕ) → 0 < g → length (path ps (parent ps g)) < 8
path_room ps f t g h =
    elim (cases_lt g (length ps)) [
      | inl l ↦
          let b = leb-true (length (path ps g)) 8 (each_at (length ps) (λ x. leb (length (path ps x)) 8) t g l) in
          let e = path_more ps f g h in
          omega arith
      | inr l ↦ omega (arith, ap (λ (x : ℕ). length (path ps x)) (get_or_past ps g 0 l), ap length (path_root ps))
    ]

pub among_push : (g x : ℕ) (xs : List ℕ) → among g (xs ++ x ∷ []) ≡ (among g xs || eqb g x)
among_push g x [] = elim (eqb g x) as (λ b. (b || false) ≡ b) [ true ↦ refl | false ↦ refl ]
among_push g x (y ∷ ys) =
    let ih = among_push g x ys in
    elim (eqb g y) as (λ b. (b || among g (ys ++ x ∷ [])) ≡ ((b || among g ys) || eqb g x)) [ true ↦ refl | false ↦ ih ]

pub beneath_root : (ps : List ℕ) (g : ℕ) → beneath ps g 0 ≡ eqb g 0
beneath_root ps g = ap (among g) (path_root ps) ∙ elim (eqb g 0) as (λ b. (b || false) ≡ b) [ true ↦ refl | false ↦ refl ]

pub beneath_step : (ps : List ℕ) → Falls ps → (g r : ℕ) → 0 < r → beneath ps g r ≡ (beneath ps g (parent ps r) || eqb g r)
beneath_step ps f g r h = ap (among g) (path_step ps f r h) ∙ among_push g r (path ps (parent ps r))

pub beneath_self : (ps : List ℕ) → Falls ps → (g : ℕ) → beneath ps g g ≡ true
beneath_self ps f zero = beneath_root ps 0
beneath_self ps f (suc g) =
    beneath_step ps f (suc g) (suc g) (omega arith)
    ∙ or_right (beneath ps (suc g) (parent ps (suc g))) (eqb (suc g) (suc g)) (eq-eqb (suc g) (suc g) refl)

-- the ways of a climb that looks for a granule: there it stops, at the root too, and else it goes on from the parent
pub beneath_here : (ps : List ℕ) → Falls ps → (above g : ℕ) → g ≡ above → beneath ps above g ≡ true
beneath_here ps f above g e = subst (λ (x : ℕ). beneath ps x g ≡ true) e (beneath_self ps f g)

pub beneath_end : (ps : List ℕ) (above g : ℕ) → (g ≡ above → ⊥) → g ≡ 0 → beneath ps above g ≡ false
beneath_end ps above g n e =
    ap (beneath ps above) e ∙ beneath_root ps above ∙ ne_eqb above 0 (λ (z : above ≡ 0). n (e ∙ sym z))

pub beneath_up :
    (ps : List ℕ) → Falls ps → (above g : ℕ) → (g ≡ above → ⊥) → 0 < g → beneath ps above g ≡ beneath ps above (parent ps g)
beneath_up ps f above g n h =
    beneath_step ps f above g h
    ∙ ap (λ (b : Bool). beneath ps above (parent ps g) || b) (ne_eqb above g (λ (z : above ≡ g). n (sym z)))
    ∙ or_false (beneath ps above (parent ps g))
  where
    or_false : (b : Bool) → (b || false) ≡ b
    or_false true = refl
    or_false false = refl

-- all lie beneath the root
pub beneath_top : (ps : List ℕ) → Falls ps → (g : ℕ) → beneath ps 0 g ≡ true
beneath_top ps f =
    climb ps f (λ g. beneath ps 0 g ≡ true) (beneath_root ps 0)
    (λ g h ih. beneath_step ps f 0 g h ∙ or_left (beneath ps 0 (parent ps g)) (eqb 0 g) ih)

-- beneath a granule lie no smaller ones
pub beneath_le : (ps : List ℕ) → Falls ps → (g r : ℕ) → beneath ps g r ≡ true → g ≤ r
beneath_le ps f g =
    climb ps f (λ r. beneath ps g r ≡ true → g ≤ r)
    (λ t. let e = eqb-true g 0 (sym (beneath_root ps g) ∙ t) in omega arith)
    (λ r h ih t.
    let l = f r h in
    elim (or_cases (beneath ps g (parent ps r)) (eqb g r) (sym (beneath_step ps f g r h) ∙ t))
    [ inl a ↦ let i = ih a in omega arith | inr e ↦ let i = eqb-true g r e in omega arith ])

pub beneath_trans : (ps : List ℕ) → Falls ps → (g h r : ℕ) → beneath ps g h ≡ true → beneath ps h r ≡ true → beneath ps g r ≡ true
beneath_trans ps f g h r a =
    climb ps f (λ r. beneath ps h r ≡ true → beneath ps g r ≡ true)
    (λ t. subst (λ (x : ℕ). beneath ps g x ≡ true) (eqb-true h 0 (sym (beneath_root ps h) ∙ t)) a)
    (λ r l ih t.
    elim (or_cases (beneath ps h (parent ps r)) (eqb h r) (sym (beneath_step ps f h r l) ∙ t)) [
      | inl b ↦ beneath_step ps f g r l ∙ or_left (beneath ps g (parent ps r)) (eqb g r) (ih b)
      | inr e ↦ subst (λ (x : ℕ). beneath ps g x ≡ true) (eqb-true h r e) a
    ])
    r

-- a granule with a parent is its child
child : (ps : List ℕ) (g h : ℕ) → h < length ps → 0 < h → parent ps h ≡ g → has_child ps g ≡ true
child ps g h l p e =
    some_from (length ps) (λ x. ltb 0 x && eqb (parent ps x) g) h l
    (and_from (ltb 0 h) (eqb (parent ps h) g) (lt-ltb 0 h p) (eq-eqb (parent ps h) g e))

pub record_parts : (ps : List ℕ) (g : ℕ) → is_record ps g ≡ true → (g < length ps) × (has_child ps g ≡ false)
unfolding is_record
record_parts ps g t =
    let p = and_parts (ltb g (length ps)) (not (has_child ps g)) t in
    (ltb-true g (length ps) p.0, not-true (has_child ps g) p.1)

pub record_from : (ps : List ℕ) (g : ℕ) → g < length ps → has_child ps g ≡ false → is_record ps g ≡ true
unfolding is_record
record_from ps g l e = and_from (ltb g (length ps)) (not (has_child ps g)) (lt-ltb g (length ps) l) (not_from_false (has_child ps g) e)

-- beneath a record lies only itself
pub record_alone : (ps : List ℕ) → Falls ps → (g r : ℕ) → is_record ps g ≡ true → r < length ps → beneath ps g r ≡ true → r ≡ g
record_alone ps f g r t =
    climb ps f (λ r. r < length ps → beneath ps g r ≡ true → r ≡ g)
    (λ l b. sym (eqb-true g 0 (sym (beneath_root ps g) ∙ b)))
    (λ r h ih l b.
    let less = f r h in
    elim (or_cases (beneath ps g (parent ps r)) (eqb g r) (sym (beneath_step ps f g r h) ∙ b)) [
      | inl a ↦ absurd (both_ways (has_child ps g) (record_parts ps g t).1 (child ps g r l h (ih (omega arith) a)))
      | inr e ↦ sym (eqb-true g r e)
    ])
    r

pub record_outside : (ps : List ℕ) (g : ℕ) → length ps ≤ g → is_record ps g ≡ false
unfolding is_record
record_outside ps g l = and_left (ltb g (length ps)) (not (has_child ps g)) (le-ltb g (length ps) l)

-- where records beneath a granule lie
pub record_span :
    (ps : List ℕ) → Falls ps → (g : ℕ) → is_record ps g ≡ true → (k : ℕ) → record_beneath ps g k ≡ true → (g ≤ k) × (k < g + 1)
record_span ps f g t k b =
    let p = and_parts (is_record ps k) (beneath ps g k) b in
    let e = record_alone ps f g k t (record_parts ps k p.0).0 p.1 in
    (omega arith, omega arith)

pub other_span : (ps : List ℕ) → Falls ps → (g k : ℕ) → record_beneath ps g k ≡ true → (g ≤ k) × (k < length ps)
other_span ps f g k b =
    let p = and_parts (is_record ps k) (beneath ps g k) b in
    (beneath_le ps f g k p.1, (record_parts ps k p.0).0)

-- Beneath each granule lies a record: itself, or one beneath a child.
pub some_record : (ps : List ℕ) → Falls ps → (g : ℕ) → g < length ps → (r : ℕ) × (r < length ps) × (record_beneath ps g r ≡ true)
some_record ps f g l = go (length ps) g l (omega arith)
  where
    go : (n g : ℕ) → g < length ps → length ps ≤ n + g → (r : ℕ) × (r < length ps) × (record_beneath ps g r ≡ true)
    go zero g l h = absurd (omega arith)
    go (suc n) g l h =
        elim (cases_Bool (has_child ps g)) [
          | inl t ↦
              let c = some_at (length ps) (λ x. ltb 0 x && eqb (parent ps x) g) t in
              let k = c.0 in
              let p = and_parts (ltb 0 k) (eqb (parent ps k) g) c.2 in
              let pos = ltb-true 0 k p.0 in
              let par = eqb-true (parent ps k) g p.1 in
              let less = f k pos in
              let rest = go n k c.1 (omega arith) in
              let parts = and_parts (is_record ps rest.0) (beneath ps k rest.0) rest.2 in
              let up : beneath ps g k ≡ true =
              beneath_step ps f g k pos
              ∙ or_left (beneath ps g (parent ps k)) (eqb g k) (subst (λ (x : ℕ). beneath ps g x ≡ true) (sym par) (beneath_self ps f g))
              in (
                rest.0,
                rest.1,
                and_from (is_record ps rest.0) (beneath ps g rest.0) parts.0
                    (beneath_trans ps f g k rest.0 up parts.1),
              )
          | inr t ↦ (g, l, and_from (is_record ps g) (beneath ps g g) (record_from ps g l t) (beneath_self ps f g))
        ]

pub records_some : (ps : List ℕ) → Falls ps → (g : ℕ) → g < length ps → 0 < records_beneath ps g
records_some ps f g l =
    let r = some_record ps f g l in
    sum_has (length ps) (record_beneath ps g) (λ _. 1) r.0 r.1 r.2

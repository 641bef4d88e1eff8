-- A change of all words that a loop carries from place to place.
use Rattle.std.proofs.Common.{◌≡◌, ℕ, zero, suc, ◌+◌, ◌<◌, ◌≤◌, cond, ltb, List, [], ◌∷◌, ◌++◌, length, get_or, set, sym, ap, ◌∙◌, inl, inr, arith}
use Rattle.std.specs.List.{fold, filter, range_with_len}
use Rattle.std.proofs.lemmas.List.{append-nil, ext_get_or, length-set, get_or-set_same, get_or-set_other}
use Rattle.std.proofs.lemmas.List.Sums.{fold_push}
use Rattle.std.proofs.lemmas.Bool.{and_left, cases_eq, cases_lt, cases_Bool, cond-true, cond-false, lt-ltb, le-ltb}
use Rattle.granules.specs.Paths.{is_record, beneath, record_beneath, records}
use Rattle.granules.proofs.Climbs.{record_outside}
use Rattle.granules.proofs.Counts.{filter_more}
use Rattle.operations.specs.declared.operation.Operation.{Operation}
use Rattle.operations.specs.Actions.{changed}
use Rattle.operations.specs.Words.{each_from, left_at, after}
use Rattle.operations.proofs.Places.{each_same, each_still, length_each, get_or_each, left_still, left_new}

-- what is left at place k when the change has come as far as place r
abbrev pub swept : ℕ → (ℕ → ℕ → ℕ) → ℕ → ℕ → ℕ
swept r f k w = cond (ltb k r) (f k w) w

swept_done : (r : ℕ) (f : ℕ → ℕ → ℕ) (k w : ℕ) → k < r → swept r f k w ≡ f k w
swept_done r f k w h = cond-true (ltb k r) (f k w) w (lt-ltb k r h)

swept_past : (r : ℕ) (f : ℕ → ℕ → ℕ) (k w : ℕ) → r ≤ k → swept r f k w ≡ w
swept_past r f k w h = cond-false (ltb k r) (f k w) w (le-ltb k r h)

-- before the first place that changes nothing has
pub sweep_from : (r : ℕ) (f : ℕ → ℕ → ℕ) (ws : List ℕ) → ((k w : ℕ) → k < r → f k w ≡ w) → ws ≡ each_from 0 (swept r f) ws
sweep_from r f ws h =
    sym
    (each_still 0 (swept r f) ws
    (λ k w. elim (cases_lt k r) [ inl l ↦ swept_done r f k w l ∙ h k w l | inr l ↦ swept_past r f k w l ]))

-- past the last one all has
pub sweep_all : (n : ℕ) (f : ℕ → ℕ → ℕ) (ws : List ℕ) → ((k w : ℕ) → n ≤ k → f k w ≡ w) → each_from 0 (swept n f) ws ≡ each_from 0 f ws
sweep_all n f ws h =
    each_same 0 (swept n f) f ws
    (λ k w. elim (cases_lt k n) [ inl l ↦ swept_done n f k w l | inr l ↦ swept_past n f k w l ∙ sym (h k w l) ])

-- one place more makes no difference at the others
swept_else : (r : ℕ) (f : ℕ → ℕ → ℕ) (k w : ℕ) → (k ≡ r → ⊥) → swept r f k w ≡ swept (r + 1) f k w
swept_else r f k w s =
    elim (cases_lt k r) [
      | inl l ↦ swept_done r f k w l ∙ sym (swept_done (r + 1) f k w (omega arith))
      | inr l ↦ swept_past r f k w l ∙ sym (swept_past (r + 1) f k w (omega arith))
    ]

-- a place that does not change need not be written
pub sweep_skip : (r : ℕ) (f : ℕ → ℕ → ℕ) (ws : List ℕ) → ((w : ℕ) → f r w ≡ w) → each_from 0 (swept r f) ws ≡ each_from 0 (swept (r + 1) f) ws
sweep_skip r f ws h =
    each_same 0 (swept r f) (swept (r + 1) f) ws
    (λ k w.
    elim (cases_eq k r) [
      | inl s ↦
          swept_past r f k w (omega arith)
          ∙ sym (h w)
          ∙ ap (λ (x : ℕ). f x w) (sym s)
          ∙ sym (swept_done (r + 1) f k w (omega arith))
      | inr s ↦ swept_else r f k w s
    ])

-- a place written is one place more
pub sweep_more :
    (r : ℕ) (f : ℕ → ℕ → ℕ) (ws : List ℕ)
    → set (each_from 0 (swept r f) ws) r (f r (get_or (each_from 0 (swept r f) ws) r 0)) ≡ each_from 0 (swept (r + 1) f) ws
sweep_more r f ws =
    let now = each_from 0 (swept r f) ws in
    let next = each_from 0 (swept (r + 1) f) ws in
    let new = f r (get_or now r 0) in
    let len = length_each 0 (swept r f) ws in
    let len-next = length_each 0 (swept (r + 1) f) ws in
    ext_get_or 0 (set now r new) next (length-set now r new ∙ len ∙ sym len-next)
    (λ k h.
    let l : k < length ws = omega (arith, length-set now r new) in
    elim (cases_eq k r) [
      | inl s ↦
          let old : get_or now r 0 ≡ get_or ws r 0 =
          get_or_each (swept r f) ws r (omega arith) ∙ swept_past r f r (get_or ws r 0) (omega arith)
          in
          ap (λ (x : ℕ). get_or (set now r new) x 0) s
          ∙ get_or-set_same now r new 0 (omega arith)
          ∙ ap (f r) old
          ∙ sym (swept_done (r + 1) f r (get_or ws r 0) (omega arith))
          ∙ sym (get_or_each (swept (r + 1) f) ws r (omega arith))
          ∙ ap (λ (x : ℕ). get_or next x 0) (sym s)
      | inr s ↦
          get_or-set_other now r k new 0 s
          ∙ get_or_each (swept r f) ws k l
          ∙ swept_else r f k (get_or ws k 0) s
          ∙ sym (get_or_each (swept (r + 1) f) ws k l)
    ])

-- the words once an operation has changed the one at a place, and those at these places, one after the other
abbrev pub write : Operation → List ℕ → ℕ → List ℕ
write o ws r = set ws r (changed o.action (get_or ws r 0))

abbrev pub rewritten : Operation → List ℕ → List ℕ → List ℕ
rewritten o ws rs = fold (write o) ws rs

-- as far as number n, they are what the operation leaves there
rewritten_below :
    (ps : List ℕ) (o : Operation) (ws : List ℕ) (n : ℕ)
    → rewritten o ws (filter (record_beneath ps o.granule) (range_with_len 0 n)) ≡ each_from 0 (swept n (left_at ps o)) ws
rewritten_below ps o ws zero = sweep_from 0 (left_at ps o) ws (λ k w l. absurd (omega arith))
rewritten_below ps o ws (suc n) =
    let test = record_beneath ps o.granule in
    let ih = rewritten_below ps o ws n in
    let next : n + 1 ≡ suc n = omega arith in
    elim (cases_Bool (test n)) [
      | inl t ↦
          ap (rewritten o ws) (filter_more n test ∙ ap (λ (xs : List ℕ). filter test (range_with_len 0 n) ++ xs) (cond-true (test n) (n ∷ []) [] t))
          ∙ fold_push (write o) ws (filter test (range_with_len 0 n)) n
          ∙ ap (λ (xs : List ℕ). write o xs n) ih
          ∙ ap (set (each_from 0 (swept n (left_at ps o)) ws) n)
          (sym (left_new ps o n (get_or (each_from 0 (swept n (left_at ps o)) ws) n 0) t))
          ∙ sweep_more n (left_at ps o) ws
          ∙ ap (λ (m : ℕ). each_from 0 (swept m (left_at ps o)) ws) next
      | inr t ↦
          ap (rewritten o ws) (filter_more n test ∙ ap (λ (xs : List ℕ). filter test (range_with_len 0 n) ++ xs) (cond-false (test n) (n ∷ []) [] t) ∙ append-nil (filter test (range_with_len 0 n)))
          ∙ ih
          ∙ sweep_skip n (left_at ps o) ws (λ w. left_still ps o n w t)
          ∙ ap (λ (m : ℕ). each_from 0 (swept m (left_at ps o)) ws) next
    ]

pub rewritten_all : (ps : List ℕ) (o : Operation) (ws : List ℕ) → rewritten o ws (records ps o.granule) ≡ after ps o ws
unfolding after
rewritten_all ps o ws =
    rewritten_below ps o ws (length ps)
    ∙ sweep_all (length ps) (left_at ps o) ws
    (λ k w l. left_still ps o k w (and_left (is_record ps k) (beneath ps o.granule k) (record_outside ps k l)))

-- Operations that are apart change places unnoticed.
use Rattle.std.proofs.Common.{◌≡◌, ℕ, zero, suc, ◌<◌, Bool, true, false, List, [], ◌∷◌, length, get_or, sym, refl, ap, ◌∙◌, subst, inl, inr, arith}
use Rattle.std.proofs.lemmas.List.{get_or_past}
use Rattle.std.proofs.lemmas.Bool.{cases_lt, cases_Bool, cond-true, cond-false}
use Rattle.std.proofs.lemmas.Bool.Decides.{nat_tests}
use Rattle.modes.specs.declared.kind.Kind.{Kind}
use Rattle.modes.specs.declared.kind.Kind.TheVariants.{Read as Reading}
use Rattle.modes.specs.Kinds.{commutes}
use Rattle.granules.specs.Below.{sum_below}
use Rattle.granules.specs.Paths.{record_beneath, records_beneath}
use Rattle.operations.specs.declared.operation.Action.{Action}
use Rattle.operations.specs.declared.operation.Operation.{Operation}
use Rattle.operations.specs.Actions.{kind, changed}
use Rattle.operations.specs.Words.{sum, told, answer, each_from, left_at, after}
use Rattle.operations.specs.Alone.{Step, Alone}
use Rattle.operations.proofs.Places.{each_same, length_each, get_or_each}
use Rattle.ledger.specs.Collisions.{Apart}

pub commutes_comm : (k l : Kind) → commutes k l ≡ commutes l k
commutes_comm k l = grind (arith, nat_tests)

pub apart_comm : (ps : List ℕ) (o p : Operation) → Apart ps o p → Apart ps p o
apart_comm ps o p h r a b = commutes_comm (kind p.action) (kind o.action) ∙ h r b a

-- actions that commute leave the same word in either order
changed_comm : (a b : Action) (w : ℕ) → commutes (kind a) (kind b) ≡ true → changed a (changed b w) ≡ changed b (changed a w)
changed_comm a b w e = grind (arith, nat_tests)

-- an action that commutes with a read leaves each word
reads_still : (a : Action) (w : ℕ) → commutes Reading (kind a) ≡ true → changed a w ≡ w
reads_still a w e = grind (arith, nat_tests)

-- what is told depends on the sum only if the action commutes with a read
told_same : (a : Action) (s t count : ℕ) → (commutes (kind a) Reading ≡ true → s ≡ t) → told a s count ≡ told a t count
told_same a s t count h = grind (arith, nat_tests)

module _ (ps : List ℕ) where
  pub left_in : (o : Operation) (r w : ℕ) → record_beneath ps o.granule r ≡ true → left_at ps o r w ≡ changed o.action w
  left_in o r w e = cond-true (record_beneath ps o.granule r) (changed o.action w) w e

  pub left_out : (o : Operation) (r w : ℕ) → record_beneath ps o.granule r ≡ false → left_at ps o r w ≡ w
  left_out o r w e = cond-false (record_beneath ps o.granule r) (changed o.action w) w e

  left_comm : (o p : Operation) → Apart ps o p → (r w : ℕ) → left_at ps o r (left_at ps p r w) ≡ left_at ps p r (left_at ps o r w)
  left_comm o p h r w =
      elim (cases_Bool (record_beneath ps o.granule r)) [
        | inl a ↦
            elim (cases_Bool (record_beneath ps p.granule r))
            [ inl b ↦ rw (a, b, left_at) (changed_comm o.action p.action w (h r a b)) | inr b ↦ rw (a, b, left_at) ]
        | inr a ↦ rw (a, left_at)
      ]

  pub length_after : (o : Operation) (ws : List ℕ) → length (after ps o ws) ≡ length ws
  unfolding after
  length_after o ws = length_each 0 (left_at ps o) ws

  -- what stands at a place after an operation
  pub word_after : (o : Operation) (ws : List ℕ) (r : ℕ) → r < length ws → get_or (after ps o ws) r 0 ≡ left_at ps o r (get_or ws r 0)
  unfolding after
  word_after o ws r h = get_or_each (left_at ps o) ws r h

  pub after_comm : (o p : Operation) → Apart ps o p → (ws : List ℕ) → after ps o (after ps p ws) ≡ after ps p (after ps o ws)
  unfolding after
  after_comm o p h ws =
      each_each 0 (left_at ps o) (left_at ps p) ws
      ∙ each_same 0 (λ k w. left_at ps o k (left_at ps p k w)) (λ k w. left_at ps p k (left_at ps o k w)) ws (left_comm o p h)
      ∙ sym (each_each 0 (left_at ps p) (left_at ps o) ws)
    where
      each_each :
          (i : ℕ) (f g : ℕ → ℕ → ℕ) (ws : List ℕ) → each_from i f (each_from i g ws) ≡ each_from i (λ k w. f k (g k w)) ws
      each_each i f g [] = refl
      each_each i f g (w ∷ ws) = ap (λ (xs : List ℕ). f i (g i w) ∷ xs) (each_each (suc i) f g ws)

  sum_cong :
      (n : ℕ) (f : ℕ → Bool) (a b : ℕ → ℕ) → ((k : ℕ) → f k ≡ true → a k ≡ b k) → sum_below n f a ≡ sum_below n f b
  sum_cong zero f a b h = refl
  sum_cong (suc n) f a b h = grind (arith, nat_tests, sum_cong n f a b h, h n)

  -- what a read meets is not changed by an operation that is apart from it
  sum_still :
      (p o : Operation) → Apart ps p o → commutes (kind p.action) Reading ≡ true → (ws : List ℕ)
      → sum ps (after ps o ws) p.granule ≡ sum ps ws p.granule
  sum_still p o h e ws =
      sum_cong (length ps) (record_beneath ps p.granule) (λ r. get_or (after ps o ws) r 0) (λ r. get_or ws r 0)
      (λ r b.
      elim (cases_lt r (length ws)) [
        | inl l ↦
            word_after o ws r l
            ∙ grind (arith, nat_tests, reads_still o.action (get_or ws r 0), h r)
        | inr l ↦ get_or_past (after ps o ws) r 0 (omega (arith, length_after o ws)) ∙ sym (get_or_past ws r 0 l)
      ])

  pub answer_still : (p o : Operation) → Apart ps p o → (ws : List ℕ) → answer ps p (after ps o ws) ≡ answer ps p ws
  answer_still p o h ws =
      told_same p.action (sum ps (after ps o ws) p.granule) (sum ps ws p.granule) (records_beneath ps p.granule)
      (λ e. sum_still p o h e ws)

  -- two steps change places
  pub swap :
      (s t : Step) (rest : List Step) (ws out : List ℕ) → Apart ps s.0 t.0 → Alone ps ws (s ∷ t ∷ rest) out
      → Alone ps ws (t ∷ s ∷ rest) out
  swap s t rest ws out h a = (
    a.1.0 ∙ answer_still t.0 s.0 (apart_comm ps s.0 t.0 h) ws,
    (
      a.0 ∙ sym (answer_still s.0 t.0 h ws),
      subst (λ (xs : List ℕ). Alone ps xs rest out) (after_comm t.0 s.0 (apart_comm ps s.0 t.0 h) ws) a.1.1,
    ),
  )

-- Jobs whose modes stand together, and that cover what they did, do not collide.
use Rattle.std.proofs.Common.{◌≡◌, ℕ, true, eqb, List, [], ◌∷◌, ◌++◌, sym, ap, ◌∙◌, subst, inl, inr, append_assoc, append-nil, arith}
use Rattle.std.specs.List.{AllByRecursion}
use Rattle.std.proofs.lemmas.Bool.Decides.{nat_tests}
use Rattle.std.proofs.lemmas.Bool.{and_parts, or_cases, eqb-true}
use Rattle.modes.specs.declared.kind.Kind.{Kind}
use Rattle.modes.specs.Kinds.{commutes}
use Rattle.modes.specs.Systems.{System, Lawful}
use Rattle.granules.specs.Paths.{parent, path, beneath, is_record}
use Rattle.granules.proofs.Climbs.{Falls, climb, path_step, beneath_root, beneath_step}
use Rattle.operations.specs.Actions.{kind}
use Rattle.operations.specs.declared.operation.Operation.{Operation}
use Rattle.operations.specs.Alone.{Step}
use Rattle.ledger.specs.Walks.{has}
use Rattle.ledger.proofs.Swaps.{commutes_comm}
use Rattle.ledger.proofs.Runs.{all_weaker}
use Rattle.ledger.specs.Collisions.{Apart, ListsApart, covered, Covers}

-- If g is on the path of r, the path of g is a front of it.
pub front : (ps : List ℕ) → Falls ps → (g r : ℕ) → beneath ps g r ≡ true → (rest : List ℕ) × (path ps r ≡ path ps g ++ rest)
front ps f g =
    climb ps f (λ r. beneath ps g r ≡ true → (rest : List ℕ) × (path ps r ≡ path ps g ++ rest))
    (λ t. ([], ap (path ps) (sym (eqb-true g 0 (sym (beneath_root ps g) ∙ t))) ∙ sym (append-nil (path ps g))))
    (λ r h up t.
    elim (or_cases (beneath ps g (parent ps r)) (eqb g r) (sym (beneath_step ps f g r h) ∙ t)) [
      | inl b ↦
          let p = up b in (
            p.0 ++ r ∷ [],
            path_step ps f r h ∙ ap (λ (xs : List ℕ). xs ++ r ∷ []) p.1 ∙ append_assoc (path ps g) p.0 (r ∷ []),
          )
      | inr e ↦ ([], ap (path ps) (sym (eqb-true g r e)) ∙ sym (append-nil (path ps g)))
    ])

-- What is covered along a front is covered further down.
pub covered_front : (s : System) (m : ℕ → ℕ) (k : Kind) (xs ys : List ℕ) → covered s m k xs ≡ true → covered s m k (xs ++ ys) ≡ true
covered_front s m k [] ys e = cc
covered_front s m k (x ∷ xs) ys e = grind (arith, nat_tests, covered_front s m k xs ys)

-- Whoever has more covers no less.
pub covered_more :
    (s : System) (m m' : ℕ → ℕ) (k : Kind) (xs : List ℕ) → ((x part : ℕ) → has s (m x) part ≡ true → has s (m' x) part ≡ true)
    → covered s m k xs ≡ true → covered s m' k xs ≡ true
covered_more s m m' k [] h e = e
covered_more s m m' k (x ∷ xs) h e = grind (arith, nat_tests, h x (s.full k), h x (s.intent k), covered_more s m m' k xs h)

module _ (s : System) (law : Lawful s) where
  -- who stands with a mode stands with what it has in it
  stands_part : (x m part : ℕ) → has s m part ≡ true → s.stands x m ≡ true → s.stands x part ≡ true
  stands_part x m part h t = grind (arith, nat_tests, law.stands_join x m part)

  stands_parts : (m part m' part' : ℕ) → has s m part ≡ true → has s m' part' ≡ true → s.stands m m' ≡ true → s.stands part part' ≡ true
  stands_parts m part m' part' h h' t =
      law.stands_comm part part'
      ∙ stands_part part' m part h (law.stands_comm part' m ∙ stands_part m m' part' h' t)

  -- along one path two covered kinds commute
  meet :
      (m m' : ℕ → ℕ) (k l : Kind) → ((x : ℕ) → s.stands (m x) (m' x) ≡ true) → (xs : List ℕ) → covered s m k xs ≡ true
      → covered s m' l xs ≡ true → commutes k l ≡ true
  meet m m' k l st [] a b = cc
  meet m m' k l st (x ∷ xs) a b =
      grind (
        arith,
        nat_tests,
        law.full_full k l,
        law.full_intent k l,
        law.full_intent l k,
        law.stands_comm (s.full l) (s.intent k),
        commutes_comm l k,
        stands_parts (m x) (s.full k) (m' x) (s.full l),
        stands_parts (m x) (s.full k) (m' x) (s.intent l),
        stands_parts (m x) (s.intent k) (m' x) (s.full l),
        st x,
        meet m m' k l st xs,
      )

  module _ (ps : List ℕ) (f : Falls ps) (m m' : ℕ → ℕ) (st : (x : ℕ) → s.stands (m x) (m' x) ≡ true) where
    pub apart_one_one :
        (o p : Operation) → covered s m (kind o.action) (path ps o.granule) ≡ true
        → covered s m' (kind p.action) (path ps p.granule) ≡ true → Apart ps o p
    apart_one_one o p a b r x y =
        let to_o = front ps f o.granule r (and_parts (is_record ps r) (beneath ps o.granule r) x).1 in
        let to_p = front ps f p.granule r (and_parts (is_record ps r) (beneath ps p.granule r) y).1 in
        meet m m' (kind o.action) (kind p.action) st (path ps r)
        (subst (λ (xs : List ℕ). covered s m (kind o.action) xs ≡ true) (sym to_o.1)
        (covered_front s m (kind o.action) (path ps o.granule) to_o.0 a))
        (subst (λ (xs : List ℕ). covered s m' (kind p.action) xs ≡ true) (sym to_p.1)
        (covered_front s m' (kind p.action) (path ps p.granule) to_p.0 b))

    pub apart_each : (ss : List Step) (o : Operation) → Covers s ps m ss → covered s m' (kind o.action) (path ps o.granule) ≡ true
        → AllByRecursion (λ t. Apart ps t.0 o) ss
    apart_each ss o c b = all_weaker (λ t a. apart_one_one t.0 o a b) ss c

    -- The lists of two such jobs are apart.
    pub apart_lists : (ss ts : List Step) → Covers s ps m ss → Covers s ps m' ts → ListsApart ps ss ts
    apart_lists ss ts c d = all_weaker (λ t a. all_weaker (λ u b. apart_one_one t.0 u.0 a b) ts d) ss c

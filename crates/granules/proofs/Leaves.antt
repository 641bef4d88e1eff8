-- The flags of granules that are nobody's parent, marked off one child after the other.
use Rattle.std.proofs.Common.{◌≡◌, ℕ, zero, suc, ◌+◌, ◌<◌, Bool, true, false, not, ◌&&◌, ◌||◌, eqb, ltb, List, [], ◌∷◌, length, get_or, map, drop, replicate, set, sym, refl, ap, ◌∙◌, inl, inr, add-one, arith}
use Rattle.granules.specs.declared.tree.Node.{Node}
use Rattle.std.proofs.lemmas.List.{get_or_default, get_or-set_same, get_or-set_other}
use Rattle.std.proofs.lemmas.Bool.{cases_eq, and_from, and_right, or_right, ne_eqb, eq-eqb, lt-ltb}
use Rattle.granules.specs.Below.{some_below}
use Rattle.granules.specs.Paths.{parent, has_child, is_record}
use Rattle.granules.proofs.Below.{some_more}

-- h is a child of k
abbrev pub child_of : List ℕ → ℕ → ℕ → Bool
child_of ps k h = ltb 0 h && eqb (parent ps h) k

-- the first i granules are marked off
abbrev pub Marked : List ℕ → List Bool → ℕ → Type 0
Marked ps free i = (k : ℕ) → k < 256 → get_or free k false ≡ not (some_below i (child_of ps k))

or_false : (b : Bool) → (b || false) ≡ b
or_false true = refl
or_false false = refl

-- one that is no child of k changes nothing at k
skip : (ps : List ℕ) (i k : ℕ) → child_of ps k i ≡ false → some_below (i + 1) (child_of ps k) ≡ some_below i (child_of ps k)
skip ps i k e =
    some_more i (child_of ps k) ∙ ap (λ (b : Bool). some_below i (child_of ps k) || b) e ∙ or_false (some_below i (child_of ps k))

pub marked_more :
    (ps : List ℕ) (free : List Bool) (i : ℕ) → 0 < i → length free ≡ 256 → Marked ps free i → Marked ps (set free (parent ps i) false) (i + 1)
marked_more ps free i l full m k h =
    elim (cases_eq k (parent ps i)) [
      | inl e ↦
          let found : child_of ps k i ≡ true = and_from (ltb 0 i) (eqb (parent ps i) k) (lt-ltb 0 i l) (eq-eqb (parent ps i) k (sym e)) in
          let all : some_below (i + 1) (child_of ps k) ≡ true =
          some_more i (child_of ps k) ∙ or_right (some_below i (child_of ps k)) (child_of ps k i) found
          in
          ap (λ (x : ℕ). get_or (set free (parent ps i) false) x false) e
          ∙ get_or-set_same free (parent ps i) false false (omega arith)
          ∙ ap not (sym all)
      | inr e ↦
          get_or-set_other free (parent ps i) k false false e
          ∙ m k h
          ∙ ap not (sym (skip ps i k (and_right (ltb 0 i) (eqb (parent ps i) k) (ne_eqb (parent ps i) k (λ (z : parent ps i ≡ k). e (sym z))))))
    ]

-- when all are marked off, the granules that are left are the records
pub record_free : (ps : List ℕ) (g : ℕ) → g < length ps → not (some_below (length ps) (child_of ps g)) ≡ is_record ps g
unfolding is_record
record_free ps g l = ap (λ (b : Bool). b && not (has_child ps g)) (sym (lt-ltb g (length ps) l))

-- before any is marked off, all of a list of leaves are left
pub all_left : (ps : List ℕ) (n : ℕ) (node : Node) → node.leaf ≡ true → (k : ℕ) → k < n → get_or (map (λ m. m.leaf) (replicate n node)) k false ≡ true
all_left ps zero node e k h = absurd (omega arith)
all_left ps (suc n) node e zero h = e
all_left ps (suc n) node e (suc k) h = all_left ps n node e k (omega arith)

-- the nth of the entries after the root's
pub nth_child : (ps : List ℕ) (n p : ℕ) → n < length (drop 1 ps) → p ≡ get_or (drop 1 ps) n p → (n + 1 < length ps) × (p ≡ parent ps (n + 1))
nth_child [] n p l e = absurd (omega arith)
nth_child (x ∷ xs) n p l e = (omega arith, e ∙ get_or_default xs n p 0 l ∙ rw add-one)

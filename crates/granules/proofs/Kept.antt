-- What a tree and a path keep: as many entries as they say, and parents that fall.
use Rattle.std.proofs.Common.{◌≡◌, ℕ, ◌<◌, ◌≤◌, true, false, cond, ltb, [], ◌∷◌, ◌++◌, length, map, ap, ◌∙◌, inl, inr, arith}
use Rattle.std.proofs.lemmas.List.{length-map, length-take-le}
use Rattle.std.proofs.lemmas.Bool.{cases_Bool, cond-true, lt-ltb}
use Rattle.granules.specs.declared.tree.Tree.{Tree}
use Rattle.granules.specs.declared.path.Path.{Path}
use Rattle.granules.specs.Paths.{parent, path, beneath, is_record, record_beneath}
use Rattle.granules.specs.Trees.{table, steps}
use Rattle.granules.proofs.Climbs.{Falls, falls, record_parts, record_span, other_span, path_root, path_step, path_room, beneath_here, beneath_le, beneath_top, beneath_up}

pub size : (t : Tree) → length (table t) ≡ t.granules
size t = length-take-le t.granules (map (λ n. n.parent) t.nodes) (omega (arith, t.few, t.full, length-map t.nodes (λ n. n.parent)))

pub long : (p : Path) → length (steps p) ≡ p.len
long p = length-take-le p.len p.granules (omega (arith, p.few, p.full))

pub tree_falls : (t : Tree) → Falls (table t)
tree_falls t = falls (table t) t.rooted

-- the two cases of what a tree answers as a path
pub path_inside : (t : Tree) (g : ℕ) → g < 256 → cond (ltb g 256) (path (table t) g) (0 ∷ []) ≡ path (table t) g
path_inside t g h = cond-true (ltb g 256) (path (table t) g) (0 ∷ []) (lt-ltb g 256 h)

-- what a climb from a granule of a tree learns where it stands
pub parent_falls : (t : Tree) (g : ℕ) → 0 < g → parent (table t) g < g
parent_falls t g h = tree_falls t g h

pub climb_found : (t : Tree) (above g : ℕ) → g ≡ above → beneath (table t) above g ≡ true
climb_found t above g e = beneath_here (table t) (tree_falls t) above g e

pub climb_root : (t : Tree) (above g : ℕ) → above ≡ 0 → beneath (table t) above g ≡ true
climb_root t above g e = rw e (beneath_top (table t) (tree_falls t) g)

pub climb_ends : (t : Tree) (above g : ℕ) → g < above → beneath (table t) above g ≡ false
climb_ends t above g l =
    elim (cases_Bool (beneath (table t) above g)) [
      | inl b ↦ absurd (omega (arith, beneath_le (table t) (tree_falls t) above g b))
      | inr b ↦ b
    ]

pub climb_on : (t : Tree) (above g : ℕ) → (g ≡ above → ⊥) → 0 < g → beneath (table t) above g ≡ beneath (table t) above (parent (table t) g)
climb_on t above g n h = beneath_up (table t) (tree_falls t) above g n h

pub path_ends : (t : Tree) (g : ℕ) → g ≡ 0 → path (table t) g ≡ 0 ∷ []
path_ends t g e = ap (path (table t)) e ∙ path_root (table t)

pub path_on : (t : Tree) (g : ℕ) → 0 < g → path (table t) g ≡ path (table t) (parent (table t) g) ++ g ∷ []
path_on t g h = path_step (table t) (tree_falls t) g h

pub path_fits : (t : Tree) (g : ℕ) → 0 < g → length (path (table t) (parent (table t) g)) < 8
path_fits t g h = path_room (table t) (tree_falls t) t.shallow g h

-- where records beneath a granule lie
pub record_inside : (t : Tree) (g : ℕ) → is_record (table t) g ≡ true → g < t.granules
record_inside t g e = omega (arith, (record_parts (table t) g e).0, size t)

pub beneath_record : (t : Tree) (g k : ℕ) → is_record (table t) g ≡ true → record_beneath (table t) g k ≡ true → k ≡ g
beneath_record t g k e b = let s = record_span (table t) (tree_falls t) g e k b in omega arith

pub beneath_other : (t : Tree) (g k : ℕ) → record_beneath (table t) g k ≡ true → (g ≤ k) × (k < t.granules)
beneath_other t g k b = let s = other_span (table t) (tree_falls t) g k b in (s.0, omega (arith, s.1, size t))

pub ruleset climbs = (parent_falls, climb_root, climb_found, climb_ends, climb_on)

pub ruleset paths = (parent_falls, path_ends, path_on, path_fits)

pub ruleset spans = (size, record_inside, beneath_record, beneath_other)

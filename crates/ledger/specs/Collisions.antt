-- When two operations are in each other's way, and when two jobs are.
use Rattle.std.specs.Prelude.{◌≡◌, ℕ, Bool, true, false, ◌&&◌, ◌||◌, List, [], ◌∷◌}
use Rattle.modes.specs.declared.kind.Kind.{Kind}
use Rattle.modes.specs.Kinds.{commutes}
use Rattle.modes.specs.Systems.{System}
use Rattle.granules.specs.Paths.{path, record_beneath}
use Rattle.operations.specs.declared.operation.Operation.{Operation}
use Rattle.operations.specs.Actions.{kind}
use Rattle.operations.specs.Alone.{Step}
use Rattle.std.specs.List.{AllByRecursion}
use Rattle.ledger.specs.Walks.{has}

-- Two operations are apart if they commute wherever they meet: on every record beneath both granules.
abbrev pub Apart : List ℕ → Operation → Operation → Type 0
Apart parents o p =
    (r : ℕ)
    → record_beneath parents o.granule r ≡ true
    → record_beneath parents p.granule r ≡ true
    → commutes (kind o.action) (kind p.action) ≡ true

-- Two lists of steps are apart if each operation of the one is apart from each of the other: the jobs do not collide.
abbrev pub ListsApart : List ℕ → List Step → List Step → Type 0
ListsApart parents ss ts = AllByRecursion (λ s. AllByRecursion (λ t. Apart parents s.0 t.0) ts) ss

-- A job that holds the modes m covers kind k along a path: it has the full mode on some granule of it, and the
-- intent on all granules above that one.
abbrev pub covered : System → (ℕ → ℕ) → Kind → List ℕ → Bool
covered s m k [] = false
covered s m k (x ∷ xs) = has s (m x) (s.full k) || (has s (m x) (s.intent k) && covered s m k xs)

-- It covers what it did.
abbrev pub Covers : System → List ℕ → (ℕ → ℕ) → List Step → Type 0
Covers s parents m steps = AllByRecursion (λ t. covered s m (kind t.0.action) (path parents t.0.granule) ≡ true) steps

-- The tree of granules, by its parents table: a list whose entry g is the parent of granule g.
-- Granule 0, the database, is the root, and its own parent. Every other parent has a smaller number than its child.
use Rattle.std.specs.Prelude.{ℕ, zero, suc, Bool, false, not, ◌&&◌, ◌||◌, List, [], ◌∷◌, ◌++◌, length, ◌==◌, nat_lt, slice_index}
use Rattle.std.specs.List.{filter, range_with_len}
use Rattle.granules.specs.Below.{some_below, count_below}

-- The parent of granule g.
abbrev pub parent : List ℕ → ℕ → ℕ
parent parents g = slice_index parents g

-- The path from granule 0 down to g: the path to its parent, then g. The first argument bounds the climb; it is
-- spent one a granule, and since parents are smaller g itself is enough.
abbrev pub path_by : ℕ → List ℕ → ℕ → List ℕ
path_by zero parents g = g ∷ []
path_by (suc n) parents zero = 0 ∷ []
path_by (suc n) parents (suc g) = path_by n parents (parent parents (suc g)) ++ suc g ∷ []

-- The granules from the root down to g.
unfoldable pub path : List ℕ → ℕ → List ℕ
path parents g = path_by g parents g

-- Whether g stands in a list.
abbrev pub among : ℕ → List ℕ → Bool
among g [] = false
among g (x ∷ xs) = g == x || among g xs

-- A granule lies beneath each granule on its path, itself among them.
abbrev pub beneath : List ℕ → ℕ → ℕ → Bool
beneath parents above g = among above (path parents g)

-- Whether g is the parent of some granule. That the root is its own parent does not count.
abbrev pub has_child : List ℕ → ℕ → Bool
has_child parents g = some_below (length parents) (λ h. nat_lt 0 h && parent parents h == g)

-- A record is a granule that is nobody's parent. Words lie at records only.
unfoldable pub is_record : List ℕ → ℕ → Bool
is_record parents g = nat_lt g (length parents) && not (has_child parents g)

-- Whether r is a record beneath g: what an operation on g works on.
abbrev pub record_beneath : List ℕ → ℕ → ℕ → Bool
record_beneath parents g r = is_record parents r && beneath parents g r

-- How many there are.
abbrev pub records_beneath : List ℕ → ℕ → ℕ
records_beneath parents g = count_below (length parents) (record_beneath parents g)

-- Their numbers, in ascending order.
abbrev pub records : List ℕ → ℕ → List ℕ
records parents g = filter (record_beneath parents g) (range_with_len 0 (length parents))

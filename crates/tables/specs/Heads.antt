-- Who holds what on a granule, counted.
use Rattle.std.specs.Prelude.{ℕ, zero, suc, ◌+◌, cond, not, ◌&&◌, List, [], ◌∷◌, ◌==◌, slice_index}
use Rattle.modes.specs.Systems.{System}

-- What one slot that holds a mode adds to the count of mode m. No lock is not counted.
abbrev pub one : ℕ → ℕ → ℕ
one held m = cond (not (m == 0) && held == m) 1 0

-- How many slots hold mode m on granule x.
abbrev pub tally : List (List ℕ) → ℕ → ℕ → ℕ
tally [] x m = 0
tally (row ∷ rows) x m = one (slice_index row x) m + tally rows x m

-- The join of f below n.
abbrev pub join_below : System → ℕ → (ℕ → ℕ) → ℕ
join_below s zero f = 0
join_below s (suc n) f = s.join (join_below s n f) (f n)

-- Mode m if somebody is counted there, else no lock.
abbrev pub if_held : List ℕ → ℕ → ℕ
if_held counts m = cond (slice_index counts m == 0) 0 m

-- The group mode of a granule with these counts: the join of all modes that somebody holds.
abbrev pub group_of : System → List ℕ → ℕ
group_of s counts = join_below s 16 (if_held counts)

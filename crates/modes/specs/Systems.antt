-- What a mode system means, and the laws that every one of them keeps.
use Rattle.std.specs.Prelude.{◌≡◌, ℕ, ◌-◌, ◌<◌, ◌≤◌, min, Bool, true, false, ◌&&◌}
use Rattle.modes.specs.declared.kind.Kind.{Kind}
use Rattle.modes.specs.Kinds.{commutes}

-- A mode system, by what it answers. Modes are codes from 0 to count - 1, and code 0 is "no lock".
pub record System : Type 0 where
  -- how many modes there are
  pub count : ℕ
  -- the mode of a job that holds both
  pub join : ℕ → ℕ → ℕ
  -- whether two jobs may hold these modes on one granule at once
  pub stands : ℕ → ℕ → Bool
  -- what an operation of a kind takes on the granule that it names
  pub full : Kind → ℕ
  -- what it takes on the granules above
  pub intent : Kind → ℕ

-- The code that a code is read as: itself, or the last one if it lies beyond.
abbrev pub clipped : ℕ → ℕ → ℕ
clipped count code = min code (count - 1)

-- The laws. Where no bound is written a law holds for every number, since codes beyond the last are read as the last.
pub record Lawful (s : System) : Type 0 where
  pub some_modes : 0 < s.count
  pub few_modes : s.count ≤ 16
  -- codes beyond the last are read as the last, and no answer lies beyond it
  pub join_clips : (a b : ℕ) → s.join a b ≡ s.join (clipped s.count a) (clipped s.count b)
  pub stands_clips : (a b : ℕ) → s.stands a b ≡ s.stands (clipped s.count a) (clipped s.count b)
  pub join_within : (a b : ℕ) → s.join a b < s.count
  pub full_within : (k : Kind) → s.full k < s.count
  pub intent_within : (k : Kind) → s.intent k < s.count
  -- the join
  pub join_assoc : (a b c : ℕ) → s.join (s.join a b) c ≡ s.join a (s.join b c)
  pub join_comm : (a b : ℕ) → s.join a b ≡ s.join b a
  pub join_same : (a : ℕ) → a < s.count → s.join a a ≡ a
  pub join_none : (a : ℕ) → a < s.count → s.join 0 a ≡ a
  -- standing together
  pub stands_comm : (a b : ℕ) → s.stands a b ≡ s.stands b a
  pub stands_none : (a : ℕ) → s.stands 0 a ≡ true
  pub stands_join : (a b c : ℕ) → s.stands a (s.join b c) ≡ (s.stands a b && s.stands a c)
  -- what keeps operations that do not commute apart
  pub full_full : (k l : Kind) → commutes k l ≡ false → s.stands (s.full k) (s.full l) ≡ false
  pub full_intent : (k l : Kind) → commutes k l ≡ false → s.stands (s.full k) (s.intent l) ≡ false

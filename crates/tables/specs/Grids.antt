-- Cells by slot and granule: the modes that jobs hold, and their notes.
use Rattle.std.specs.Prelude.{ℕ, Bool, true, false, ◌&&◌, List, [], ◌∷◌, length, ◌==◌, slice_index_or, slice_set}
use Rattle.ledger.specs.declared.job.Note.{Note}
use Rattle.ledger.specs.declared.job.Note.TheVariants.{Nothing, Added, PutBack}

-- each row has n cells
abbrev pub all_long : {A : Type 0} → ℕ → List (List A) → Bool
all_long n [] = true
all_long n (row ∷ rows) = length row == n && all_long n rows

-- the cell of a slot and a granule; a default where there is none
abbrev pub cell : {A : Type 0} → A → List (List A) → ℕ → ℕ → A
cell d rows s x = slice_index_or (slice_index_or rows s []) x d

-- one cell changed
abbrev pub with_cell : {A : Type 0} → List (List A) → ℕ → ℕ → A → List (List A)
with_cell rows s x v = slice_set rows s (slice_set (slice_index_or rows s []) x v)

-- a note that says nothing
abbrev pub is_nothing : Note → Bool
is_nothing Nothing = true
is_nothing (Added n) = false
is_nothing (PutBack w) = false

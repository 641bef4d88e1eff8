-- How a text is cut into lines, and a line into entries.
use Rattle.std.specs.Prelude.{ℕ, Bool, true, false, List, [], ◌∷◌, Some, None, Option, ◌==◌, ◌-◌, length, take}
use Rattle.std.specs.List.{slice_split}

-- The bytes before the first `at`, or all of them.
abbrev pub head : ℕ → List ℕ → List ℕ
head at [] = []
head at (b ∷ bs) = elim (b == at) [ true ↦ [] | false ↦ b ∷ head at bs ]

-- The bytes after the first `at`, if there is one.
abbrev pub tail : ℕ → List ℕ → Option (List ℕ)
tail at [] = None
tail at (b ∷ bs) = elim (b == at) [ true ↦ Some bs | false ↦ tail at bs ]

-- What is left to read of a line: its bytes from the next entry on, or nothing where all entries have been read; and
-- whether it ends with byte 10, as it must. A line that does not is cut off: its last entry is not whole.
pub record Remains : Type 0 where
  pub bytes : Option (List ℕ)
  pub whole : Bool

-- An empty line has no entries. One that is empty because the text ends still lacks its end.
abbrev pub unread : List ℕ → Bool → Option (List ℕ)
unread [] true = None
unread [] false = Some []
unread (b ∷ bs) whole = Some (b ∷ bs)

-- The line with which a text begins, and the text after it.
abbrev pub ended : Option (List ℕ) → Bool
ended None = false
ended (Some rest) = true

-- The line with which a text begins: whole if byte 10 follows it.
abbrev pub line : List ℕ → Remains
line text = record { bytes = unread (head 10 text) (ended (tail 10 text)); whole = ended (tail 10 text) }

-- A rest, or no bytes where there is none.
abbrev pub or_none : Option (List ℕ) → List ℕ
or_none None = []
or_none (Some rest) = rest

-- The text after its first line.
abbrev pub lines_after : List ℕ → List ℕ
lines_after text = or_none (tail 10 text)

-- The next entry: up to the next space, byte 32, or to the end of a line that is whole.
abbrev last_entry : Bool → List ℕ → Option (List ℕ)
last_entry true bs = Some bs
last_entry false bs = None

-- The next entry of bytes of which the rest after a space is given, if they have one.
abbrev spaced : Option (List ℕ) → Bool → List ℕ → Option (List ℕ)
spaced (Some rest) whole bs = Some (head 32 bs)
spaced None whole bs = last_entry whole bs

-- The next entry of the bytes that are left.
abbrev entry_in : Option (List ℕ) → Bool → Option (List ℕ)
entry_in None whole = None
entry_in (Some bs) whole = spaced (tail 32 bs) whole bs

-- The next entry of a line, if one is whole.
abbrev pub entry : Remains → Option (List ℕ)
entry l = entry_in l.bytes l.whole

-- What is then left of the line. Where no whole entry could be read, that is what there was.
abbrev last_rest : Bool → List ℕ → Option (List ℕ)
last_rest true bs = None
last_rest false bs = Some bs

-- The bytes that are left after that entry.
abbrev spaced_rest : Option (List ℕ) → Bool → List ℕ → Option (List ℕ)
spaced_rest (Some rest) whole bs = Some rest
spaced_rest None whole bs = last_rest whole bs

-- The same of the bytes that are left, if any are.
abbrev rest_in : Option (List ℕ) → Bool → Option (List ℕ)
rest_in None whole = None
rest_in (Some bs) whole = spaced_rest (tail 32 bs) whole bs

-- The line without its next entry.
abbrev pub entries_after : Remains → Remains
entries_after l = record { bytes = rest_in l.bytes l.whole; whole = l.whole }

-- The entries that are left to read of a line, in order: its bytes cut at each space. Where it is cut off, the last of them
-- is not whole.
abbrev spaced_out : List ℕ → List (List ℕ)
spaced_out bs = slice_split (λ b. b == 32) bs

-- The entries of bytes: all of a whole line, all but the last of one that is cut off.
abbrev entries_in : Option (List ℕ) → Bool → List (List ℕ)
entries_in None whole = []
entries_in (Some bs) true = spaced_out bs
entries_in (Some bs) false = take (length (spaced_out bs) - 1) (spaced_out bs)

-- The entries that can still be read of a line.
abbrev pub entries : Remains → List (List ℕ)
entries l = entries_in l.bytes l.whole

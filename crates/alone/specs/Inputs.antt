-- How a text reads: as what is to be run, or as bad at the first entry that is not as it should be.
use Rattle.std.specs.Prelude.{◌≡◌, ℕ, zero, suc, Bool, true, false, cond, not, ◌&&◌, List, [], ◌∷◌, length, is_some, Some, None, Ok, Err, vec_items, Option, Result, ◌==◌, nat_le, nat_lt}
use Rattle.std.specs.Option.{option_map}
use Rattle.entries.specs.Cuts.{Remains, head, tail, line, lines_after, entry, entries_after}
use Rattle.entries.specs.Numbers.{numeral}
use Rattle.operations.specs.declared.operation.Action.{Action}
use Rattle.operations.specs.declared.operation.Action.TheVariants.{Read, Mean, Set, Add}
use Rattle.operations.specs.declared.operation.Operation.{Operation}
use Rattle.alone.specs.declared.denied.Denied.{Denied}
use Rattle.alone.specs.declared.denied.Denied.TheVariants.{Entry, Table, Memory}
use Rattle.alone.specs.declared.input.Work.{Work}

-- What a text asks to be run.
pub record Input : Type 0 where
  pub parents : List ℕ
  pub words : List ℕ
  pub operations : List Operation

-- What a part of a text reads as: a value, or a bad entry, by its line and its place on that line, both counted from 1.
pub data Reading (A : Type 0) : Type 0 where
  good : A → Reading A
  bad : ℕ → ℕ → Reading A

-- A part, and after it, if it is good, the next.
abbrev pub and_then : {A B : Type 0} → Reading A → (A → Reading B) → Reading B
and_then (good x) next = next x
and_then (bad l e) next = bad l e

-- What has to be there as entry e of line l.
abbrev pub wanted : {A : Type 0} → ℕ → ℕ → Option A → Reading A
wanted l e None = bad l e
wanted l e (Some x) = good x

-- A value that stands if nothing is left where entry e of line l would be.
abbrev pub closed : {A : Type 0} → ℕ → ℕ → Bool → A → Reading A
closed l e true x = good x
closed l e false x = bad l e

-- A value, if there is one, and what is read of it.
abbrev pub chained : {A B : Type 0} → Option A → (A → Option B) → Option B
chained None f = None
chained (Some x) f = f x

-- A number, if there is one and it lies from `low` to `high`.
abbrev pub within : ℕ → ℕ → Option ℕ → Option ℕ
within low high o = chained o (λ v. cond (nat_le low v && nat_le v high) (Some v) None)

-- What the letter of an operation stands for, `r` (byte 114), `m` (109), `s` (115) or `a` (97), with the bytes after its `=` if
-- it has one.
abbrev pub action_of : ℕ → Option (List ℕ) → Option Action
action_of letter None = cond (letter == 114) (Some Read) (cond (letter == 109) (Some Mean) None)
action_of letter (Some word) =
    cond (letter == 115) (option_map Set (numeral word)) (cond (letter == 97) (option_map Add (numeral word)) None)

-- A granule, if there is one below `granules`.
abbrev pub granule_in : ℕ → List ℕ → Option ℕ
granule_in granules bytes = chained (numeral bytes) (λ g. cond (nat_lt g granules) (Some g) None)

-- An operation, as `r3`, `m0`, `s2=4` or `a3=5`: a letter, a granule and, for `s` and `a`, `=` (byte 61) and a word.
abbrev pub lettered : ℕ → ℕ → List ℕ → Option Operation
lettered granules letter rest =
    chained (granule_in granules (head 61 rest))
    (λ g. chained (action_of letter (tail 61 rest)) (λ a. Some (record { granule = g; action = a })))

-- The operation that an entry stands for, if it is one.
abbrev pub operation_in : ℕ → List ℕ → Option Operation
operation_in granules [] = None
operation_in granules (letter ∷ rest) = lettered granules letter rest

-- Whether all entries of a line have been read.
abbrev pub spent : Remains → Bool
spent r = not (is_some r.bytes)

-- The next entry of a line, as `f` reads it.
abbrev pub next : {A : Type 0} → (List ℕ → Option A) → Remains → Option A
next f r = chained (entry r) f

-- Line 1: the number of granules, 1 to 256, and that of operations, at most 1024.
abbrev pub sizes : Remains → Reading (ℕ × ℕ)
sizes r =
    and_then (wanted 1 1 (within 1 256 (next numeral r)))
    (λ n.
    and_then (wanted 1 2 (within 0 1024 (next numeral (entries_after r))))
    (λ s. closed 1 3 (spent (entries_after (entries_after r))) (n, s)))

-- What is left of line l, from entry e on: `count` entries as `f` reads them, and no more.
unfoldable pub all_of : {A : Type 0} → (List ℕ → Option A) → ℕ → ℕ → ℕ → Remains → Reading (List A)
all_of f l e zero r = closed l e (spent r) []
all_of f l e (suc count) r =
    and_then (wanted l e (next f r)) (λ x. and_then (all_of f l (suc e) count (entries_after r)) (λ xs. good (x ∷ xs)))

-- Four lines and what follows them: the sizes, as many parents, as many first words, the operations, and nothing more.
unfoldable pub read_lines : Remains → Remains → Remains → Remains → List ℕ → Reading Input
read_lines first second third fourth more =
    and_then (sizes first)
    (λ size.
    and_then (all_of numeral 2 1 size.0 second)
    (λ parents.
    and_then (all_of numeral 3 1 size.0 third)
    (λ words.
    and_then (all_of (operation_in size.0) 4 1 size.1 fourth)
    (λ operations.
    closed 5 1 (length more == 0) (record { parents = parents; words = words; operations = operations })))))

-- A whole text.
unfoldable pub reading : List ℕ → Reading Input
reading text =
    let second = lines_after text in
    let third = lines_after second in
    let fourth = lines_after third in
    read_lines (line text) (line second) (line third) (line fourth) (lines_after fourth)

-- What a function that reads promises of its answer, as `view` sees it: that it is what is defined. It refuses no table, and
-- for want of memory it promises nothing.
abbrev pub ReadAs : {A B : Type 0} → (A → B) → Reading B → Result A Denied → Type 0
ReadAs view defined (Ok x) = defined ≡ good (view x)
ReadAs view defined (Err (Entry l e)) = defined ≡ bad l e
ReadAs view defined (Err (Table unfit)) = ⊥
ReadAs view defined (Err Memory) = Unit {0}

-- What is to be run, as lists.
abbrev pub input_of : Work → Input
input_of w = record { parents = vec_items w.parents; words = vec_items w.words; operations = vec_items w.operations }

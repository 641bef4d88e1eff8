-- What the program reports of a text.
use Rattle.std.specs.Prelude.{◌≡◌, ℕ, List, length, take, replicate, Some, None, Ok, Err, Result, vec_items}
use Rattle.granules.specs.Tables.{fault}
use Rattle.shelf.specs.Words.{over}
use Rattle.operations.specs.declared.operation.Operation.{Operation}
use Rattle.operations.specs.declared.operation.Outcome.{Outcome}
use Rattle.operations.specs.Alone.{Alone, noted}
use Rattle.alone.specs.declared.listing.Report.{Report}
use Rattle.alone.specs.declared.denied.Denied.{Denied}
use Rattle.alone.specs.declared.denied.Denied.TheVariants.{Entry, Table, Memory}
use Rattle.alone.specs.Inputs.{Input, good, bad, reading}

-- The 256 places of the floor, which hold 0 before the first words are laid there.
unfoldable pub bare : List ℕ
bare = replicate 256 0

-- Operations run alone on these first words: there is an answer to each, and `words` are those left at the granules' places.
abbrev pub Finished : List ℕ → List ℕ → List Operation → List Outcome → List ℕ → Type 0
Finished parents first operations answers words =
    (length answers ≡ length operations)
    × ((end : List ℕ) × Alone parents first (noted operations answers) end × (words ≡ take (length parents) end))

-- A text that reads as an input of which P holds.
abbrev pub ReadsSo : List ℕ → (Input → Type 0) → Type 0
ReadsSo text P = (input : Input) × (reading text ≡ good input) × P input

-- An answer to a text is right: the text is bad just there; or its table has this fault; or it has none, and the operations,
-- run alone from the first words, answer this and leave this. For want of memory nothing is said.
abbrev pub Reported : List ℕ → Result Report Denied → Type 0
Reported text (Err (Entry line entry)) = reading text ≡ bad line entry
Reported text (Err (Table unfit)) = ReadsSo text (λ i. fault i.parents (length i.words) ≡ Some unfit)
Reported text (Err Memory) = Unit {0}
Reported text (Ok report) =
    ReadsSo text
    (λ i.
    (fault i.parents (length i.words) ≡ None)
    × Finished i.parents (over i.words bare) i.operations (vec_items report.answers) (vec_items report.words))

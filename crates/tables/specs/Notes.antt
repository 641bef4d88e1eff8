-- What an operation leaves of a job's notes.
use Rattle.std.specs.Prelude.{ℕ, true, false, List}
use Rattle.granules.specs.Paths.{record_beneath}
use Rattle.operations.specs.declared.operation.Operation.{Operation}
use Rattle.ledger.specs.declared.job.Note.{Note}
use Rattle.ledger.specs.Models.{noted, word_at}

-- The note on record r, on a shelf with these words: one more action noted if r is a record beneath the operation's
-- granule, else as it was.
abbrev pub noted_at : List ℕ → Operation → List ℕ → ℕ → Note → Note
noted_at parents o words r note =
    elim (record_beneath parents o.granule r) [ true ↦ noted o.action (word_at words r) note | false ↦ note ]

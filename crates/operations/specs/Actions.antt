-- What one action does to a word, and what it is to the locks.
use Rattle.std.specs.Prelude.{ℕ, ◌+◌, ◌*◌, ◌/◌, ◌%◌}
use Rattle.modes.specs.declared.kind.Kind.{Kind}
use Rattle.modes.specs.declared.kind.Kind.TheVariants.{Read as Reading, Set as Setting, Add as Adding}
use Rattle.operations.specs.declared.operation.Action.{Action}
use Rattle.operations.specs.declared.operation.Action.TheVariants.{Read, Mean, Set, Add}

-- A mean is a read.
abbrev pub kind : Action → Kind
kind Read = Reading
kind Mean = Reading
kind (Set w) = Setting
kind (Add w) = Adding

-- What is left of the word of a record. A word has 32 bits: what does not fit wraps at 4294967296.
abbrev pub changed : Action → ℕ → ℕ
changed Read word = word
changed Mean word = word
changed (Set w) word = w % 4294967296
changed (Add w) word = (word + w) % 4294967296

-- A sum over a count, to the nearest whole number, halves up; over no records it is 0, as a number over 0 is.
abbrev pub rounded : ℕ → ℕ → ℕ
rounded sum count = (2 * sum + count) / (2 * count)

-- The three kinds of operation, and which two commute.
use Rattle.std.specs.Prelude.{Bool, true, false}
use Rattle.modes.specs.declared.kind.Kind.{Kind}
use Rattle.modes.specs.declared.kind.Kind.TheVariants.{Read, Set, Add}

-- Two reads commute, and so do two additions, since a sum does not depend on its order. No others do.
abbrev pub commutes : Kind → Kind → Bool
commutes Read Read = true
commutes Read Set = false
commutes Read Add = false
commutes Set Read = false
commutes Set Set = false
commutes Set Add = false
commutes Add Read = false
commutes Add Set = false
commutes Add Add = true

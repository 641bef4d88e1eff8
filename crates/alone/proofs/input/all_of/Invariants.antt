use Rattle.std.proofs.Common.{◌≡◌, ℕ, List, Option, vec_items}
use Rattle.entries.specs.Lines.{remains}
use Rattle.alone.proofs.Readings.{Left}
use Rattle.alone.proofs.input.all_of.Given as goal

abbrev pub invariant-loop-i : goal.invariant-loop-i
invariant-loop-i g l =
    (f : List ℕ → Option _) → ((entry : _) (r : _) → goal.F-post g l.fn.read entry r → r ≡ f entry.now)
    → Left f l.at l.count (remains l.fn.line) l.i (vec_items l.values) (remains l.line)

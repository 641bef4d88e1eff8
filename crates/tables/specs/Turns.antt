-- What is laid out, and what an operation comes to.
use Rattle.std.specs.Prelude.{Some, None, Option}
use Rattle.modes.specs.Systems.{System}
use Rattle.granules.specs.declared.tree.Tree.{Tree}
use Rattle.granules.specs.Trees.{table}
use Rattle.operations.specs.declared.operation.Outcome.{Outcome}
use Rattle.ledger.specs.declared.call.Answer.{Answer}
use Rattle.ledger.specs.declared.call.Answer.TheVariants.{Told, Waits}
use Rattle.ledger.specs.Ledgers.{Layout}

-- A mode system over the table of a tree.
abbrev pub layout : System → Tree → Layout
layout s t = record { system = s; parents = table t }

-- the answer of an operation whose outcome is f of what there is; where there is nothing, it waits for an older job
abbrev pub told : {T : Type 0} → (T → Outcome) → Option T → Answer
told f (Some x) = Told (f x)
told f None = Waits

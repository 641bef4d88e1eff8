use Rattle.std.proofs.Common.{◌≡◌, ◌≤◌, length, take, vec_items, vec_len, vec_capacity}
use Rattle.ledger.specs.Ledgers.{together}
use Rattle.engine.specs.States.{state, words_of}
use Rattle.engine.proofs.Serves.{Follows}
use Rattle.engine.proofs.run.run.Given as goal

-- as many answers as calls so far, and a history of them that is kept
abbrev pub invariant-loop-call : goal.invariant-loop-call
invariant-loop-call g l =
    (vec_len l.answers ≡ l.call-index)
    × (length l.calls ≤ vec_capacity l.answers)
    × Follows g.M.ModeSystem.meaning l.parents (words_of (state g.S.Shelf.words l.initial.engine)) (together (take l.call-index l.calls) (vec_items l.answers))
    (state g.S.Shelf.words l.engine)

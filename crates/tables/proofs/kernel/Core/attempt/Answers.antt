use Rattle.std.proofs.Common.{◌≡◌, ℕ, List, get_or, set, sym, ap, ◌∙◌, arith}
use Rattle.granules.specs.Trees.{table, steps}
use Rattle.granules.proofs.Kept.{path_inside}
use Rattle.ledger.specs.declared.job.Status.TheVariants.{Ended}
use Rattle.tables.specs.declared.slot.Event.{Event}
use Rattle.tables.specs.Seats.{slot}
use Rattle.tables.specs.Slots.{moved}
use Rattle.tables.specs.Views.{model, numbers_of, states_of}
use Rattle.tables.proofs.Tries.{attempt_view}
use Rattle.tables.proofs.kernel.Core.attempt.Goals as goal

pub returns : goal.returns
returns g c =
    let t = c.walk-complete.new.self in
    let o = c.args.operation in
    let tree = c.args.tree.now in
    let i = c.seat-seat.result.slot in
    let same : slot (numbers_of t.seats) c.args.job ≡ slot (numbers_of c.args.self.now.seats) c.args.job =
    ap (λ (ns : List ℕ). slot ns c.args.job) c.walk-complete.ensures.numbers
    in
    record {
      attempt =
          attempt_view g.M.ModeSystem.meaning (table tree) (model g.S.Shelf.words c.args.self.now) (g.S.Shelf.words t.shelf) t.seats c.turn.new.self t.held t.noted
          c.args.job o c.kind.result (steps c.path-path.result) c.walk-complete.result i c.kind.ensures.value
          (c.path-path.ensures.value ∙ path_inside tree o.granule c.requires.near) c.walk-complete.ensures.walk c.requires.opened
          (omega (arith, same, c.requires.seated)) (c.seat-seat.ensures.value ∙ sym same) c.turn.ensures.numbers
          (c.turn.ensures.states ∙ ap (λ (e : Event). set (states_of t.seats) i (moved (get_or (states_of t.seats) i Ended) e)) c.of_walk.ensures.value)
          c.turn.ensures.opened;
      numbers = c.turn.ensures.numbers ∙ c.walk-complete.ensures.numbers;
    }

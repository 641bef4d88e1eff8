use Rattle.std.proofs.Common.{get_or, set, sym, ap, ◌∙◌}
use Rattle.ledger.specs.declared.job.Status.TheVariants.{Ended}
use Rattle.tables.specs.Seats.{slot}
use Rattle.tables.proofs.Slots.{reopens}
use Rattle.tables.proofs.Tries.{turn_view}
use Rattle.ledger.specs.declared.job.Status.TheVariants.{Working}
use Rattle.tables.specs.Views.{numbers_of, states_of}
use Rattle.tables.proofs.kernel.Core.reopen.Goals as goal

pub returns : goal.returns
returns g c =
    let t = c.args.self.now in
    let i = slot (numbers_of t.seats) c.args.job in
    let here = sym c.seat-seat.ensures.value in
    record {
      model =
          turn_view (g.S.Shelf.words t.shelf) t.seats c.turn.new.self t.held t.noted c.args.job Working c.requires.seated c.turn.ensures.numbers
          (rw here c.turn.ensures.states ∙ ap (set (states_of t.seats) i) (reopens (get_or (states_of t.seats) i Ended) c.requires.wounded))
          c.turn.ensures.opened;
    }

use Rattle.std.proofs.Common.{get_or, set, sym, ap, ◌∙◌}
use Rattle.ledger.specs.declared.job.Status.TheVariants.{Ended}
use Rattle.tables.specs.Seats.{slot}
use Rattle.tables.proofs.Slots.{wounds}
use Rattle.tables.specs.Views.{numbers_of, states_of}
use Rattle.tables.proofs.Views.{seated_lives}
use Rattle.tables.proofs.Wounds.{wound_view}
use Rattle.tables.proofs.kernel.Core.wound_job.Goals as goal

pub returns : goal.returns
returns g c =
    let done = c.wound.ensures in
    let here = sym c.seat-seat.ensures.value in
    let t = c.args.self.now.seats in
    let i = slot (numbers_of t) c.args.job in
    record {
      model =
          wound_view g.S.Shelf.words c.args.self.now c.wound.new.self c.args.job c.requires (rw here done.words) done.numbers
          (rw here done.states ∙ ap (set (states_of t) i) (wounds (get_or (states_of t) i Ended) (seated_lives t c.args.job c.requires)))
          done.opened (rw here done.held) (rw here done.noted);
      numbers = done.numbers;
    }

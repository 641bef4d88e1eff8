use Rattle.std.proofs.Common.{None, ap, ◌∙◌, refl, arith}
use Rattle.std.proofs.lemmas.List.{length-set, map-set}
use Rattle.tables.specs.Seats.{distinct, all_given, number_in, state_in}
use Rattle.tables.specs.Views.{numbers_of}
use Rattle.tables.proofs.Places.{distinct_free, given_set}
use Rattle.tables.proofs.Sitting.{each_set}
use Rattle.tables.proofs.seats.Seats.leave.Goals as goal

pub invariant_of-self : goal.invariant_of-self
invariant_of-self c =
    let t = c.args.self.now in
    let i = c.args.seat.slot in
    let is = map-set number_in t.slots i None in
    record {
      full = length-set t.slots i None ∙ t.full;
      apart = ap distinct is ∙ distinct_free (numbers_of t) i t.apart;
      known = ap (all_given t.opened) is ∙ given_set t.opened (numbers_of t) i 0 (omega arith) t.known;
      proper = each_set t.slots i None (omega (arith, t.full, c.args.seat.within)) refl t.proper;
    }

pub returns : goal.returns
returns c =
    let t = c.args.self.now in
    record {
      numbers = map-set number_in t.slots c.args.seat.slot None;
      states = map-set state_in t.slots c.args.seat.slot None;
      opened = refl;
    }

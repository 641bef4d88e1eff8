use Rattle.std.proofs.Common.{◌<◌, set, Option, Some, ap, ◌∙◌, arith}
use Rattle.std.proofs.lemmas.List.{length-set, map-set}
use Rattle.ledger.specs.declared.job.Status.TheVariants.{Working}
use Rattle.tables.specs.declared.slot.Slot.{Slot}
use Rattle.tables.specs.Seats.{distinct, all_given, number_in, state_in}
use Rattle.tables.specs.Views.{numbers_of}
use Rattle.tables.proofs.Places.{distinct_new, given_more, given_set}
use Rattle.tables.proofs.Sitting.{each_set, working_proper}
use Rattle.tables.proofs.seats.Seats.sit.Goals as goal

pub invariant_of-self : goal.invariant_of-self
invariant_of-self c =
    let t = c.args.self.now in
    let n = c.next_number-number.result in
    let i = c.args.seat.slot in
    let above : t.opened < n = omega (arith, c.next_number-number.ensures.value) in
    let o : Option Slot = Some (record { number = n; state = Working }) in
    let is = map-set number_in t.slots i o in
    record {
      full = length-set t.slots i o ∙ t.full;
      apart = ap distinct is ∙ distinct_new t.opened (numbers_of t) i n above t.known t.apart;
      known = ap (all_given n) is ∙ given_set n (numbers_of t) i n (omega arith) (given_more t.opened n (numbers_of t) (omega (arith, above)) t.known);
      proper = each_set t.slots i o (omega (arith, t.full, c.args.seat.within)) (working_proper n (omega (arith, above))) t.proper;
    }

pub returns : goal.returns
returns c =
    let t = c.args.self.now in
    let n = c.next_number-number.result in
    let i = c.args.seat.slot in
    let o : Option Slot = Some (record { number = n; state = Working }) in
    record {
      numbers = map-set number_in t.slots i o ∙ ap (set (numbers_of t) i) c.next_number-number.ensures.value;
      states = map-set state_in t.slots i o;
      opened = c.next_number-number.ensures.value;
    }

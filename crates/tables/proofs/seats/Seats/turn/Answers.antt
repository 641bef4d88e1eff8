use Rattle.std.proofs.Common.{None, set, get_or, sym, ap, ◌∙◌, refl, arith}
use Rattle.std.proofs.lemmas.List.{length-set, map-set}
use Rattle.std.proofs.Math.Seq.{map-set_same}
use Rattle.ledger.specs.declared.job.Status.{Status}
use Rattle.tables.specs.Seats.{distinct, all_given, number_in, proper, state_in}
use Rattle.tables.specs.Slots.{moved}
use Rattle.tables.specs.Views.{states_of}
use Rattle.tables.proofs.Sitting.{after_number, after_state, each_set, state_at}
use Rattle.tables.proofs.Slots.{stays_proper}
use Rattle.tables.proofs.seats.Seats.turn.Goals as goal

pub invariant_of-self : goal.invariant_of-self
invariant_of-self c =
    let t = c.args.self.now in
    let i = c.args.seat.slot in
    let o = get_or t.slots i None in
    let is = map-set_same number_in t.slots i c.after.result None (ap number_in c.after.ensures.value ∙ after_number o c.args.event) in
    record {
      full = length-set t.slots i _ ∙ t.full;
      apart = ap distinct is ∙ t.apart;
      known = ap (all_given t.opened) is ∙ t.known;
      proper = each_set t.slots i c.after.result (omega (arith, t.full, c.args.seat.within))
          (ap proper c.after.ensures.value ∙ stays_proper o c.args.event (t.proper i) c.requires) t.proper;
    }

pub returns : goal.returns
returns c =
    let t = c.args.self.now in
    let i = c.args.seat.slot in
    let o = get_or t.slots i None in
    record {
      numbers = map-set_same number_in t.slots i c.after.result None (ap number_in c.after.ensures.value ∙ after_number o c.args.event);
      states =
          map-set state_in t.slots i c.after.result
          ∙ ap (set (states_of t) i) (ap state_in c.after.ensures.value ∙ after_state o c.args.event c.requires ∙ ap (λ (st : Status). moved st c.args.event) (sym (state_at t i)));
      opened = refl;
    }

-- What the events of a slot leave of a state.
use Rattle.std.proofs.lemmas.Bool.Decides.{nat_tests}
use Rattle.std.proofs.Common.{◌≡◌, Bool, true, false, None, Option, Some, refl, arith}
use Rattle.operations.specs.declared.operation.Operation.{Operation}
use Rattle.ledger.specs.declared.job.Status.{Status}
use Rattle.ledger.specs.declared.job.Status.TheVariants.{Working, Waiting, Wounded}
use Rattle.ledger.specs.Jobs.{is_ended, is_open, is_wounded}
use Rattle.tables.specs.declared.slot.Event.{Event}
use Rattle.tables.specs.declared.slot.Slot.{Slot}
use Rattle.tables.specs.Seats.{after, proper}
use Rattle.tables.specs.declared.slot.Event.TheVariants.{Wound, Reopen}
use Rattle.tables.specs.Slots.{moved, near, walked}

-- Whoever meets an event goes on sitting, and waits only for what is near.
pub stays_proper : (o : Option Slot) (e : Event) → proper o ≡ true → near e ≡ true → proper (after e o) ≡ true
stays_proper None e p h = refl
stays_proper (Some s) e p h = grind (arith, nat_tests, p, h)

pub wounds : (st : Status) → is_ended st ≡ false → moved st Wound ≡ Wounded
wounds st h = grind (arith, nat_tests)

pub reopens : (st : Status) → is_wounded st ≡ true → moved st Reopen ≡ Working
reopens st h = grind (arith, nat_tests)

-- the state that a walk leaves an open job in
abbrev pub tried : Operation → Bool → Status
tried o b = elim b [ true ↦ Working | false ↦ Waiting o ]

pub settles : (o : Operation) (b : Bool) (st : Status) → is_open st ≡ true → moved st (walked o b) ≡ tried o b
settles o b st h = grind (arith, nat_tests)

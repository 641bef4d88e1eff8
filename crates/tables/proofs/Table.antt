-- Which calls the table lets through, and what is known then.
use Rattle.std.proofs.lemmas.Bool.Decides.{nat_tests}
use Rattle.std.proofs.Common.{◌≡◌, ℕ, ◌<◌, Bool, true, false, leb, Some, None, Option, ap, ◌∙◌, arith}
use Rattle.std.proofs.lemmas.List.{get_or_past}
use Rattle.ledger.specs.declared.call.Answer.TheVariants.{Refused}
use Rattle.ledger.specs.declared.call.Call.{Call}
use Rattle.ledger.specs.declared.call.Call.TheVariants.{Open}
use Rattle.ledger.specs.declared.job.Status.{Status}
use Rattle.ledger.specs.declared.job.Status.TheVariants.{Working, Ended}
use Rattle.ledger.specs.declared.refusal.Refusal.{Refusal}
use Rattle.ledger.specs.declared.refusal.Refusal.TheVariants.{TooManyJobs, NumbersUsedUp}
use Rattle.ledger.specs.Jobs.{Jobs, is_ended, is_open, is_wounded}
use Rattle.ledger.specs.Refusals.{refusal}
use Rattle.ledger.specs.Ledgers.{Layout, facts, unended}
use Rattle.ledger.specs.Models.{Model, Served, serve, grant, refused_or}
use Rattle.tables.specs.declared.seats.Seats.{Seats}
use Rattle.tables.specs.Rows.{unless_working, unless_wounded, if_ended}
use Rattle.tables.specs.Seats.{slot, status_of}
use Rattle.tables.specs.Views.{numbers_of, states_of}
use Rattle.tables.proofs.Sitting.{states_full}

-- Openings, by the two counts that the table looks at.
module _ (y : Layout) (js : Jobs) where
  rows_of_open : Bool → Bool → Option Refusal
  rows_of_open a b =
      elim a [ true ↦ Some TooManyJobs | false ↦ elim b [ true ↦ Some NumbersUsedUp | false ↦ None ] ]

  pub open_full : leb 16 (unended js) ≡ true → refusal (facts y js) Open ≡ Some TooManyJobs
  unfolding rows_of_open
  open_full e = grind (arith, nat_tests, e)

  pub open_spent : leb 16 (unended js) ≡ false → leb 1000000 js.opened ≡ true → refusal (facts y js) Open ≡ Some NumbersUsedUp
  unfolding rows_of_open
  open_spent e f = grind (arith, nat_tests, e, f)

  pub open_free : leb 16 (unended js) ≡ false → leb 1000000 js.opened ≡ false → refusal (facts y js) Open ≡ None
  unfolding rows_of_open
  open_free e f = grind (arith, nat_tests, e, f)

-- Whoever has not ended sits in a slot.
pub has_seat : (seats : Seats) (k : ℕ) → is_ended (status_of (numbers_of seats) (states_of seats) k) ≡ false → slot (numbers_of seats) k < 16
has_seat seats k e =
    grind (arith, nat_tests, get_or_past (states_of seats) (slot (numbers_of seats) k) Ended, states_full seats)

-- what a state is that no row refuses
pub works : (st : Status) → unless_working st ≡ None → (st ≡ Working) × (is_ended st ≡ false) × (is_open st ≡ true)
works st e = (grind (arith, nat_tests, e), grind (arith, nat_tests, e), grind (arith, nat_tests, e))

pub hurt : (st : Status) → unless_wounded st ≡ None → (is_ended st ≡ false) × (is_wounded st ≡ true)
hurt st e = (grind (arith, nat_tests, e), grind (arith, nat_tests, e))

pub lives : (st : Status) → if_ended st ≡ None → is_ended st ≡ false
lives st e = grind (arith, nat_tests, e)

-- a call by the row of the table
module _ (y : Layout) (c : Call) (m : Model) where
  pub denied : (r : Refusal) → refusal (facts y m.jobs) c ≡ Some r → serve y c m ≡ record { left = m; said = Refused r }
  denied r e = ap (λ (o : Option Refusal). refused_or o m (grant y c m)) e

  pub admitted : (x : Served) → refusal (facts y m.jobs) c ≡ None → grant y c m ≡ x → serve y c m ≡ x
  admitted x e f = ap (λ (o : Option Refusal). refused_or o m (grant y c m)) e ∙ f

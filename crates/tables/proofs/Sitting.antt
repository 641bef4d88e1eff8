-- What the seats say of each slot: of its number and of the state of the job in it.
use Rattle.std.proofs.lemmas.Bool.Decides.{nat_tests}
use Rattle.std.proofs.Common.{◌≡◌, ℕ, suc, min, ltb, ◌<◌, ◌≤◌, [], ◌∷◌, true, eqb, Option, Some, None, unwrap_or, List, length, get_or, set, sym, refl, ap, ap₂, cond, ◌∙◌, subst, lit<, arith}
use Rattle.std.proofs.Math.ListN.{get_or-map}
use Rattle.std.proofs.lemmas.List.{length-map, get_or-set_same, get_or-set_other}
use Rattle.std.specs.List.{filter, filter_map, position, position_or_len, reduce}
use Rattle.ledger.specs.declared.job.Status.{Status}
use Rattle.ledger.specs.declared.job.Status.TheVariants.{Working, Ended}
use Rattle.ledger.specs.Jobs.{is_ended}
use Rattle.ledger.specs.Ledgers.{wanted}
use Rattle.tables.specs.declared.slot.Slot.{Slot}
use Rattle.tables.specs.declared.seats.Seats.{Seats}
use Rattle.tables.specs.declared.slot.Event.{Event}
use Rattle.tables.specs.Slots.{moved, near}
use Rattle.tables.specs.Seats.{above, after, given, has, next_above, number_in, numbers_in, place, proper, seated, slot, state_in}
use Rattle.tables.specs.Views.{numbers_of, states_of}
use Rattle.tables.proofs.Places.{next_some}

-- a slot has the number 0 just where its state is ended, and is near where it waits
free_in : (o : Option Slot) → proper o ≡ true → eqb (number_in o) 0 ≡ is_ended (state_in o)
free_in None p = refl
free_in (Some s) p = grind (arith, nat_tests, p)

near_in : (o : Option Slot) → proper o ≡ true → (wanted (state_in o)).granule < 256
near_in None p = lit< tt
near_in (Some s) p = grind (arith, nat_tests, p)

module _ (s : Seats) where
  pub numbers_full : length (numbers_of s) ≡ 16
  numbers_full = length-map _ _ ∙ s.full

  pub states_full : length (states_of s) ≡ 16
  states_full = length-map _ _ ∙ s.full

  pub number_at : (i : ℕ) → get_or (numbers_of s) i 0 ≡ number_in (get_or s.slots i None)
  number_at i = get_or-map number_in s.slots i None

  pub state_at : (i : ℕ) → get_or (states_of s) i Ended ≡ state_in (get_or s.slots i None)
  state_at i = get_or-map state_in s.slots i None

  pub free_at : (i : ℕ) → eqb (get_or (numbers_of s) i 0) 0 ≡ is_ended (get_or (states_of s) i Ended)
  free_at i = grind (arith, number_at i, free_in (get_or s.slots i None) (s.proper i), state_at i)

  pub near_at : (i : ℕ) → (wanted (get_or (states_of s) i Ended)).granule < 256
  near_at i = subst (λ (x : Status). (wanted x).granule < 256) (sym (state_at i)) (near_in (get_or s.slots i None) (s.proper i))

-- what holds of each slot holds when one is written of which it holds
pub each_set :
    (slots : List (Option Slot)) (k : ℕ) (o : Option Slot) → k < length slots → proper o ≡ true → ((i : ℕ) → proper (get_or slots i None) ≡ true)
    → (i : ℕ) → proper (get_or (set slots k o) i None) ≡ true
each_set slots k o l p h i = grind (arith, nat_tests, get_or-set_same slots k o None l, get_or-set_other slots k i o None, p, h i)

-- who sits down and works is as it should be
pub working_proper : (n : ℕ) → 0 < n → proper (Some (record { number = n; state = Working })) ≡ true
working_proper n l = grind (arith, nat_tests)

-- the state of a job that something has happened to; a free slot is still free
pub after_state : (o : Option Slot) (e : Event) → near e ≡ true → state_in (after e o) ≡ moved (state_in o) e
after_state o e h = grind (arith, nat_tests, h)

pub after_number : (o : Option Slot) (e : Event) → number_in (after e o) ≡ number_in o
after_number o e = grind (arith, nat_tests)

-- the first free slot, and the slot of a job, are those that the numbers tell
first_free : (slots : List (Option Slot)) → ((i : ℕ) → proper (get_or slots i None) ≡ true) → position_or_len (has None) slots ≡ place (numbers_in slots) 0
first_free [] h = refl
first_free (None ∷ os) h = refl
first_free (Some s ∷ os) h = grind (arith, nat_tests, h 0, first_free os (λ i. h (suc i)))

first_with : (slots : List (Option Slot)) (k : ℕ) → (k ≡ 0 → ⊥) → position_or_len (has (Some k)) slots ≡ place (numbers_in slots) k
first_with [] k d = refl
first_with (None ∷ os) k d = grind (arith, nat_tests, first_with os k d)
first_with (Some s ∷ os) k d = grind (arith, nat_tests, first_with os k d)

-- the numbers above n are those of the jobs above n, and none of them is 0
above_n : (n : ℕ) (slots : List (Option Slot)) → filter_map (above n) slots ≡ filter (ltb n) (numbers_in slots)
above_n n [] = refl
above_n n (None ∷ os) = grind (arith, nat_tests, above_n n os)
above_n n (Some s ∷ os) = grind (arith, nat_tests, above_n n os)

given_again : (n : ℕ) (numbers : List ℕ) (o : Option ℕ) → reduce min (filter (ltb n) numbers) ≡ o → o ≡ given (unwrap_or o 0)
given_again n numbers o e = grind (arith, nat_tests, next_some n numbers)

pub least_above : (n : ℕ) (slots : List (Option Slot)) → reduce min (filter_map (above n) slots) ≡ given (next_above n (numbers_in slots))
least_above n slots =
    ap (reduce min) (above_n n slots) ∙ given_again n (numbers_in slots) (reduce min (filter (ltb n) (numbers_in slots))) refl

no_zero : (slots : List (Option Slot)) → ((i : ℕ) → proper (get_or slots i None) ≡ true) → position_or_len (has (Some 0)) slots ≡ length slots
no_zero [] h = refl
no_zero (None ∷ os) h = grind (arith, nat_tests, no_zero os (λ i. h (suc i)))
no_zero (Some s ∷ os) h = grind (arith, nat_tests, h 0, no_zero os (λ i. h (suc i)))

module _ (s : Seats) where
  pub free_place : position (has None) s.slots ≡ seated (place (numbers_of s) 0)
  free_place =
      ap₂ (λ (i n : ℕ). cond (ltb i n) (Some i) None) (first_free s.slots s.proper) s.full

  pub place_of : (k : ℕ) → position (has (Some k)) s.slots ≡ seated (slot (numbers_of s) k)
  place_of k = grind (arith, nat_tests, first_with s.slots k, no_zero s.slots s.proper, s.full, numbers_full s)

-- what a slot that is found says of the place, and what one that is not
pub seated_at : (i k : ℕ) → Some k ≡ seated i → (i < 16) × (i ≡ k)
seated_at i k h = (grind (arith, nat_tests), grind (arith, nat_tests))

pub seated_none : (i : ℕ) → None ≡ seated i → 16 ≤ i
seated_none i h = grind (arith, nat_tests)

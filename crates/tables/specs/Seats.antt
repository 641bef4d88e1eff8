-- Which job sits in which of the 16 slots, and in what state.
use Rattle.std.specs.Prelude.{ℕ, suc, Bool, true, false, cond, not, ◌&&◌, ◌||◌, List, [], ◌∷◌, length, map, min, Some, None, Option, unwrap_or, ◌==◌, nat_le, nat_lt, slice_index_or}
use Rattle.std.specs.List.{filter, reduce}
use Rattle.granules.specs.Paths.{among}
use Rattle.ledger.specs.declared.job.Status.{Status}
use Rattle.ledger.specs.declared.job.Status.TheVariants.{Ended}
use Rattle.ledger.specs.Jobs.{is_ended}
use Rattle.ledger.specs.Ledgers.{wanted}
use Rattle.tables.specs.declared.slot.Event.{Event}
use Rattle.tables.specs.declared.slot.Slot.{Slot}
use Rattle.tables.specs.Slots.{moved}

-- The number of the job in a slot, 0 if there is none.
abbrev pub number_in : Option Slot → ℕ
number_in None = 0
number_in (Some s) = s.number

-- The state of the job in a slot, ended if there is none.
abbrev pub state_in : Option Slot → Status
state_in None = Ended
state_in (Some s) = s.state

-- The numbers in all slots, in their order.
abbrev pub numbers_in : List (Option Slot) → List ℕ
numbers_in slots = map number_in slots

-- The states in all slots, in their order.
abbrev pub states_in : List (Option Slot) → List Status
states_in slots = map state_in slots

-- Whether the job in a slot has this number; or for none, whether the slot is free.
abbrev pub has : Option ℕ → Option Slot → Bool
has None None = true
has None (Some s) = false
has (Some k) None = false
has (Some k) (Some s) = s.number == k

-- The number of the job in a slot, if it is above n.
abbrev pub above : ℕ → Option Slot → Option ℕ
above n None = None
above n (Some s) = cond (nat_lt n s.number) (Some s.number) None

-- The job in a slot after something has happened to it.
abbrev pub after : Event → Option Slot → Option Slot
after e None = None
after e (Some s) = Some (record { number = s.number; state = moved s.state e })

-- No job has the number 0, none that sits has ended, and what one waits for is an operation on one of the 256 granules.
abbrev pub proper : Option Slot → Bool
proper None = true
proper (Some s) = not (s.number == 0) && (not (is_ended s.state) && nat_lt (wanted s.state).granule 256)

-- The first place of a list that has k; past the end if there is none.
abbrev pub place : List ℕ → ℕ → ℕ
place [] k = 0
place (x ∷ xs) k = elim (x == k) [ true ↦ 0 | false ↦ suc (place xs k) ]

-- The slot of a job. Number 0 is no job: a slot that has it is free.
abbrev pub slot : List ℕ → ℕ → ℕ
slot numbers k = elim (k == 0) [ true ↦ length numbers | false ↦ place numbers k ]

-- One of the 16 slots by its place, none past the last.
abbrev pub seated : ℕ → Option ℕ
seated i = cond (nat_lt i 16) (Some i) None

-- The state of a job; one that sits nowhere has ended.
abbrev pub status_of : List ℕ → List Status → ℕ → Status
status_of numbers states k = slice_index_or states (slot numbers k) Ended

-- No number sits in two slots.
abbrev pub distinct : List ℕ → Bool
distinct [] = true
distinct (x ∷ xs) = (x == 0 || not (among x xs)) && distinct xs

-- No number is larger than the last that was given.
abbrev pub all_given : ℕ → List ℕ → Bool
all_given opened [] = true
all_given opened (x ∷ xs) = nat_le x opened && all_given opened xs

-- The smallest number above n; 0 if there is none.
abbrev pub next_above : ℕ → List ℕ → ℕ
next_above n numbers = unwrap_or (reduce min (filter (nat_lt n) numbers)) 0

-- A number, if it is a job's.
abbrev pub given : ℕ → Option ℕ
given k = elim (k == 0) [ true ↦ None | false ↦ Some k ]

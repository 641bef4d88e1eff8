-- Which calls are refused, and why: a table whose rows are tried from the top.
use Rattle.std.specs.Prelude.{ℕ, Bool, true, false, not, ◌&&◌, List, [], ◌∷◌, length, Some, None, Option, ◌==◌, nat_le, nat_lt}
use Rattle.granules.specs.declared.unfit.Unfit.{Unfit}
use Rattle.granules.specs.declared.unfit.Unfit.TheVariants.{Lengths, Parent, Path}
use Rattle.granules.specs.Paths.{among}
use Rattle.granules.specs.Tables as tables
use Rattle.ledger.specs.declared.call.Call.{Call}
use Rattle.ledger.specs.declared.call.Call.TheVariants.{Lay, Open, Carry, Go, Again, Commit, GiveUp, Look}
use Rattle.ledger.specs.declared.refusal.Refusal.{Refusal}
use Rattle.ledger.specs.declared.refusal.Refusal.TheVariants.{NotLaidOut, TooManyJobs, NumbersUsedUp, NoSuchJob, JobWounded, JobWaiting, NoSuchGranule, JobNotWaiting, JobNotWounded, AlreadyLaidOut, Table, ShelfTooShort}
use Rattle.ledger.specs.Jobs.{Status, is_waiting, is_wounded, is_ended}

-- The number of each refusal.
abbrev pub number : Refusal → ℕ
number NotLaidOut = 1
number TooManyJobs = 2
number NumbersUsedUp = 3
number NoSuchJob = 4
number JobWounded = 5
number JobWaiting = 6
number NoSuchGranule = 7
number JobNotWaiting = 8
number JobNotWounded = 9
number AlreadyLaidOut = 14
number (Table u) = tables.number u
number ShelfTooShort = 13

-- The rows, from the top.
abbrev pub rows : List Refusal
rows =
    NotLaidOut
    ∷ TooManyJobs
    ∷ NumbersUsedUp
    ∷ NoSuchJob
    ∷ JobWounded
    ∷ JobWaiting
    ∷ NoSuchGranule
    ∷ JobNotWaiting
    ∷ JobNotWounded
    ∷ AlreadyLaidOut
    ∷ Table Lengths
    ∷ Table Parent
    ∷ Table Path
    ∷ ShelfTooShort
    ∷ []

-- The rows that a call can meet, by their numbers.
abbrev pub can_meet : Call → List ℕ
can_meet (Lay parents words) = 14 ∷ 10 ∷ 11 ∷ 12 ∷ 13 ∷ []
can_meet Open = 1 ∷ 2 ∷ 3 ∷ []
can_meet (Carry j o) = 1 ∷ 4 ∷ 5 ∷ 6 ∷ 7 ∷ []
can_meet (Go j) = 1 ∷ 4 ∷ 5 ∷ 8 ∷ []
can_meet (Again j) = 1 ∷ 4 ∷ 9 ∷ []
can_meet (Commit j) = 1 ∷ 4 ∷ 5 ∷ 6 ∷ []
can_meet (GiveUp j) = 1 ∷ 4 ∷ []
can_meet (Look g) = 1 ∷ 7 ∷ []

-- The job that a call is for; 0, which is no job, if there is none.
abbrev pub job_of : Call → ℕ
job_of (Lay parents words) = 0
job_of Open = 0
job_of (Carry j o) = j
job_of (Go j) = j
job_of (Again j) = j
job_of (Commit j) = j
job_of (GiveUp j) = j
job_of (Look g) = 0

-- The granule that a call names.
abbrev pub granule_of : Call → ℕ
granule_of (Lay parents words) = 0
granule_of Open = 0
granule_of (Carry j o) = o.granule
granule_of (Go j) = 0
granule_of (Again j) = 0
granule_of (Commit j) = 0
granule_of (GiveUp j) = 0
granule_of (Look g) = g

-- What is wrong with the arguments of a laying.
abbrev pub fault_of : Call → Option Unfit
fault_of (Lay parents words) = tables.fault parents.now (length words.now)
fault_of Open = None
fault_of (Carry j o) = None
fault_of (Go j) = None
fault_of (Again j) = None
fault_of (Commit j) = None
fault_of (GiveUp j) = None
fault_of (Look g) = None

-- How many granules a laying wants.
abbrev pub wanted_of : Call → ℕ
wanted_of (Lay parents words) = length parents.now
wanted_of Open = 0
wanted_of (Carry j o) = 0
wanted_of (Go j) = 0
wanted_of (Again j) = 0
wanted_of (Commit j) = 0
wanted_of (GiveUp j) = 0
wanted_of (Look g) = 0

-- What the table looks at.
pub record Facts : Type 0 where
  pub laid : Bool
  -- jobs not ended, jobs ever opened
  pub unended : ℕ
  pub opened : ℕ
  pub status : ℕ → Status
  pub granules : ℕ
  -- places of the shelf
  pub places : ℕ

-- Whether a table's fault is the one that a row is about.
abbrev same_fault : Option Unfit → Unfit → Bool
same_fault None u = false
same_fault (Some v) u = tables.number v == tables.number u

-- When a row fits.
abbrev pub fits : Facts → Call → Refusal → Bool
fits f c NotLaidOut = not f.laid
fits f c TooManyJobs = nat_le 16 f.unended
fits f c NumbersUsedUp = nat_le 1000000 f.opened
fits f c NoSuchJob = is_ended (f.status (job_of c))
fits f c JobWounded = is_wounded (f.status (job_of c))
fits f c JobWaiting = is_waiting (f.status (job_of c))
fits f c NoSuchGranule = nat_le f.granules (granule_of c)
fits f c JobNotWaiting = not (is_waiting (f.status (job_of c)))
fits f c JobNotWounded = not (is_wounded (f.status (job_of c)))
fits f c AlreadyLaidOut = f.laid
fits f c (Table u) = same_fault (fault_of c) u
fits f c ShelfTooShort = nat_lt f.places (wanted_of c)

-- The uppermost row that a call can meet and that fits.
abbrev pub first_of : (Refusal → Bool) → List Refusal → Option Refusal
first_of p [] = None
first_of p (r ∷ rs) = elim (p r) [ true ↦ Some r | false ↦ first_of p rs ]

-- What the table answers to a call: the uppermost row that it can meet and that fits, if one does.
abbrev pub refusal : Facts → Call → Option Refusal
refusal f c = first_of (λ r. among (number r) (can_meet c) && fits f c r) rows

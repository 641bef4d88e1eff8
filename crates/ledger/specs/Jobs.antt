-- What is held of a job: its state (see src/job.rt) and its modes.
use Rattle.std.specs.Prelude.{ℕ, suc, Bool, true, false, ◌==◌}
pub use Rattle.ledger.specs.declared.job.Status.{Status}
pub use Rattle.ledger.specs.declared.job.Status.TheVariants.{Working as working, Waiting as waiting, Wounded as wounded, Ended as ended}

-- Whether a job waits for a lock.
abbrev pub is_waiting : Status → Bool
is_waiting working = false
is_waiting (waiting o) = true
is_waiting wounded = false
is_waiting ended = false

-- Whether a job was wounded and has not been reopened.
abbrev pub is_wounded : Status → Bool
is_wounded working = false
is_wounded (waiting o) = false
is_wounded wounded = true
is_wounded ended = false

-- Whether a job has ended, or was never opened.
abbrev pub is_ended : Status → Bool
is_ended working = false
is_ended (waiting o) = false
is_ended wounded = false
is_ended ended = true

-- A job is open if it is working or waiting: then it has work that nobody has taken back, and may hold locks.
abbrev pub is_open : Status → Bool
is_open working = true
is_open (waiting o) = true
is_open wounded = false
is_open ended = false

-- All jobs, by their numbers. A job's number is its age: the smaller is the older.
pub record Jobs : Type 0 where
  -- the numbers given so far are 1 to this one
  pub opened : ℕ
  pub status : ℕ → Status
  -- the mode that a job holds on a granule
  pub mode : ℕ → ℕ → ℕ

-- f changed at j
abbrev pub put : {A : Type 0} → ℕ → A → (ℕ → A) → ℕ → A
put j a f k = elim (k == j) [ true ↦ a | false ↦ f k ]

-- f changed where the test passes
abbrev pub where_so : {A : Type 0} → (ℕ → Bool) → A → (ℕ → A) → ℕ → A
where_so p a f k = elim (p k) [ true ↦ a | false ↦ f k ]

-- No job was ever opened.
abbrev pub none : Jobs
none = record { opened = 0; status = λ _. ended; mode = λ _ _. 0 }

-- A job's state set.
abbrev pub now_is : ℕ → Status → Jobs → Jobs
now_is j st js = record { opened = js.opened; status = put j st js.status; mode = js.mode }

-- A job's mode on one granule raised.
abbrev pub raise : ℕ → ℕ → ℕ → Jobs → Jobs
raise j g m js = record { opened = js.opened; status = js.status; mode = put j (put g m (js.mode j)) js.mode }

-- The next number given, to a working job.
abbrev pub open_one : Jobs → Jobs
open_one js = record { opened = suc js.opened; status = put (suc js.opened) working js.status; mode = js.mode }

-- A job ended, with no locks.
abbrev pub end_one : ℕ → Jobs → Jobs
end_one j js = record { opened = js.opened; status = put j ended js.status; mode = put j (λ _. 0) js.mode }

-- Those of which the test passes wounded, with no locks.
abbrev pub wound_jobs : (ℕ → Bool) → Jobs → Jobs
wound_jobs p js = record { opened = js.opened; status = where_so p wounded js.status; mode = where_so p (λ _. 0) js.mode }

-- A model of the engine: what it has to keep, and what each call does to that. It has no lists of operations, and of
-- ended jobs it has nothing.
use Rattle.std.specs.Prelude.{ℕ, zero, suc, ◌+◌, ◌-◌, ◌%◌, Bool, true, false, List, [], ◌∷◌, Some, None, Option, slice_index}
use Rattle.granules.specs.Paths.{record_beneath}
use Rattle.operations.specs.declared.operation.Action.{Action}
use Rattle.operations.specs.declared.operation.Action.TheVariants.{Read, Mean, Set, Add}
use Rattle.operations.specs.declared.operation.Operation.{Operation}
use Rattle.operations.specs.declared.operation.Outcome.TheVariants.{Done}
use Rattle.operations.specs.Words.{answer, after, each_from}
use Rattle.ledger.specs.declared.call.Answer.{Answer}
use Rattle.ledger.specs.declared.call.Answer.TheVariants.{Job, Told, Waits, Head, Refused}
use Rattle.ledger.specs.declared.call.Call.{Call}
use Rattle.ledger.specs.declared.call.Call.TheVariants.{Lay, Open, Carry, Go, Again, Commit, GiveUp, Look}
use Rattle.ledger.specs.declared.refusal.Refusal.{Refusal}
use Rattle.ledger.specs.Refusals.{refusal}
use Rattle.ledger.specs.Jobs.{Jobs, working, put, where_so, none, now_is, open_one, end_one, wound_jobs}
use Rattle.ledger.specs.Walks.{Hands}
use Rattle.ledger.specs.Ledgers.{Layout, Event, facts, wanted, attempt}
use Rattle.ledger.specs.Promises.{group, holders}
pub use Rattle.ledger.specs.declared.job.Note.{Note}
pub use Rattle.ledger.specs.declared.job.Note.TheVariants.{Nothing as nothing, Added as added, PutBack as put_back}

-- A job's note on a record is nothing if it has only read there; the sum of what it added if it only added; once it has
-- set the record, the word to put back.

-- The word of a record taken back by a note. Sums wrap, so what was added is subtracted, wrapping.
abbrev pub back : Note → ℕ → ℕ
back nothing word = word
back (added n) word = (word + 4294967296 - n) % 4294967296
back (put_back w) word = w

-- A note after an action of its job on a record that holds a word.
abbrev pub noted_add : Note → ℕ → Note
noted_add nothing n = added (n % 4294967296)
noted_add (added m) n = added ((m + n) % 4294967296)
noted_add (put_back w) n = put_back w

-- The note after any action: a read changes none; a set notes the word that its job found; an addition adds up.
abbrev pub noted : Action → ℕ → Note → Note
noted Read word note = note
noted Mean word note = note
noted (Set w) word note = put_back (back note word)
noted (Add n) word note = noted_add note n

-- The words with the work of one job taken back, by its notes.
abbrev pub taken_back : (ℕ → Note) → List ℕ → List ℕ
taken_back notes words = each_from 0 (λ r w. back (notes r) w) words

-- The same for each job below n that the test picks, the oldest first.
abbrev pub all_taken_back : (ℕ → Bool) → (ℕ → ℕ → Note) → ℕ → List ℕ → List ℕ
all_taken_back p notes zero words = words
all_taken_back p notes (suc n) words =
    let before = all_taken_back p notes n words in
    elim (p n) [ true ↦ taken_back (notes n) before | false ↦ before ]

-- The jobs, the words of the shelf, and the notes of each job on each record.
pub record Model : Type 0 where
  pub jobs : Jobs
  pub words : List ℕ
  pub notes : ℕ → ℕ → Note

-- The model over first words, before any call.
abbrev pub fresh : List ℕ → Model
fresh words = record { jobs = none; words = words; notes = λ _ _. nothing }

-- The model in the hands of a walk: a wounded job's work is taken back.
abbrev pub model_hands : Hands Model
model_hands =
    record {
      jobs = λ m. m.jobs;
      with_jobs = λ js m. record { jobs = js; words = m.words; notes = m.notes };
      wound =
          λ p m.
          record {
            jobs = wound_jobs p m.jobs;
            words = all_taken_back p m.notes (suc m.jobs.opened) m.words;
            notes = where_so p (λ _. nothing) m.notes;
          };
    }

-- The word at a place.
abbrev pub word_at : List ℕ → ℕ → ℕ
word_at words r = slice_index words r

-- An operation of job j carried out.
abbrev pub carried : Layout → ℕ → Operation → Model → Model
carried y j o m =
    record {
      jobs = m.jobs;
      words = after y.parents o m.words;
      notes =
          put j
          (λ r. elim (record_beneath y.parents o.granule r) [ true ↦ noted o.action (word_at m.words r) (m.notes j r) | false ↦ m.notes j r ])
          m.notes;
    }

-- What a call leaves and answers.
pub record Served : Type 0 where
  pub left : Model
  pub said : Answer

-- An operation that a job asks for: carried out if it gets all of its locks, else it waits.
abbrev pub try : Layout → ℕ → Operation → Model → Served
try y j o m =
    let w = attempt model_hands y j o m in
    elim w.complete [
      | true ↦ record { left = carried y j o w.left; said = Told (answer y.parents o w.left.words) }
      | false ↦ record { left = w.left; said = Waits }
    ]

-- A call that is not refused: what it leaves, and what it answers.
abbrev pub grant : Layout → Call → Model → Served
grant y (Lay parents words) m = record { left = m; said = Told Done }
grant y Open m =
    record {
      left = record { jobs = open_one m.jobs; words = m.words; notes = m.notes };
      said = Job (suc m.jobs.opened);
    }
grant y (Carry j o) m = try y j o m
grant y (Go j) m = try y j (wanted (m.jobs.status j)) m
grant y (Again j) m = record { left = record { jobs = now_is j working m.jobs; words = m.words; notes = m.notes }; said = Told Done }
grant y (Commit j) m =
    record {
      left = record { jobs = end_one j m.jobs; words = m.words; notes = put j (λ _. nothing) m.notes };
      said = Told Done;
    }
grant y (GiveUp j) m =
    record {
      left =
          record {
            jobs = end_one j m.jobs;
            words = taken_back (m.notes j) m.words;
            notes = put j (λ _. nothing) m.notes;
          };
      said = Told Done;
    }
grant y (Look g) m = record { left = m; said = Head (group y.system m.jobs g (suc m.jobs.opened)) (holders m.jobs g) }

-- A refusal leaves the model as it is; without one the call is served.
abbrev pub refused_or : Option Refusal → Model → Served → Served
refused_or (Some r) m s = record { left = m; said = Refused r }
refused_or None m s = s

-- One call. A call that the table refuses leaves everything as it is.
abbrev pub serve : Layout → Call → Model → Served
serve y c m = refused_or (refusal (facts y m.jobs) c) m (grant y c m)

-- Calls one after the other: the history that they make, and the model at the end.
abbrev pub history : Layout → List Call → Model → List Event
history y [] m = []
history y (c ∷ cs) m = let s = serve y c m in (c, s.said) ∷ history y cs s.left

-- The model after calls, one after the other.
abbrev pub served : Layout → List Call → Model → Model
served y [] m = m
served y (c ∷ cs) m = served y cs (serve y c m).left

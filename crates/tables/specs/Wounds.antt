-- One job wounded in a model.
use Rattle.std.specs.Prelude.{ℕ, Bool, true, false, ◌==◌}
use Rattle.ledger.specs.declared.job.Note.TheVariants.{Nothing}
use Rattle.ledger.specs.Jobs.{where_so, wound_jobs}
use Rattle.ledger.specs.Models.{Model, taken_back}

-- job k wounded, with its work taken back
abbrev pub wounded_one : ℕ → Model → Model
wounded_one k m =
    record {
      jobs = wound_jobs (λ j. j == k) m.jobs;
      words = taken_back (m.notes k) m.words;
      notes = where_so (λ j. j == k) (λ _. Nothing) m.notes;
    }

-- the same if it must be
abbrev pub wounded_if : Bool → ℕ → Model → Model
wounded_if true k m = wounded_one k m
wounded_if false k m = m

-- What an engine is to its callers, and what a call does to it.
use Rattle.std.specs.Prelude.{◌≡◌, ℕ, false, List, [], ◌∷◌, ◌++◌, length, Some, None, Option}
use Rattle.modes.specs.Systems.{System}
use Rattle.shelf.specs.Words.{Fit}
use Rattle.granules.specs.declared.tree.Tree.{Tree}
use Rattle.granules.specs.Tables.{fault}
use Rattle.granules.specs.Trees.{table}
use Rattle.operations.specs.declared.operation.Outcome.TheVariants.{Done}
use Rattle.ledger.specs.declared.call.Answer.{Answer}
use Rattle.ledger.specs.declared.call.Answer.TheVariants.{Told, Refused}
use Rattle.ledger.specs.declared.call.Call.{Call}
use Rattle.ledger.specs.declared.call.Call.TheVariants.{Lay, Open, Carry, Go, Again, Commit, GiveUp, Look}
use Rattle.ledger.specs.declared.job.Status.TheVariants.{Ended}
use Rattle.ledger.specs.declared.refusal.Refusal.{Refusal}
use Rattle.ledger.specs.Refusals.{Facts, refusal}
use Rattle.ledger.specs.Ledgers.{Layout, Event}
use Rattle.ledger.specs.Promises.{Promise}
use Rattle.ledger.specs.Models.{Model, fresh, serve, history, served}
use Rattle.tables.specs.declared.kernel.Core.{Core}
use Rattle.engine.specs.declared.engine.Engine.{Engine}
use Rattle.shelf.specs.Words.{over}
use Rattle.tables.specs.Views.{model, words_on}

-- An engine that is not laid out has only the words of its shelf; one that is has a parents table and a model.
pub data State : Type 0 where
  bare : List ℕ → State
  laid : List ℕ → Model → State

-- What an engine is, by its tree, which it has once it is laid out, and its tables.
abbrev pub state_by : {S : Type 0} → (S → List ℕ) → Option Tree → Core S → State
state_by words None c = bare (words_on words c)
state_by words (Some t) c = laid (table t) (model words c)

-- What an engine is, read off its fields.
abbrev pub state : {M S : Type 0} → (S → List ℕ) → Engine M S → State
state words e = state_by words e.tree e.core

-- The words on its shelf.
abbrev pub words_of : State → List ℕ
words_of (bare ws) = ws
words_of (laid ps m) = m.words

-- What a call leaves and answers.
pub record Stepped : Type 0 where
  pub left : State
  pub said : Answer

-- What the table of refusals looks at before the laying.
abbrev pub nothing_yet : List ℕ → Facts
nothing_yet words =
    record { laid = false; unended = 0; opened = 0; status = λ _. Ended; granules = 0; places = length words }

-- A laying, and nothing else, leaves an engine laid out: with no job, and the first words on its shelf.
abbrev pub laid_by : Call → List ℕ → State
laid_by (Lay parents words) ws = laid parents.now (fresh (over words.now ws))
laid_by Open ws = bare ws
laid_by (Carry j o) ws = bare ws
laid_by (Go j) ws = bare ws
laid_by (Again j) ws = bare ws
laid_by (Commit j) ws = bare ws
laid_by (GiveUp j) ws = bare ws
laid_by (Look g) ws = bare ws

-- A call before the laying: refused by this row of the table, or the laying itself.
abbrev pub first_call : Option Refusal → Call → List ℕ → Stepped
first_call (Some r) c ws = record { left = bare ws; said = Refused r }
first_call None c ws = record { left = laid_by c ws; said = Told Done }

-- One call. Before the laying every other call is refused; after it the model says what becomes of it.
abbrev pub step : System → Call → State → Stepped
step s c (bare ws) = first_call (refusal (nothing_yet ws) c) c ws
step s c (laid ps m) =
    let r = serve (record { system = s; parents = ps }) c m in
    record { left = laid ps r.left; said = r.said }

-- A model keeps a history, since the laying with these first words, if it is what some calls leave, and the history is theirs.
pub record HasHistory (y : Layout) (first : List ℕ) (h : List Event) (m : Model) : Type 0 where
  pub calls : List Call
  pub admitted : fault y.parents (length y.parents) ≡ None
  pub fits : Fit first
  pub told : h ≡ history y calls (fresh first)
  pub left : m ≡ served y calls (fresh first)

-- There is no history before the laying.
abbrev pub Keeps : System → State → List ℕ → List Event → Type 0
Keeps s (bare ws) first h = ⊥
Keeps s (laid ps m) first h = HasHistory (record { system = s; parents = ps }) first h m

-- The promise, of an engine that is laid out.
abbrev pub Promised : System → State → List ℕ → List Event → Type 0
Promised s (bare ws) first h = ⊥
Promised s (laid ps m) first h = Promise (record { system = s; parents = ps }) first h m.words

-- A laying that is done begins a history: the empty one is kept, with the first words that it put.
abbrev pub Begun : System → List ℕ → State → State → Answer → Type 0
Begun s first before after a = a ≡ Told Done → Keeps s after (over first (words_of before)) []

-- What every call ensures: it leaves and answers what its definition says; whatever history the engine kept before, it keeps
-- with this call and its answer added; and the promise holds of it.
pub record Served (s : System) (c : Call) (before after : State) (a : Answer) : Type 0 where
  pub step : step s c before ≡ record { left = after; said = a }
  pub kept : (first : List ℕ) (h : List Event) → Keeps s before first h → Keeps s after first (h ++ (c, a) ∷ [])
  pub promised : (first : List ℕ) (h : List Event) → Keeps s before first h → Promised s after first (h ++ (c, a) ∷ [])

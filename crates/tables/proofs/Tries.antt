-- What an attempt comes to.
use Rattle.std.proofs.lemmas.Bool.Decides.{nat_tests}
use Rattle.std.proofs.Common.{◌≡◌, ℕ, ◌<◌, Bool, true, false, List, [], ◌∷◌, get_or, set, sym, refl, ap, ◌∙◌, ap₂, arith}
use Rattle.modes.specs.Systems.{System}
use Rattle.modes.specs.declared.kind.Kind.{Kind}
use Rattle.granules.specs.Paths.{path}
use Rattle.operations.specs.declared.operation.Operation.{Operation}
use Rattle.operations.specs.Actions.{kind}
use Rattle.operations.specs.Words.{answer}
use Rattle.ledger.specs.declared.job.Note.{Note}
use Rattle.ledger.specs.declared.job.Note.TheVariants.{Nothing}
use Rattle.ledger.specs.declared.job.Status.{Status}
use Rattle.ledger.specs.declared.job.Status.TheVariants.{Ended}
use Rattle.ledger.specs.Jobs.{is_open, now_is}
use Rattle.ledger.specs.Walks.{Walked, target, yields}
use Rattle.ledger.specs.Ledgers.{Layout, attempt}
use Rattle.ledger.specs.declared.call.Answer.TheVariants.{Told, Waits}
use Rattle.ledger.specs.Models.{Model, Served, model_hands, carried, try}
use Rattle.ledger.proofs.Kept.{judged_self}
use Rattle.tables.specs.declared.kernel.walks.Walker.{Walker}
use Rattle.tables.specs.declared.held.Held.{Held}
use Rattle.tables.specs.declared.grid.Grid.{Grid}
use Rattle.tables.specs.declared.seats.Seats.{Seats}
use Rattle.tables.specs.Grids.{cell}
use Rattle.tables.specs.Seats.{slot}
use Rattle.tables.specs.Slots.{moved, walked}
use Rattle.tables.specs.Steps.{walk_on}
use Rattle.tables.specs.Views.{whole, jobs_of, numbers_of, states_of}
use Rattle.tables.proofs.Slots.{tried, settles}
use Rattle.tables.proofs.Views.{view_set}
use Rattle.tables.proofs.Wounds.{model_eq}
use Rattle.tables.proofs.Sitting.{numbers_full, states_full}

module _ (s : System) (w : Walker) where
  abbrev own : Model → ℕ → ℕ
  own m x = m.jobs.mode w.job x

  abbrev wants : Model → ℕ → ℕ
  wants m x = target s w.kind w.goal x (own m x)

  abbrev state : Walked Model → Status
  state r = r.left.jobs.status w.job

  -- A walk leaves the state of the job that walks.
  walk_own : (xs : List ℕ) (m : Model) → state (walk_on s w xs m) ≡ m.jobs.status w.job
  walk_own [] m = refl
  walk_own (x ∷ xs) m =
      let spared = judged_self s w.job (wants m x) w.job (own m x) refl in
      let rest : (n : Model) → state (walk_on s w xs n) ≡ n.jobs.status w.job = walk_own xs in
      grind (arith, nat_tests, spared, rest m, rest (model_hands.wound (yields s m.jobs w.job x (wants m x)) m))

-- A state written in a slot is the state of its job.
pub turn_view :
    (ws : List ℕ) (seats seats' : Seats) (held : Held) (noted : (Grid Note)) (k : ℕ) (st : Status) → slot (numbers_of seats) k < 16
    → (numbers_of seats') ≡ (numbers_of seats) → (states_of seats') ≡ set (states_of seats) (slot (numbers_of seats) k) st → seats'.opened ≡ seats.opened
    → whole ws seats' held noted ≡ model_hands.with_jobs (now_is k st (jobs_of seats held)) (whole ws seats held noted)
turn_view ws seats seats' held noted k st l n s o =
    let numbers = (numbers_of seats) in
    let full = (numbers_full seats) in
    model_eq (whole ws seats' held noted) (model_hands.with_jobs (now_is k st (jobs_of seats held)) (whole ws seats held noted)) o
    (λ j.
    rw (n, s) (view_set (states_of seats) Ended numbers k st ((states_full seats) ∙ sym full) (omega (arith, full)) j))
    (λ j x. ap (λ (ns : List ℕ). cell 0 held.modes.rows (slot ns j) x) n)
    refl
    (λ j r. ap (λ (ns : List ℕ). cell Nothing noted.rows (slot ns j) r) n)

-- A walk, and the state that follows on it, are an attempt.
pub attempt_view :
    (s : System) (ps : List ℕ) (m : Model) (ws : List ℕ) (seats seats' : Seats) (held : Held) (noted : (Grid Note)) (job : ℕ) (o : Operation) (kd : Kind)
    (xs : List ℕ) (b : Bool) (i : ℕ)
    → kd ≡ kind o.action → xs ≡ path ps o.granule
    → walk_on s (record { job = job; kind = kd; goal = o.granule }) xs m ≡ record { left = whole ws seats held noted; complete = b }
    → is_open (m.jobs.status job) ≡ true → slot (numbers_of seats) job < 16 → i ≡ slot (numbers_of seats) job
    → (numbers_of seats') ≡ (numbers_of seats) → (states_of seats') ≡ set (states_of seats) i (moved (get_or (states_of seats) i Ended) (walked o b)) → seats'.opened ≡ seats.opened
    → attempt model_hands (record { system = s; parents = ps }) job o m ≡ record { left = whole ws seats' held noted; complete = b }
attempt_view s ps m ws seats seats' held noted job o kd xs b i ke xe went open_then l ie n st op =
    let w : Walker = record { job = job; kind = kd; goal = o.granule } in
    let at = slot (numbers_of seats) job in
    let opened : is_open (get_or (states_of seats) at Ended) ≡ true =
    ap (λ (r : Walked Model). is_open (r.left.jobs.status job)) (sym went) ∙ ap is_open (walk_own s w xs m) ∙ open_then
    in
    let after_it : (states_of seats') ≡ set (states_of seats) at (tried o b) =
    st
    ∙ ap (λ (j : ℕ). set (states_of seats) j (moved (get_or (states_of seats) j Ended) (walked o b))) ie
    ∙ ap (set (states_of seats) at) (settles o b (get_or (states_of seats) at Ended) opened)
    in
    ap₂ (λ (k : Kind) (ys : List ℕ). ending (walk_on s (record { job = job; kind = k; goal = o.granule }) ys m)) (sym ke) (sym xe)
    ∙ ap ending went
    ∙ ap (λ (n : Model). record { left = n; complete = b }) (sym (turn_view ws seats seats' held noted job (tried o b) l n after_it op))
  where
    ending : Walked Model → Walked Model
    ending r = record { left = model_hands.with_jobs (now_is job (tried o r.complete) r.left.jobs) r.left; complete = r.complete }

-- what follows on an attempt
abbrev pub follows : Layout → ℕ → Operation → Walked Model → Served
follows y j o w =
    elim w.complete [
      | true ↦ record { left = carried y j o w.left; said = Told (answer y.parents o w.left.words) }
      | false ↦ record { left = w.left; said = Waits }
    ]

pub try_as : (y : Layout) (j : ℕ) (o : Operation) (m : Model) (w : Walked Model) → attempt model_hands y j o m ≡ w → try y j o m ≡ follows y j o w
try_as y j o m w e = ap (follows y j o) e

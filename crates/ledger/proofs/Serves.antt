-- Every call keeps what is kept, is answered as the ledger asks, and lets the oldest job go on.
use Rattle.std.proofs.Common.{◌≡◌, ℕ, zero, suc, ◌<◌, Bool, true, false, ◌&&◌, List, [], ◌∷◌, length, length-append, Some, None, Option, sym, refl, ap, ◌∙◌, ap₂, inl, inr, arith}
use Rattle.std.specs.List.{AllByRecursion}
use Rattle.std.proofs.lemmas.Bool.Decides.{nat_tests}
use Rattle.std.proofs.lemmas.Bool.{cases_Bool, both_ways, not-false}
use Rattle.modes.specs.Systems.{Lawful}
use Rattle.shelf.specs.Words.{Fit}
use Rattle.granules.specs.Paths.{path, records_beneath, among}
use Rattle.granules.proofs.Climbs.{Falls, path_root, path_step}
use Rattle.operations.specs.declared.operation.Action.{Action}
use Rattle.operations.specs.declared.operation.Action.TheVariants.{Read, Mean, Set, Add}
use Rattle.operations.specs.declared.operation.Operation.{Operation}
use Rattle.operations.specs.Actions.{kind}
use Rattle.operations.specs.Words.{sum, told, answer}
use Rattle.ledger.specs.declared.call.Answer.{Answer}
use Rattle.ledger.specs.declared.call.Answer.TheVariants.{Told, Waits}
use Rattle.ledger.specs.declared.call.Call.{Call}
use Rattle.ledger.specs.declared.call.Call.TheVariants.{Lay, Open, Carry, Go, Again, Commit, GiveUp, Look}
use Rattle.ledger.specs.declared.refusal.Refusal.{Refusal}
use Rattle.ledger.specs.Refusals.{number, rows, can_meet, fits, first_of, refusal, job_of}
use Rattle.ledger.specs.Jobs.{Status, working, waiting, ended, is_open, is_wounded, is_ended, put, now_is}
use Rattle.ledger.specs.Walks.{Walked, walk}
use Rattle.ledger.specs.Ledgers.{Layout, Ledger, facts, wanted, attempt, ledger_hands, noting, note_step, tried, granted, unless_refused, next}
use Rattle.ledger.specs.Promises.{Shaped, Operated, Granted, ByRefusal, Oldest}
use Rattle.ledger.specs.Collisions.{covered}
use Rattle.ledger.specs.Models.{Note, Model, Served, model_hands, carried, try, grant, refused_or, serve}
use Rattle.ledger.proofs.Piles.{put_same, put_other}
use Rattle.ledger.proofs.Kept.{Kept, live_open, live_shut, open_not_ended}
use Rattle.ledger.proofs.Walking.{model_of, walk_kept, path_ends}
use Rattle.ledger.proofs.Moves.{turn_kept, open_kept, commit_kept, giveup_kept, carry_kept}

-- what no row fits, row by row
first_none : (p : Refusal → Bool) (rs : List Refusal) → first_of p rs ≡ None → AllByRecursion (λ r. p r ≡ false) rs
first_none p [] e = tt
first_none p (r ∷ rs) e = (grind (arith, nat_tests), first_none p rs (grind (arith, nat_tests)))

-- one of two by a test
pick_true : {A : Type 0} (b : Bool) (x z : A) → b ≡ true → (elim b as (λ _. A) [ true ↦ x | false ↦ z ]) ≡ x
pick_true b x z e = rw e

pick_false : {A : Type 0} (b : Bool) (x z : A) → b ≡ false → (elim b as (λ _. A) [ true ↦ x | false ↦ z ]) ≡ z
pick_false b x z e = rw e

-- which states are left when some are ruled out
still_open : (st : Status) → is_ended st ≡ false → is_wounded st ≡ false → is_open st ≡ true
still_open st a b = grind (arith, nat_tests)

-- the state after an attempt is open
abbrev tried_state : Operation → Bool → Status
tried_state o b = elim b [ true ↦ working | false ↦ waiting o ]

tried_open : (o : Operation) (b : Bool) → (is_open (tried_state o b) ≡ true) × (is_ended (tried_state o b) ≡ false) × (is_wounded (tried_state o b) ≡ false)
tried_open o true = (refl, refl, refl)
tried_open o false = (refl, refl, refl)

shaped : (a : Action) (s c : ℕ) → Shaped a (told a s c)
shaped Read s c = tt
shaped Mean s c = tt
shaped (Set w) s c = tt
shaped (Add w) s c = tt

path_some : (ps : List ℕ) → Falls ps → (g : ℕ) → path ps g ≡ [] → ⊥
path_some ps f zero e = omega (arith, ap length (sym (path_root ps) ∙ e))
path_some ps f (suc g) e =
    omega (arith, simp length-append at (ap length (sym (path_step ps f (suc g) (omega arith)) ∙ e)))

module _ {y : Layout} (law : Lawful y.system) (f : Falls y.parents) {start : List ℕ} (fit : Fit start) {l : Ledger} {ws : List ℕ}
    {notes : ℕ → ℕ → Note} (kept : Kept y start l ws notes) where
  -- What an attempt leaves.
  record Attempted (j : ℕ) (o : Operation) (wl : Walked Ledger) (wm : Walked Model) : Type 0 where
    words : List ℕ
    notes' : ℕ → ℕ → Note
    model : wm.left ≡ model_of wl.left words notes'
    complete : wm.complete ≡ wl.complete
    keeps : Kept y start wl.left words notes'
    state : wl.left.jobs.status j ≡ tried_state o wl.complete
    older : (i : ℕ) → i < j → wl.left.jobs.status i ≡ l.jobs.status i
    stopped : wl.complete ≡ false → (i : ℕ) × (i < j) × (is_ended (l.jobs.status i) ≡ false)
    covers : wl.complete ≡ true → covered y.system (wl.left.jobs.mode j) (kind o.action) (path y.parents o.granule) ≡ true

  attempted :
      (j : ℕ) (o : Operation) → is_open (l.jobs.status j) ≡ true
      → Attempted j o (attempt ledger_hands y j o l) (attempt model_hands y j o (model_of l ws notes))
  attempted j o open_j =
      let k = kind o.action in
      let xs = path y.parents o.granule in
      let w =
      walk_kept law fit k o.granule j xs kept open_j (path_ends y.parents f o.granule)
      in
      let wl = walk ledger_hands y.system k o.granule j xs l in
      let st = tried_state o wl.complete in
      let open_now : is_open (wl.left.jobs.status j) ≡ true = ap is_open (w.older j (omega arith)) ∙ open_j in
      let ok = tried_open o wl.complete in
      record {
        words = w.words;
        notes' = w.notes;
        model =
            ap₂ (λ (b : Bool) (m : Model). model_hands.with_jobs (now_is j (tried_state o b) m.jobs) m) w.complete w.model;
        complete = w.complete;
        keeps =
            turn_kept law fit w.kept j st (open_not_ended (wl.left.jobs.status j) open_now)
            ok.1 ok.2 ok.0 (live_open wl.left j open_now);
        state = put_same j st wl.left.jobs.status;
        older = λ i h. put_other j st wl.left.jobs.status i (λ (z : i ≡ j). omega arith) ∙ w.older i (omega arith);
        stopped = w.stopped;
        covers = λ c. elim (w.covers c) [ inl v ↦ v | inr n ↦ absurd (path_some y.parents f o.granule n) ];
      }

  -- What a call leaves and says, next to the ledger after it.
  pub record Moved (c : Call) (r : Option Refusal) (left : Model) (said : Answer) (l' : Ledger) : Type 0 where
    pub words : List ℕ
    pub notes' : ℕ → ℕ → Note
    pub model : left ≡ model_of l' words notes'
    pub keeps : Kept y start l' words notes'
    pub right : ByRefusal r said (Granted y l c said)
    pub oldest :
        (k : ℕ) → Oldest l.jobs k
        → (is_wounded (l.jobs.status k) ≡ false → is_wounded (l'.jobs.status k) ≡ false) × (job_of c ≡ k → said ≡ Waits → ⊥)

  -- an operation tried: the same for a new one and for one that was waited for
  module _ (c : Call) (j : ℕ) (o : Operation) (open_j : is_open (l.jobs.status j) ≡ true) (of_j : job_of c ≡ j)
      (shows : (said : Answer) → Operated (attempt ledger_hands y j o l).complete o said → Granted y l c said) where
    abbrev mo : Model
    mo = model_of l ws notes

    abbrev wl : Walked Ledger
    wl = attempt ledger_hands y j o l

    -- the oldest job is not wounded: it is not younger than one that has not ended
    unhurt : (w : Attempted j o wl (attempt model_hands y j o mo)) (k : ℕ) → Oldest l.jobs k → is_wounded (l.jobs.status k) ≡ false → is_wounded (wl.left.jobs.status k) ≡ false
    unhurt w k old h = grind (arith, nat_tests, w.older k, w.state, old.1 j, open_not_ended (l.jobs.status j), (tried_open o wl.complete).2)

    tried_kept : Moved c None (try y j o mo).left (try y j o mo).said (tried y j o (try y j o mo).said l)
    tried_kept =
        let w = attempted j o open_j in
        elim (cases_Bool wl.complete) [
          | inl t ↦
              let before = model_of wl.left w.words w.notes' in
              let out = answer y.parents o w.words in
              let sv : try y j o mo ≡ record { left = carried y j o before; said = Told out } =
              rw (w.complete ∙ t, try)
              (ap (λ (m : Model). record { left = carried y j o m; said = Told (answer y.parents o m.words) }) w.model)
              in
              let l' : tried y j o (try y j o mo).said l ≡ note_step j (o, out) wl.left =
              pick_true wl.complete (note_step j (o, noting (try y j o mo).said) wl.left) wl.left t
              ∙ ap (λ (s : Served). note_step j (o, noting s.said) wl.left) sv
              in
              let op : is_open (wl.left.jobs.status j) ≡ true = ap is_open w.state ∙ (tried_open o wl.complete).0 in
              record {
                words = (carried y j o before).words;
                notes' = (carried y j o before).notes;
                model = rw (l', sv);
                keeps = rw l' (carry_kept law fit w.keeps f j o op (w.covers t));
                right =
                    shows (try y j o mo).said
                    (rw (t, sv) (out, refl, shaped o.action (sum y.parents w.words o.granule) (records_beneath y.parents o.granule)));
                oldest = λ k old. (λ h. rw l' (unhurt w k old h), λ who said. let e = ap (λ (s : Served). s.said) sv in cc);
              }
          | inr t ↦
              let wm = attempt model_hands y j o mo in
              let sv : try y j o mo ≡ record { left = wm.left; said = Waits } = pick_false wm.complete _ _ (w.complete ∙ t) in
              let l' : tried y j o (try y j o mo).said l ≡ wl.left = pick_false wl.complete _ wl.left t in
              record {
                words = w.words;
                notes' = w.notes';
                model = rw (l', sv) w.model;
                keeps = rw l' w.keeps;
                right = shows (try y j o mo).said (rw (t, sv) refl);
                oldest =
                    λ k old. (
                      λ h. rw l' (unhurt w k old h),
                      λ who said.
                          let b = w.stopped t in
                          both_ways (is_ended (l.jobs.status b.0)) b.2 (old.1 b.0 (rw (← who, of_j) b.1)),
                    );
              }
        ]

  -- no row of the table fits a call
  abbrev NoRow : Call → Type 0
  NoRow c = AllByRecursion (λ r. (among (number r) (can_meet c) && fits (facts y l.jobs) c r) ≡ false) rows

  -- a job that another state has been put for is not wounded by it, nor is any other
  spared : (j : ℕ) (st : Status) → is_wounded st ≡ false → (k : ℕ) → is_wounded (l.jobs.status k) ≡ false → is_wounded (put j st l.jobs.status k) ≡ false
  spared j st w k h = grind (arith, nat_tests)

  -- a call that wounds nobody and is not answered `waits`
  plain :
      (c : Call) (r : Option Refusal) (said : Answer) {l' : Ledger} {ws' : List ℕ} {notes₂ : ℕ → ℕ → Note} → Kept y start l' ws' notes₂
      → ByRefusal r said (Granted y l c said) → (said ≡ Waits → ⊥)
      → ((k : ℕ) → is_wounded (l.jobs.status k) ≡ false → is_wounded (l'.jobs.status k) ≡ false) → Moved c r (model_of l' ws' notes₂) said l'
  plain c r said keeps right answered spares =
      record { words = _; notes' = _; model = refl; keeps = keeps; right = right; oldest = λ k old. (spares k, λ who. answered) }

  granted_kept :
      (c : Call) → NoRow c
      → Moved c None (grant y c (model_of l ws notes)).left (grant y c (model_of l ws notes)).said
      (granted y c (grant y c (model_of l ws notes)).said l)
  granted_kept (Lay parents words) none = absurd (both_ways true none.1.1.1.1.1.1.1.1.1.0 refl)
  granted_kept Open none = plain Open None _ (open_kept law fit kept) refl (λ w. cc) (spared (suc l.jobs.opened) working refl)
  granted_kept (Carry j o) none =
      tried_kept (Carry j o) j o (still_open (l.jobs.status j) none.1.1.1.0 none.1.1.1.1.0) refl (λ said h. h)
  granted_kept (Go j) none =
      tried_kept (Go j) j (wanted (l.jobs.status j)) (still_open (l.jobs.status j) none.1.1.1.0 none.1.1.1.1.0) refl (λ said h. h)
  granted_kept (Again j) none =
      let w = not-false (is_wounded (l.jobs.status j)) none.1.1.1.1.1.1.1.1.0 in
      let shut : is_open (l.jobs.status j) ≡ false = grind (arith, nat_tests) in
      plain (Again j) None _
      (turn_kept law fit kept j working (grind (arith, nat_tests)) refl refl refl (live_shut l j shut ∙ sym (kept.clean j w))) refl
      (λ w. cc) (spared j working refl)
  granted_kept (Commit j) none =
      plain (Commit j) None _ (commit_kept law fit kept j none.1.1.1.0 (still_open (l.jobs.status j) none.1.1.1.0 none.1.1.1.1.0)) refl
      (λ w. cc) (spared j ended refl)
  granted_kept (GiveUp j) none =
      plain (GiveUp j) None _ (giveup_kept law fit kept j none.1.1.1.0) refl (λ w. cc) (spared j ended refl)
  granted_kept (Look g) none = plain (Look g) None _ kept refl (λ w. cc) (λ k h. h)

  -- A call, refused or not.
  pub served_kept :
      (c : Call)
      → Moved c (refusal (facts y l.jobs) c) (serve y c (model_of l ws notes)).left (serve y c (model_of l ws notes)).said
      (next y l (c, (serve y c (model_of l ws notes)).said))
  served_kept c = by_row (refusal (facts y l.jobs) c) refl
    where
      by_row :
          (r : Option Refusal) → refusal (facts y l.jobs) c ≡ r
          → Moved c r (refused_or r (model_of l ws notes) (grant y c (model_of l ws notes))).left
          (refused_or r (model_of l ws notes) (grant y c (model_of l ws notes))).said
          (unless_refused r l (granted y c (refused_or r (model_of l ws notes) (grant y c (model_of l ws notes))).said l))
      by_row (Some r) e = plain c (Some r) _ kept refl (λ w. cc) (λ k h. h)
      by_row None e = granted_kept c (first_none (λ r. among (number r) (can_meet c) && fits (facts y l.jobs) c r) rows e)

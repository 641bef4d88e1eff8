-- What is kept when a job changes its state, is opened, reopened, carries out an operation, commits or gives up.
use Rattle.std.proofs.Common.{◌≡◌, ℕ, suc, ◌≤◌, true, false, List, [], ◌∷◌, ◌++◌, get_or, sym, refl, ap, ◌∙◌, append_assoc, append-nil, arith}
use Rattle.std.proofs.lemmas.Bool.Decides.{nat_tests}
use Rattle.modes.specs.Systems.{Lawful}
use Rattle.shelf.specs.Words.{Fit}
use Rattle.granules.specs.Paths.{path, record_beneath}
use Rattle.granules.proofs.Climbs.{Falls}
use Rattle.operations.specs.declared.operation.Operation.{Operation}
use Rattle.operations.specs.Actions.{kind}
use Rattle.operations.specs.Words.{answer, after}
use Rattle.operations.specs.Alone.{Step}
use Rattle.ledger.specs.Jobs.{Status, working, ended, is_open, is_wounded, is_ended, put, now_is, open_one, end_one}
use Rattle.ledger.specs.Ledgers.{Layout, Ledger, ledger_hands, note_step}
use Rattle.ledger.specs.Promises.{count_of, in_turn}
use Rattle.ledger.specs.Collisions.{Covers, covered}
use Rattle.ledger.specs.Models.{Note, nothing, noted, taken_back}
use Rattle.ledger.proofs.Runs.{all_++}
use Rattle.ledger.proofs.Piles.{put_other, put_cases}
use Rattle.ledger.proofs.Orders.{in_turn_ext}
use Rattle.ledger.proofs.Books.{Good, good_ext, clear_one, commit_one, more, carry_one}
use Rattle.ledger.proofs.Kept.{Kept, live, live_open, open_not_ended, given}
use Rattle.ledger.proofs.Covers.{apart_each}

in_turn_push : (f : ℕ → List Step) (ks : List ℕ) (j : ℕ) → in_turn f (ks ++ j ∷ []) ≡ in_turn f ks ++ f j
in_turn_push f [] j = append-nil (f j)
in_turn_push f (k ∷ ks) j = ap (λ (xs : List Step). f k ++ xs) (in_turn_push f ks j) ∙ sym (append_assoc (f k) (in_turn f ks) (f j))

count_push : (k j : ℕ) (ks : List ℕ) → (k ≡ j → ⊥) → count_of k (ks ++ j ∷ []) ≡ count_of k ks
count_push k j [] d = grind (arith, nat_tests)
count_push k j (x ∷ xs) d = grind (arith, nat_tests, count_push k j xs d)

module _ {y : Layout} (law : Lawful y.system) {start : List ℕ} (fits : Fit start) {l : Ledger} {ws : List ℕ} {notes : ℕ → ℕ → Note}
    (kept : Kept y start l ws notes) where
  -- a number that was given is not one to come
  not_new : (j : ℕ) → is_ended (l.jobs.status j) ≡ false → (k : ℕ) → suc l.jobs.opened ≤ k → k ≡ j → ⊥
  not_new j e k h z = omega (arith, given kept j e)

  -- Job j gets another state, and is neither ended by it nor has its steps changed.
  module _ (j : ℕ) (st : Status) (was : is_ended (l.jobs.status j) ≡ false) (is : is_ended st ≡ false) (whole : is_wounded st ≡ false)
      (opens : is_open st ≡ true) (same : live l j ≡ l.steps j) where
    abbrev turned : Ledger
    turned = ledger_hands.with_jobs (now_is j st l.jobs) l

    same_live : (k : ℕ) → live l k ≡ live turned k
    same_live k = grind (arith, nat_tests)

    pub turn_kept : Kept y start turned ws notes
    turn_kept =
        record {
          standing = kept.standing;
          idle = λ k x o. kept.idle k x (grind (arith, nat_tests));
          covers = λ k. rw (← same_live k) (kept.covers k);
          books = good_ext _ _ fits same_live (λ k. refl) kept.books;
          unopened = λ k h. put_other j st l.jobs.status k (not_new j was k h) ∙ kept.unopened k h;
          unused = kept.unused;
          clean = λ k w. grind (arith, nat_tests, kept.clean k);
          ordered = λ k o. grind (arith, nat_tests, kept.ordered k);
        }

  -- A job is opened.
  abbrev opened_ledger : Ledger
  opened_ledger = record { jobs = open_one l.jobs; steps = l.steps; order = l.order }

  opened_live : (k : ℕ) → live l k ≡ live opened_ledger k
  opened_live k = grind (arith, nat_tests, kept.unopened k, kept.unused k)

  pub open_kept : Kept y start opened_ledger ws notes
  open_kept =
      let new = suc l.jobs.opened in
      record {
        standing = kept.standing;
        idle = λ k x o. kept.idle k x (grind (arith, nat_tests, kept.unopened k));
        covers = λ k. rw (← opened_live k) (kept.covers k);
        books = good_ext _ _ fits opened_live (λ k. refl) (more _ _ fits kept.books);
        unopened = λ k h. put_other new working l.jobs.status k (λ (z : k ≡ new). omega arith) ∙ kept.unopened k (omega arith);
        unused = λ k h. kept.unused k (omega arith);
        clean = λ k w. grind (arith, nat_tests, kept.clean k, kept.unused k);
        ordered = λ k o. grind (arith, nat_tests, kept.ordered k, kept.unused k);
      }

  -- A job that has ended, however it did: without modes and with its steps out of the way.
  module _ (j : ℕ) (was : is_ended (l.jobs.status j) ≡ false) where
    ended_standing :
        (i k x : ℕ) → (i ≡ k → ⊥)
        → y.system.stands (put j (λ _. 0) l.jobs.mode i x) (put j (λ _. 0) l.jobs.mode k x) ≡ true
    ended_standing i k x d =
        put_cases (λ m. y.system.stands (m x) (put j (λ _. 0) l.jobs.mode k x) ≡ true) j (λ _. 0) l.jobs.mode i (λ _. law.stands_none _)
        (λ _.
        put_cases (λ m. y.system.stands (l.jobs.mode i x) (m x) ≡ true) j (λ _. 0) l.jobs.mode k
        (λ _. law.stands_comm _ 0 ∙ law.stands_none _) (λ _. kept.standing i k x d))

    -- any ledger in which job j has ended, and the others have their steps
    module _ (steps : ℕ → List Step) (order : List ℕ) (others : (k : ℕ) → (k ≡ j → ⊥) → steps k ≡ l.steps k) where
      abbrev ended_ledger : Ledger
      ended_ledger = record { jobs = end_one j l.jobs; steps = steps; order = order }

      ended_live : (k : ℕ) → put j [] (live l) k ≡ live ended_ledger k
      ended_live k = grind (arith, nat_tests, others k)

      end_kept :
          (ws' : List ℕ)
          → Good y.parents start (in_turn steps order) (live ended_ledger) (suc l.jobs.opened) ws' (put j (λ _. nothing) notes)
          → ((k : ℕ) → (k ≡ j → ⊥) → count_of k order ≡ count_of k l.order) → Kept y start ended_ledger ws' (put j (λ _. nothing) notes)
      end_kept ws' good counts =
          record {
            standing = ended_standing;
            idle =
                λ k x o. put_cases (λ m. m x ≡ 0) j (λ _. 0) l.jobs.mode k (λ _. refl) (λ e. kept.idle k x (grind (arith, nat_tests)));
            covers =
                λ k.
                rw (← ended_live k)
                (put_cases (Covers y.system y.parents (put j (λ _. 0) l.jobs.mode k)) j [] (live l) k (λ _. tt)
                (λ e. rw (put_other j (λ _. 0) l.jobs.mode k e) (kept.covers k)));
            books = good;
            unopened = λ k h. put_other j ended l.jobs.status k (not_new j was k h) ∙ kept.unopened k h;
            unused =
                λ k h.
                let d = not_new j was k h in
                (others k d ∙ (kept.unused k h).0, counts k d ∙ (kept.unused k h).1);
            clean = λ k w. grind (arith, nat_tests, kept.clean k, others k);
            ordered = λ k o. grind (arith, nat_tests, kept.ordered k, counts k);
          }

    pub commit_kept :
        is_open (l.jobs.status j) ≡ true
        → Kept y start (record { jobs = end_one j l.jobs; steps = l.steps; order = l.order ++ j ∷ [] }) ws (put j (λ _. nothing) notes)
    commit_kept o =
        let order = l.order ++ j ∷ [] in
        end_kept l.steps order (λ k d. refl) ws
        (rw (in_turn_push l.steps l.order j, ← live_open l j o)
        (good_ext _ _ fits (ended_live l.steps order (λ k d. refl)) (λ k. refl) (commit_one _ _ fits kept.books j (given kept j was))))
        (λ k d. count_push k j l.order d)

    pub giveup_kept :
        Kept y start (record { jobs = end_one j l.jobs; steps = put j [] l.steps; order = l.order }) (taken_back (notes j) ws)
        (put j (λ _. nothing) notes)
    giveup_kept =
        let steps = put j [] l.steps in
        let others : (k : ℕ) → (k ≡ j → ⊥) → steps k ≡ l.steps k = λ k d. put_other j [] l.steps k d in
        end_kept steps l.order others (taken_back (notes j) ws)
        (rw (← in_turn_ext l.steps steps l.order (λ k. grind (arith, nat_tests, kept.ordered j was)))
        (good_ext _ _ fits (ended_live steps l.order others) (λ k. refl) (clear_one _ _ fits kept.books j (given kept j was))))
        (λ k d. refl)

  -- An operation that its job covers is carried out.
  module _ (f : Falls y.parents) (j : ℕ) (o : Operation) (open_j : is_open (l.jobs.status j) ≡ true)
      (cov : covered y.system (l.jobs.mode j) (kind o.action) (path y.parents o.granule) ≡ true) where
    abbrev step : Step
    step = (o, answer y.parents o ws)

    abbrev longer : Ledger
    longer = note_step j step l

    longer_live : (k : ℕ) → put j (live l j ++ step ∷ []) (live l) k ≡ live longer k
    longer_live k = grind (arith, nat_tests)

    pub carry_kept :
        Kept y start longer (after y.parents o ws)
        (put j
        (λ r. elim (record_beneath y.parents o.granule r) [ true ↦ noted o.action (get_or ws r 0) (notes j r) | false ↦ notes j r ])
        notes)
    carry_kept =
        let notes' =
        put j
        (λ r. elim (record_beneath y.parents o.granule r) as (λ _. Note) [ true ↦ noted o.action (get_or ws r 0) (notes j r) | false ↦ notes j r ])
        notes
        in
        let was = open_not_ended (l.jobs.status j) open_j in
        record {
          standing = kept.standing;
          idle = kept.idle;
          covers =
              λ k.
              rw (← longer_live k)
              (put_cases (Covers y.system y.parents (l.jobs.mode k)) j (live l j ++ step ∷ []) (live l) k
              (λ e. rw e (all_++ (λ t. covered y.system (l.jobs.mode j) (kind t.0.action) (path y.parents t.0.granule) ≡ true) (live l j) (step ∷ []) (kept.covers j) (cov, tt)))
              (λ _. kept.covers k));
          books =
              rw (← in_turn_ext l.steps (put j (l.steps j ++ step ∷ []) l.steps) l.order (λ k. grind (arith, nat_tests, kept.ordered j was)))
              (good_ext _ _ fits longer_live (λ k. refl)
              (carry_one _ _ fits kept.books j o (given kept j was)
              (λ i d.
              apart_each y.system law y.parents f (l.jobs.mode i) (l.jobs.mode j) (λ x. kept.standing i j x d) (live l i) o
              (kept.covers i) cov)));
          unopened = kept.unopened;
          unused =
              λ k h. (put_other j (l.steps j ++ step ∷ []) l.steps k (not_new j was k h) ∙ (kept.unused k h).0, (kept.unused k h).1);
          clean = λ k w. grind (arith, nat_tests, kept.clean k);
          ordered = kept.ordered;
        }

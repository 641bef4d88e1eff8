-- What stays true of a ledger, and of the words and notes that go with it.
use Rattle.std.proofs.Common.{◌≡◌, ℕ, suc, ◌<◌, ◌≤◌, Bool, true, false, List, [], sym, refl, ap, ◌∙◌, inl, inr, arith}
use Rattle.std.proofs.lemmas.Bool.Decides.{nat_tests}
use Rattle.std.proofs.lemmas.Bool.{cases_lt, cases_Bool, both_ways}
use Rattle.modes.specs.Systems.{System, Lawful}
use Rattle.shelf.specs.Words.{Fit}
use Rattle.granules.specs.Below.{some_below}
use Rattle.granules.proofs.Below.{some_from}
use Rattle.operations.specs.Alone.{Step}
use Rattle.ledger.specs.Jobs.{Jobs, Status, ended, is_open, is_wounded, is_ended, put, where_so, raise}
use Rattle.ledger.specs.Walks.{passes, gives_way, holds_up, judge, yields, blocks, has}
use Rattle.ledger.specs.Ledgers.{Layout, Ledger, ledger_hands}
use Rattle.ledger.specs.Promises.{count_of, in_turn}
use Rattle.ledger.specs.Collisions.{Covers}
use Rattle.ledger.specs.Models.{Note, nothing, all_taken_back}
use Rattle.ledger.proofs.Piles.{put_same, put_other, put_cases}
use Rattle.ledger.proofs.Runs.{all_weaker}
use Rattle.ledger.proofs.Orders.{in_turn_ext}
use Rattle.ledger.proofs.Books.{Good, good_ext}
use Rattle.ledger.proofs.Wounds.{where_cases, wound_all}
use Rattle.ledger.proofs.Covers.{covered_more}

-- the steps of a job that are in the words and can still be taken back
abbrev pub live : Ledger → ℕ → List Step
live l k = elim (is_open (l.jobs.status k)) [ true ↦ l.steps k | false ↦ [] ]

pub live_open : (l : Ledger) (k : ℕ) → is_open (l.jobs.status k) ≡ true → live l k ≡ l.steps k
live_open l k e = rw (e, live)

pub live_shut : (l : Ledger) (k : ℕ) → is_open (l.jobs.status k) ≡ false → live l k ≡ []
live_shut l k e = rw (e, live)

pub record Kept (y : Layout) (start : List ℕ) (l : Ledger) (ws : List ℕ) (notes : ℕ → ℕ → Note) : Type 0 where
  -- the modes of any two jobs stand together
  pub standing : (i j x : ℕ) → (i ≡ j → ⊥) → y.system.stands (l.jobs.mode i x) (l.jobs.mode j x) ≡ true
  -- who is not open holds nothing
  pub idle : (k x : ℕ) → is_open (l.jobs.status k) ≡ false → l.jobs.mode k x ≡ 0
  -- each job covers what it did
  pub covers : (k : ℕ) → Covers y.system y.parents (l.jobs.mode k) (live l k)
  pub books : Good y.parents start (in_turn l.steps l.order) (live l) (suc l.jobs.opened) ws notes
  -- numbers not yet given
  pub unopened : (k : ℕ) → suc l.jobs.opened ≤ k → l.jobs.status k ≡ ended
  pub unused : (k : ℕ) → suc l.jobs.opened ≤ k → (l.steps k ≡ []) × (count_of k l.order ≡ 0)
  pub clean : (k : ℕ) → is_wounded (l.jobs.status k) ≡ true → l.steps k ≡ []
  -- committed jobs have ended
  pub ordered : (k : ℕ) → is_ended (l.jobs.status k) ≡ false → count_of k l.order ≡ 0

pub open_not_ended : (st : Status) → is_open st ≡ true → is_ended st ≡ false
open_not_ended st e = grind (arith, nat_tests)

-- a job that has not ended has a number that was given
pub given : {y : Layout} {start : List ℕ} {l : Ledger} {ws : List ℕ} {notes : ℕ → ℕ → Note} → Kept y start l ws notes
    → (k : ℕ) → is_ended (l.jobs.status k) ≡ false → k < suc l.jobs.opened
given {l = l} kept k e =
    elim (cases_lt k (suc l.jobs.opened)) [ inl h ↦ h | inr h ↦ absurd (grind (arith, nat_tests, kept.unopened k h)) ]

-- the judgement of one holder, case by case: what the definition says, for its reader
pub judged_self : (s : System) (a t i h : ℕ) → i ≡ a → judge s a t i h ≡ passes
judged_self s a t i h e = grind (arith, nat_tests)

judged_stands : (s : System) (a t i h : ℕ) → (i ≡ a → ⊥) → s.stands h t ≡ true → judge s a t i h ≡ passes
judged_stands s a t i h e st = grind (arith, nat_tests)

judged_young : (s : System) (a t i h : ℕ) → (i ≡ a → ⊥) → s.stands h t ≡ false → a < i → judge s a t i h ≡ gives_way
judged_young s a t i h e st l = grind (arith, nat_tests)

judged_old : (s : System) (a t i h : ℕ) → (i ≡ a → ⊥) → s.stands h t ≡ false → i ≤ a → judge s a t i h ≡ holds_up
judged_old s a t i h e st l = grind (arith, nat_tests)

module _ (s : System) (law : Lawful s) (js : Jobs) (a x t : ℕ) where
  -- who gives way is younger and does not stand; who holds up is older and does not stand
  pub yields_young : (k : ℕ) → yields s js a x t k ≡ true → (a < k) × (s.stands (js.mode k x) t ≡ false)
  yields_young k e = grind (arith, nat_tests)

  pub blocks_old : (k : ℕ) → blocks s js a x t k ≡ true → (k < a) × (s.stands (js.mode k x) t ≡ false)
  blocks_old k e = (grind (arith, nat_tests), grind (arith, nat_tests))

  -- if nobody holds up, whoever does not give way stands with the target
  pub stands_or_yields :
      some_below a (blocks s js a x t) ≡ false → (k : ℕ) → (k ≡ a → ⊥) → yields s js a x t k ≡ false → s.stands (js.mode k x) t ≡ true
  stands_or_yields none k z e = grind (arith, nat_tests, some_from a (blocks s js a x t) k)

  -- who is in the way holds something
  pub in_the_way : (k : ℕ) → s.stands (js.mode k x) t ≡ false → js.mode k x ≡ 0 → ⊥
  in_the_way k e z = both_ways (s.stands (js.mode k x) t) e (ap (λ (m : ℕ). s.stands m t) z ∙ law.stands_none t)

module _ {y : Layout} (law : Lawful y.system) {start : List ℕ} (fits : Fit start) {l : Ledger} {ws : List ℕ} {notes : ℕ → ℕ → Note}
    (kept : Kept y start l ws notes) where
  -- Open jobs wounded.
  module _ (p : ℕ → Bool) (open_ones : (k : ℕ) → p k ≡ true → is_open (l.jobs.status k) ≡ true) where
    spared_live : (k : ℕ) → where_so p [] (live l) k ≡ live (ledger_hands.wound p l) k
    spared_live k = grind (arith, nat_tests)

    -- an ended job is not among them
    ended_spared : (k : ℕ) → is_ended (l.jobs.status k) ≡ true → p k ≡ false
    ended_spared k e = grind (arith, nat_tests, open_ones k, open_not_ended (l.jobs.status k))

    pub wound_kept :
        Kept y start (ledger_hands.wound p l) (all_taken_back p notes (suc l.jobs.opened) ws) (where_so p (λ _. nothing) notes)
    wound_kept =
        record {
          standing =
              λ i j x d.
              where_cases (λ m. y.system.stands (m x) (where_so p (λ _. 0) l.jobs.mode j x) ≡ true) p (λ _. 0) l.jobs.mode i
              (λ _. law.stands_none _)
              (λ _.
              where_cases (λ m. y.system.stands (l.jobs.mode i x) (m x) ≡ true) p (λ _. 0) l.jobs.mode j
              (λ _. law.stands_comm _ 0 ∙ law.stands_none _) (λ _. kept.standing i j x d));
          idle = λ k x o. where_cases (λ m. m x ≡ 0) p (λ _. 0) l.jobs.mode k (λ _. refl) (λ e. kept.idle k x (grind (arith, nat_tests)));
          covers =
              λ k.
              rw (← spared_live k)
              (elim (cases_Bool (p k)) [ inl e ↦ rw (e, where_so) tt | inr e ↦ rw (e, where_so) (kept.covers k) ]);
          books =
              rw (← in_turn_ext l.steps (where_so p [] l.steps) l.order
              (λ k. grind (arith, nat_tests, ended_spared k, kept.ordered k)))
              (good_ext _ _ fits spared_live (λ k. refl)
              (wound_all fits kept.books p (λ k e. given kept k (open_not_ended (l.jobs.status k) (open_ones k e)))));
          unopened = λ k h. grind (arith, nat_tests, kept.unopened k h, ended_spared k);
          unused = λ k h. grind (arith, nat_tests, kept.unopened k h, kept.unused k h);
          clean = λ k w. grind (arith, nat_tests, kept.clean k);
          ordered = λ k o. grind (arith, nat_tests, kept.ordered k, open_ones k, open_not_ended (l.jobs.status k));
        }

  -- A job's mode raised to one that stands with those of the others and has all in it that it had.
  module _ (a x t : ℕ) (open_a : is_open (l.jobs.status a) ≡ true)
      (alone : (i : ℕ) → (i ≡ a → ⊥) → y.system.stands (l.jobs.mode i x) t ≡ true)
      (rises : (part : ℕ) → has y.system (l.jobs.mode a x) part ≡ true → has y.system t part ≡ true) where
    pub has_still :
        (z part : ℕ) → has y.system (l.jobs.mode a z) part ≡ true
        → has y.system (put a (put x t (l.jobs.mode a)) l.jobs.mode a z) part ≡ true
    has_still z part h =
        rw put_same
        (put_cases (λ m. has y.system m part ≡ true) x t (l.jobs.mode a) z (λ e. rises part (rw (← e) h)) (λ _. h))

    -- another job stands with the raised one
    beside : (j z : ℕ) → (j ≡ a → ⊥) → y.system.stands (l.jobs.mode j z) (put x t (l.jobs.mode a) z) ≡ true
    beside j z d =
        put_cases (λ m. y.system.stands (l.jobs.mode j z) m ≡ true) x t (l.jobs.mode a) z (λ e. rw e (alone j d)) (λ _. kept.standing j a z d)

    pub raise_kept : Kept y start (ledger_hands.with_jobs (raise a x t l.jobs) l) ws notes
    raise_kept =
        record {
          standing =
              λ i j z d.
              put_cases (λ m. y.system.stands (m z) (put a (put x t (l.jobs.mode a)) l.jobs.mode j z) ≡ true) a (put x t (l.jobs.mode a)) l.jobs.mode i
              (λ e.
              let other : j ≡ a → ⊥ = λ w. d (e ∙ sym w) in
              rw (put_other a (put x t (l.jobs.mode a)) l.jobs.mode j other) (law.stands_comm _ _ ∙ beside j z other))
              (λ e.
              put_cases (λ m. y.system.stands (l.jobs.mode i z) (m z) ≡ true) a (put x t (l.jobs.mode a)) l.jobs.mode j
              (λ _. beside i z e) (λ _. kept.standing i j z d));
          idle =
              λ k z o. put_cases (λ m. m z ≡ 0) a (put x t (l.jobs.mode a)) l.jobs.mode k (λ e. grind (arith, nat_tests)) (λ _. kept.idle k z o);
          covers =
              λ k.
              put_cases (λ m. Covers y.system y.parents m (live l k)) a (put x t (l.jobs.mode a)) l.jobs.mode k
              (λ e. rw e (all_weaker (λ u c. covered_more y.system (l.jobs.mode a) (put x t (l.jobs.mode a)) _ _ more c) (live l a) (kept.covers a)))
              (λ _. kept.covers k);
          books = kept.books;
          unopened = kept.unopened;
          unused = kept.unused;
          clean = kept.clean;
          ordered = kept.ordered;
        }
      where
        more : (z part : ℕ) → has y.system (l.jobs.mode a z) part ≡ true → has y.system (put x t (l.jobs.mode a) z) part ≡ true
        more z part h = rw put_same at (has_still z part h)

-- A walk keeps what is kept, and if it is completed the job covers the operation.
use Rattle.std.proofs.Common.{◌≡◌, ℕ, zero, suc, ◌<◌, ◌≤◌, Bool, true, false, eqb, ◌⊎◌, List, [], ◌∷◌, ◌++◌, sym, refl, ap, ◌∙◌, subst, inl, inr, arith}
use Rattle.std.proofs.lemmas.Bool.Decides.{nat_tests}
use Rattle.std.proofs.lemmas.Bool.{cases_eq, cases_Bool, both_ways, eq-eqb, or_left}
use Rattle.modes.specs.declared.kind.Kind.{Kind}
use Rattle.modes.specs.Systems.{System, Lawful}
use Rattle.shelf.specs.Words.{Fit}
use Rattle.granules.specs.Below.{some_below}
use Rattle.granules.specs.Paths.{path}
use Rattle.granules.proofs.Below.{some_at}
use Rattle.granules.proofs.Climbs.{Falls, path_root, path_step}
use Rattle.ledger.specs.Jobs.{is_open, is_ended, where_so, raise}
use Rattle.ledger.specs.Walks.{Hands, Walked, yields, blocks, has, target, walk}
use Rattle.ledger.specs.Ledgers.{Layout, Ledger, ledger_hands}
use Rattle.ledger.specs.Collisions.{covered}
use Rattle.ledger.specs.Models.{Note, nothing, Model, model_hands, all_taken_back}
use Rattle.ledger.proofs.Piles.{put_same}
use Rattle.ledger.proofs.Wounds.{where_false, where_cases}
use Rattle.ledger.proofs.Kept.{Kept, yields_young, blocks_old, stands_or_yields, open_not_ended, in_the_way, wound_kept, raise_kept, has_still}

abbrev pub model_of : Ledger → List ℕ → (ℕ → ℕ → Note) → Model
model_of l ws notes = record { jobs = l.jobs; words = ws; notes = notes }

-- the four ways of one step of a walk
module _ {S : Type 0} (h : Hands S) (s : System) (k : Kind) (g a x : ℕ) (xs : List ℕ) (st : S) where
  pub walk_covered : has s ((h.jobs st).mode a x) (s.full k) ≡ true → walk h s k g a (x ∷ xs) st ≡ record { left = st; complete = true }
  walk_covered e = rw (e, walk)

  pub walk_same :
      has s ((h.jobs st).mode a x) (s.full k) ≡ false → eqb (target s k g x ((h.jobs st).mode a x)) ((h.jobs st).mode a x) ≡ true
      → walk h s k g a (x ∷ xs) st ≡ walk h s k g a xs st
  walk_same e f = rw (e, f, walk)

  pub walk_stops :
      has s ((h.jobs st).mode a x) (s.full k) ≡ false → eqb (target s k g x ((h.jobs st).mode a x)) ((h.jobs st).mode a x) ≡ false
      → some_below a (blocks s (h.jobs st) a x (target s k g x ((h.jobs st).mode a x))) ≡ true
      → walk h s k g a (x ∷ xs) st
      ≡ record { left = h.wound (yields s (h.jobs st) a x (target s k g x ((h.jobs st).mode a x))) st; complete = false }
  walk_stops e f b = rw (e, f, b, walk)

  pub walk_goes :
      has s ((h.jobs st).mode a x) (s.full k) ≡ false → eqb (target s k g x ((h.jobs st).mode a x)) ((h.jobs st).mode a x) ≡ false
      → some_below a (blocks s (h.jobs st) a x (target s k g x ((h.jobs st).mode a x))) ≡ false
      → walk h s k g a (x ∷ xs) st
      ≡ walk h s k g a xs
      (h.with_jobs
      (raise a x (target s k g x ((h.jobs st).mode a x))
      (h.jobs (h.wound (yields s (h.jobs st) a x (target s k g x ((h.jobs st).mode a x))) st)))
      (h.wound (yields s (h.jobs st) a x (target s k g x ((h.jobs st).mode a x))) st))
  walk_goes e f b = rw (e, f, b, walk)

target_at : (s : System) (k : Kind) (g x m : ℕ) → x ≡ g → target s k g x m ≡ s.join m (s.full k)
target_at s k g x m e = grind (arith, nat_tests)

target_above : (s : System) (k : Kind) (g x m : ℕ) → (x ≡ g → ⊥) → target s k g x m ≡ s.join m (s.intent k)
target_above s k g x m e = grind (arith, nat_tests)

module _ (s : System) (law : Lawful s) where
  -- a join has its parts in it, and all that they had
  has_joined : (m q : ℕ) → q < s.count → has s (s.join m q) q ≡ true
  has_joined m q w = eq-eqb _ _ (law.join_assoc m q q ∙ ap (s.join m) (law.join_same q w))

  has_more : (m q part : ℕ) → has s m part ≡ true → has s (s.join m q) part ≡ true
  has_more m q part h = grind (arith, nat_tests, law.join_assoc m q part, law.join_comm q part, law.join_assoc m part q)

  target_rises : (k : Kind) (g x m part : ℕ) → has s m part ≡ true → has s (target s k g x m) part ≡ true
  target_rises k g x m part h = grind (arith, nat_tests, has_more m (s.full k) part h, has_more m (s.intent k) part h)

-- the last granule of a list is g
abbrev pub Ends : ℕ → List ℕ → Type 0
Ends g [] = Unit {0}
Ends g (x ∷ []) = x ≡ g
Ends g (x ∷ z ∷ zs) = Ends g (z ∷ zs)

ends_tail : (g x : ℕ) (xs : List ℕ) → Ends g (x ∷ xs) → Ends g xs
ends_tail g x [] e = tt
ends_tail g x (z ∷ zs) e = e

ends_last : (g x : ℕ) (xs : List ℕ) → Ends g (x ∷ xs) → xs ≡ [] → x ≡ g
ends_last g x [] e n = e
ends_last g x (z ∷ zs) e n = let c : x ≡ g = cc in c

ends_push : (g : ℕ) (xs : List ℕ) → Ends g (xs ++ g ∷ [])
ends_push g [] = refl
ends_push g (x ∷ []) = refl
ends_push g (x ∷ z ∷ zs) = ends_push g (z ∷ zs)

pub path_ends : (ps : List ℕ) → Falls ps → (g : ℕ) → Ends g (path ps g)
path_ends ps f zero = subst (Ends 0) (sym (path_root ps)) refl
path_ends ps f (suc g) = subst (Ends (suc g)) (sym (path_step ps f (suc g) (omega arith))) (ends_push (suc g) (path ps _))

-- What a walk of job a for kind k over a list of granules leaves, of a ledger and of the model that goes with it.
pub record Stepped (y : Layout) (start : List ℕ) (k : Kind) (a : ℕ) (l : Ledger) (xs : List ℕ) (wl : Walked Ledger) (wm : Walked Model) : Type 0 where
  pub words : List ℕ
  pub notes : ℕ → ℕ → Note
  pub model : wm.left ≡ model_of wl.left words notes
  pub complete : wm.complete ≡ wl.complete
  pub kept : Kept y start wl.left words notes
  pub still : (z part : ℕ) → has y.system (l.jobs.mode a z) part ≡ true → has y.system (wl.left.jobs.mode a z) part ≡ true
  -- no older job is wounded, and only one that has not ended can stop the walk
  pub older : (i : ℕ) → i ≤ a → wl.left.jobs.status i ≡ l.jobs.status i
  pub stopped : wl.complete ≡ false → (i : ℕ) × (i < a) × (is_ended (l.jobs.status i) ≡ false)
  pub covers : wl.complete ≡ true → (covered y.system (wl.left.jobs.mode a) k xs ≡ true) ⊎ (xs ≡ [])

stepped_as :
    {y : Layout} {start : List ℕ} {k : Kind} {a : ℕ} {l : Ledger} {xs : List ℕ} {wl wl' : Walked Ledger} {wm wm' : Walked Model}
    → wl ≡ wl' → wm ≡ wm' → Stepped y start k a l xs wl' wm' → Stepped y start k a l xs wl wm
stepped_as e d h = rw (e, d) h

module _ {y : Layout} (law : Lawful y.system) {start : List ℕ} (fits : Fit start) (k : Kind) (g a : ℕ) where
  -- one granule of the way
  module _ (x : ℕ) (xs : List ℕ) {l : Ledger} {ws : List ℕ} {notes : ℕ → ℕ → Note} (kept : Kept y start l ws notes)
      (open_a : is_open (l.jobs.status a) ≡ true) (ends : Ends g (x ∷ xs))
      (full : has y.system (l.jobs.mode a x) (y.system.full k) ≡ false) where
    -- what is wanted there, and who gives way
    abbrev wants : ℕ
    wants = target y.system k g x (l.jobs.mode a x)

    abbrev hurt : ℕ → Bool
    hurt = yields y.system l.jobs a x wants

    abbrev ledger₁ : Ledger
    ledger₁ = ledger_hands.wound hurt l

    abbrev words₁ : List ℕ
    words₁ = all_taken_back hurt notes (suc l.jobs.opened) ws

    abbrev notes₁ : ℕ → ℕ → Note
    notes₁ = where_so hurt (λ _. nothing) notes

    -- who is in the way is open
    way_open : (i : ℕ) → y.system.stands (l.jobs.mode i x) wants ≡ false → is_open (l.jobs.status i) ≡ true
    way_open i e = grind (arith, nat_tests, in_the_way y.system law l.jobs a x wants i e, kept.idle i x)

    hurt_open : (i : ℕ) → hurt i ≡ true → is_open (l.jobs.status i) ≡ true
    hurt_open i e = way_open i (yields_young y.system law l.jobs a x wants i e).1

    older₁ : (i : ℕ) → i ≤ a → ledger₁.jobs.status i ≡ l.jobs.status i
    older₁ i h = grind (arith, nat_tests)

    kept₁ : Kept y start ledger₁ words₁ notes₁
    kept₁ = wound_kept law fits kept hurt hurt_open

    mode₁ : ledger₁.jobs.mode a ≡ l.jobs.mode a
    mode₁ = where_false hurt (λ _. 0) l.jobs.mode a (grind (arith, nat_tests))

    still₁ : (z part : ℕ) → has y.system (l.jobs.mode a z) part ≡ true → has y.system (ledger₁.jobs.mode a z) part ≡ true
    still₁ z part h = rw mode₁ h

    on_stop :
        some_below a (blocks y.system l.jobs a x wants) ≡ true
        → Stepped y start k a l (x ∷ xs) (record { left = ledger₁; complete = false }) (record { left = model_of ledger₁ words₁ notes₁; complete = false })
    on_stop held =
        record {
          words = words₁;
          notes = notes₁;
          model = refl;
          complete = refl;
          kept = kept₁;
          older = older₁;
          stopped =
              λ _.
              let b = some_at a (blocks y.system l.jobs a x wants) held in
              let old = blocks_old y.system law l.jobs a x wants b.0 b.2 in
              (b.0, b.1, open_not_ended (l.jobs.status b.0) (way_open b.0 old.1));
          still = still₁;
          covers = λ c. absurd (both_ways false refl c);
        }

    -- the rest of the way, from a ledger in which the job has all that it had, and here what it is to have
    onward :
        (l' : Ledger) → ((i : ℕ) → i ≤ a → l'.jobs.status i ≡ l.jobs.status i)
        → ((z part : ℕ) → has y.system (l.jobs.mode a z) part ≡ true → has y.system (l'.jobs.mode a z) part ≡ true)
        → (x ≡ g → has y.system (l'.jobs.mode a x) (y.system.full k) ≡ true)
        → ((x ≡ g → ⊥) → has y.system (l'.jobs.mode a x) (y.system.intent k) ≡ true) → (wl : Walked Ledger) (wm : Walked Model)
        → Stepped y start k a l' xs wl wm → Stepped y start k a l (x ∷ xs) wl wm
    onward l' same more there above wl wm next =
        record {
          words = next.words;
          notes = next.notes;
          model = next.model;
          complete = next.complete;
          kept = next.kept;
          older = λ i h. next.older i h ∙ same i h;
          stopped = λ c. let b = next.stopped c in (b.0, b.1, rw (← same b.0 (omega (arith, b.1))) b.2);
          still = λ z part h. next.still z part (more z part h);
          covers =
              λ c.
              elim (cases_eq x g) [
                | inl e ↦ inl (grind (arith, nat_tests, next.still x (y.system.full k) (there e)))
                | inr e ↦
                    elim (next.covers c) [
                      | inl rest ↦ inl (grind (arith, nat_tests, next.still x (y.system.intent k) (above e)))
                      | inr nil ↦ absurd (e (ends_last g x xs ends nil))
                    ]
              ];
        }

    -- the same target needs nothing: the intent is there, and this is not yet the last granule
    on_same :
        (wl : Walked Ledger) (wm : Walked Model) → eqb wants (l.jobs.mode a x) ≡ true → Stepped y start k a l xs wl wm
        → Stepped y start k a l (x ∷ xs) wl wm
    on_same wl wm same next =
        onward l (λ i h. refl) (λ z part h. h) (λ e. grind (arith, nat_tests)) (λ e. grind (arith, nat_tests)) wl wm next

    -- nobody is in the way: the target becomes its mode
    module _ (free : some_below a (blocks y.system l.jobs a x wants) ≡ false) where
      abbrev ledger₂ : Ledger
      ledger₂ = ledger_hands.with_jobs (raise a x wants ledger₁.jobs) ledger₁

      open₁ : is_open (ledger₁.jobs.status a) ≡ true
      open₁ = ap is_open (older₁ a (omega arith)) ∙ open_a

      alone₁ : (i : ℕ) → (i ≡ a → ⊥) → y.system.stands (ledger₁.jobs.mode i x) wants ≡ true
      alone₁ i d =
          where_cases (λ f. y.system.stands (f x) wants ≡ true) hurt (λ _. 0) l.jobs.mode i (λ _. law.stands_none wants)
          (stands_or_yields y.system law l.jobs a x wants free i d)

      rises₁ : (part : ℕ) → has y.system (ledger₁.jobs.mode a x) part ≡ true → has y.system wants part ≡ true
      rises₁ part h = target_rises y.system law k g x (l.jobs.mode a x) part (rw mode₁ at h)

      kept₂ : Kept y start ledger₂ words₁ notes₁
      kept₂ = raise_kept law fits kept₁ a x wants open₁ alone₁ rises₁

      mode₂ : ledger₂.jobs.mode a x ≡ wants
      mode₂ = rw put_same (put_same x wants (ledger₁.jobs.mode a))

      on_go : (wl : Walked Ledger) (wm : Walked Model) → Stepped y start k a ledger₂ xs wl wm → Stepped y start k a l (x ∷ xs) wl wm
      on_go wl wm next =
          onward ledger₂ older₁
          (λ z part h. has_still law fits kept₁ a x wants open₁ alone₁ rises₁ z part (still₁ z part h))
          (λ e. rw (mode₂, target_at y.system k g x (l.jobs.mode a x) e) (has_joined y.system law _ _ (law.full_within k)))
          (λ e. rw (mode₂, target_above y.system k g x (l.jobs.mode a x) e) (has_joined y.system law _ _ (law.intent_within k)))
          wl wm next

  -- a walk that is complete where it stands
  done :
      (xs : List ℕ) {l : Ledger} {ws : List ℕ} {notes : ℕ → ℕ → Note} → Kept y start l ws notes
      → (covered y.system (l.jobs.mode a) k xs ≡ true) ⊎ (xs ≡ [])
      → Stepped y start k a l xs (record { left = l; complete = true }) (record { left = model_of l ws notes; complete = true })
  done xs {l = l} {ws = ws} {notes = notes} kept covers =
      record {
        words = ws;
        notes = notes;
        model = refl;
        complete = refl;
        kept = kept;
        older = λ i h. refl;
        stopped = λ c. absurd (both_ways true c refl);
        still = λ z part h. h;
        covers = λ _. covers;
      }

  pub walk_kept :
      (xs : List ℕ) {l : Ledger} {ws : List ℕ} {notes : ℕ → ℕ → Note} → Kept y start l ws notes → is_open (l.jobs.status a) ≡ true → Ends g xs
      → Stepped y start k a l xs (walk ledger_hands y.system k g a xs l) (walk model_hands y.system k g a xs (model_of l ws notes))
  walk_kept [] kept open_a ends = done [] kept (inr refl)
  walk_kept (x ∷ xs) {l = l} {ws = ws} {notes = notes} kept open_a ends =
      let s = y.system in
      let m = l.jobs.mode a x in
      let t = target s k g x m in
      let mo = model_of l ws notes in
      elim (cases_Bool (has s m (s.full k))) [
        | inl full ↦
            stepped_as (walk_covered ledger_hands s k g a x xs l full) (walk_covered model_hands s k g a x xs mo full)
            (done (x ∷ xs) kept (inl (or_left _ _ full)))
        | inr full ↦
            elim (cases_Bool (eqb t m)) [
              | inl same ↦
                  stepped_as (walk_same ledger_hands s k g a x xs l full same) (walk_same model_hands s k g a x xs mo full same)
                  (on_same x xs kept open_a ends full _ _ same (walk_kept xs kept open_a (ends_tail g x xs ends)))
              | inr differs ↦
                  elim (cases_Bool (some_below a (blocks s l.jobs a x t))) [
                    | inl held ↦
                        stepped_as (walk_stops ledger_hands s k g a x xs l full differs held) (walk_stops model_hands s k g a x xs mo full differs held)
                        (on_stop x xs kept open_a ends full held)
                    | inr free ↦
                        stepped_as (walk_goes ledger_hands s k g a x xs l full differs free) (walk_goes model_hands s k g a x xs mo full differs free)
                        (on_go x xs kept open_a ends full free _ _
                        (walk_kept xs (kept₂ x xs kept open_a ends full free) (open₁ x xs kept open_a ends full free) (ends_tail g x xs ends)))
                  ]
            ]
      ]

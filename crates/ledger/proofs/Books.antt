-- The books of a state: which steps are in the words, and what the notes say of them. They stay right when a job is
-- taken back, carries out an operation, or commits.
use Rattle.std.proofs.Common.{◌≡◌, ℕ, suc, ◌+◌, ◌%◌, ◌<◌, ◌≤◌, Bool, true, false, ◌&&◌, ◌||◌, List, [], ◌∷◌, ◌++◌, length, get_or, sym, refl, ap, ◌∙◌, subst, inl, inr, append_assoc, append-nil, arith}
use mathlib.Core.Path.{fun_ext}
use Rattle.std.specs.List.{AllByRecursion}
use Rattle.std.proofs.lemmas.Bool.Decides.{nat_tests}
use Rattle.std.proofs.lemmas.List.{ext_get_or, get_or_past}
use Rattle.std.proofs.lemmas.Bool.{cases_lt, cases_Bool}
use Rattle.shelf.specs.Words.{Fit}
use Rattle.granules.specs.Paths.{record_beneath}
use Rattle.operations.specs.declared.operation.Action.{Action}
use Rattle.operations.specs.declared.operation.Action.TheVariants.{Read, Mean, Set, Add}
use Rattle.operations.specs.declared.operation.Operation.{Operation}
use Rattle.operations.specs.Actions.{changed}
use Rattle.operations.specs.Words.{answer, after, left_at}
use Rattle.operations.specs.Alone.{Step, Alone}
use Rattle.operations.proofs.Places.{length_each, get_or_each}
use Rattle.operations.proofs.Steps.{alone_push}
use Rattle.ledger.specs.Collisions.{Apart, ListsApart}
use Rattle.ledger.specs.Jobs.{put}
use Rattle.ledger.specs.Models.{Note, nothing, added, put_back, back, noted, noted_add, taken_back}
use Rattle.ledger.proofs.Swaps.{left_in, left_out, length_after, word_after}
use Rattle.ledger.proofs.Runs.{effect, split, join, same_end, alike_after, effect_++, run_length, run_at, apart_one, apart_push, apart_sym}
use Rattle.ledger.proofs.Piles.{put_same, put_at, put_other, put_cases, pile, pile_ext, Pairwise, pairwise_clear, last, first}

-- a step that sets a record
abbrev pub is_set : Action → Bool
is_set Read = false
is_set Mean = false
is_set (Set w) = true
is_set (Add w) = false

abbrev pub sets_at : List ℕ → ℕ → List Step → Bool
sets_at ps r [] = false
sets_at ps r (s ∷ ss) = (is_set s.0.action && record_beneath ps s.0.granule r) || sets_at ps r ss

pub sets_++ : (ps : List ℕ) (r : ℕ) (xs ys : List Step) → sets_at ps r (xs ++ ys) ≡ (sets_at ps r xs || sets_at ps r ys)
sets_++ ps r [] ys = refl
sets_++ ps r (x ∷ xs) ys = grind (arith, nat_tests, sets_++ ps r xs ys)

module _ (ps : List ℕ) where
  -- An operation carried out leaves each word within 32 bits.
  effect_fits : (ss : List Step) (r w : ℕ) → w < 4294967296 → effect ps ss r w < 4294967296
  effect_fits [] r w h = h
  effect_fits (s ∷ ss) r w h = effect_fits ss r (left_at ps s.0 r w) (grind (arith, nat_tests))

  pub run_fits : (ss : List Step) (ws out : List ℕ) → Fit ws → Alone ps ws ss out → Fit out
  run_fits ss ws out f a r =
      elim (cases_lt r (length ws)) [
        | inl l ↦ subst (λ (x : ℕ). x < 4294967296) (sym (run_at ps ss ws out a r l)) (effect_fits ss r (get_or ws r 0) (f r))
        | inr l ↦ omega (arith, get_or_past out r 0 (omega (arith, run_length ps ss ws out a)))
      ]

  -- where one job has set, an operation that is apart from it does not reach
  pub set_shuts :
      (ss : List Step) (r : ℕ) (o : Operation) → sets_at ps r ss ≡ true → AllByRecursion (λ s. Apart ps s.0 o) ss
      → record_beneath ps o.granule r ≡ false
  set_shuts [] r o e h = cc
  set_shuts (s ∷ ss) r o e h = grind (arith, nat_tests, h.0 r, set_shuts ss r o)

  -- nor does a list of them
  pub set_shuts_all :
      (ss ts : List Step) (r : ℕ) → sets_at ps r ss ≡ true → ListsApart ps ts ss → (w : ℕ) → effect ps ts r w ≡ w
  set_shuts_all ss [] r e h w = refl
  set_shuts_all ss (t ∷ ts) r e h w =
      ap (effect ps ts r)
      (left_out ps t.0 r w (set_shuts ss r t.0 e (apart_one ps t ss h.0)))
      ∙ set_shuts_all ss ts r e h.1 w

-- A note of job k on record r is right, where `live` has the steps of the jobs below n that are in the words after those
-- in `done`: nothing says that its steps leave each word there; a sum, that they add it; a word to put back, that it
-- has set the record, and that the word is the one that the others alone would leave there.
abbrev pub RightNote : List ℕ → List ℕ → List Step → (ℕ → List Step) → ℕ → ℕ → ℕ → Note → Type 0
RightNote ps start done live n k r nothing = (w : ℕ) → effect ps (live k) r w ≡ w
RightNote ps start done live n k r (added m) =
    (m < 4294967296) × ((w : ℕ) → w < 4294967296 → effect ps (live k) r w ≡ (w + m) % 4294967296)
RightNote ps start done live n k r (put_back v) =
    (sets_at ps r (live k) ≡ true)
    × ((mid : List ℕ) → Alone ps start (done ++ pile (put k [] live) n) mid → v ≡ get_or mid r 0)

-- The books are right.
pub record Good (ps start : List ℕ) (done : List Step) (live : ℕ → List Step) (n : ℕ) (ws : List ℕ) (notes : ℕ → ℕ → Note) : Type 0 where
  pub pairwise : Pairwise ps live
  pub beyond : (k : ℕ) → n ≤ k → live k ≡ []
  pub serial : Alone ps start (done ++ pile live n) ws
  pub right : (k r : ℕ) → r < length ws → RightNote ps start done live n k r (notes k r)

module _ (ps start : List ℕ) (fits : Fit start) where
  -- the run of lists that are pairwise apart, with that of one job moved
  module _ (done : List Step) (live : ℕ → List Step) (n : ℕ) (pair : Pairwise ps live) (k : ℕ) (l : k < n) where
    -- that job last: what the others leave, and what it does to that; and back again
    apart_from :
        (ws : List ℕ) → Alone ps start (done ++ pile live n) ws
        → (mid : List ℕ) × Alone ps start (done ++ pile (put k [] live) n) mid × Alone ps mid (live k) ws
    apart_from ws a =
        split ps (done ++ pile (put k [] live) n) (live k) start ws
        (rw append_assoc (alike_after ps done (pile live n) (pile (put k [] live) n ++ live k) (last ps live pair k n l).0 start ws a))

    together :
        (mid ws : List ℕ) → Alone ps start (done ++ pile (put k [] live) n) mid → Alone ps mid (live k) ws
        → Alone ps start (done ++ pile live n) ws
    together mid ws a b =
        alike_after ps done (pile (put k [] live) n ++ live k) (pile live n) (last ps live pair k n l).1 start ws
        (rw append_assoc at (join ps (done ++ pile (put k [] live) n) (live k) start mid ws a b))

    -- its steps before those of the others, and back again
    to_front : (ws : List ℕ) → Alone ps start (done ++ pile live n) ws → Alone ps start ((done ++ live k) ++ pile (put k [] live) n) ws
    to_front ws a =
        rw append_assoc (alike_after ps done (pile live n) (live k ++ pile (put k [] live) n) (first ps live pair k n l).0 start ws a)

    from_front : (ws : List ℕ) → Alone ps start ((done ++ live k) ++ pile (put k [] live) n) ws → Alone ps start (done ++ pile live n) ws
    from_front ws a =
        alike_after ps done (live k ++ pile (put k [] live) n) (pile live n) (first ps live pair k n l).1 start ws (rw append_assoc at a)

  -- a right note gives back the word of the others
  back_right :
      (done : List Step) (live : ℕ → List Step) (n k r : ℕ) (note : Note) (mid : List ℕ) (w : ℕ) → RightNote ps start done live n k r note
      → Alone ps start (done ++ pile (put k [] live) n) mid → get_or mid r 0 < 4294967296 → w ≡ effect ps (live k) r (get_or mid r 0)
      → back note w ≡ get_or mid r 0
  back_right done live n k r nothing mid w h a f e = e ∙ h (get_or mid r 0)
  back_right done live n k r (added m) mid w h a f e =
      let x = h.1 (get_or mid r 0) f in
      let s : w ≡ (get_or mid r 0 + m) % 4294967296 = e ∙ x in
      omega (arith, h.0)
  back_right done live n k r (put_back v) mid w h a f e = h.1 mid a

  module _ {done : List Step} {live : ℕ → List Step} {n : ℕ} {ws : List ℕ} {notes : ℕ → ℕ → Note}
      (good : Good ps start done live n ws notes) where
    -- To take a job back gives exactly the words of the others.
    pub without : (k : ℕ) → k < n → Alone ps start (done ++ pile (put k [] live) n) (taken_back (notes k) ws)
    without k l =
        let p = apart_from done live n good.pairwise k l ws good.serial in
        let mid = p.0 in
        let back_at : ℕ → ℕ → ℕ = λ r w. back (notes k r) w in
        let long : length (taken_back (notes k) ws) ≡ length ws = length_each 0 back_at ws in
        let same : length ws ≡ length mid = run_length ps (live k) mid ws p.2 in
        let e : taken_back (notes k) ws ≡ mid =
        ext_get_or 0 (taken_back (notes k) ws) mid (long ∙ same)
        (λ r h.
        get_or_each back_at ws r (omega arith)
        ∙ back_right done live n k r (notes k r) mid (get_or ws r 0) (good.right k r (omega arith)) p.1
        (run_fits ps (done ++ pile (put k [] live) n) start mid fits p.1 r)
        (run_at ps (live k) mid ws p.2 r (omega arith)))
        in
        subst (λ (xs : List ℕ). Alone ps start (done ++ pile (put k [] live) n) xs) (sym e) p.1

  -- A note stays right if its job's steps do, and if, where the job has set, what the others leave stays what it was.
  carry_over :
      (done done' : List Step) (live live' : ℕ → List Step) (n n' k r : ℕ) (note : Note) → live' k ≡ live k
      → ((mid : List ℕ) → sets_at ps r (live k) ≡ true → Alone ps start (done' ++ pile (put k [] live') n') mid
      → (old : List ℕ) × Alone ps start (done ++ pile (put k [] live) n) old × (get_or old r 0 ≡ get_or mid r 0))
      → RightNote ps start done live n k r note → RightNote ps start done' live' n' k r note
  carry_over done done' live live' n n' k r nothing e b h = λ w. ap (λ (xs : List Step). effect ps xs r w) e ∙ h w
  carry_over done done' live live' n n' k r (added m) e b h = (h.0, λ w f. ap (λ (xs : List Step). effect ps xs r w) e ∙ h.1 w f)
  carry_over done done' live live' n n' k r (put_back v) e b h = (
    ap (sets_at ps r) e ∙ h.0,
    λ mid a. let o = b mid h.0 a in h.1 o.0 o.1 ∙ o.2,
  )

  -- a job without steps has nothing to note
  blank_note : (done : List Step) (live : ℕ → List Step) (n k r : ℕ) → live k ≡ [] → RightNote ps start done live n k r nothing
  blank_note done live n k r e w = ap (λ (xs : List Step). effect ps xs r w) e

  -- the same books under other names of the same functions
  pub good_ext :
      {done : List Step} {live live' : ℕ → List Step} {n : ℕ} {ws : List ℕ} {notes notes' : ℕ → ℕ → Note} → ((k : ℕ) → live k ≡ live' k)
      → ((k : ℕ) → notes k ≡ notes' k) → Good ps start done live n ws notes → Good ps start done live' n ws notes'
  good_ext e d g = rw (← fun_ext d, ← fun_ext e) g

  module _ {done : List Step} {live : ℕ → List Step} {n : ℕ} {ws : List ℕ} {notes : ℕ → ℕ → Note}
      (good : Good ps start done live n ws notes) where
    inside : (k r : ℕ) → sets_at ps r (live k) ≡ true → k < n
    inside k r e = elim (cases_lt k n) [ inl l ↦ l | inr l ↦ absurd (let none = good.beyond k l in grind (arith, nat_tests)) ]

    -- Job k without its steps and notes, whatever is done with them: the notes of the others stay right if, where one of them
    -- has set, what the rest leave stays what it was.
    drop_one :
        (k : ℕ) (done' : List Step) (ws' : List ℕ) → length ws' ≡ length ws → Alone ps start (done' ++ pile (put k [] live) n) ws'
        → ((j r : ℕ) → (j ≡ k → ⊥) → r < length ws → sets_at ps r (live j) ≡ true → (mid : List ℕ)
        → Alone ps start (done' ++ pile (put k [] (put j [] live)) n) mid
        → (old : List ℕ) × Alone ps start (done ++ pile (put j [] live) n) old × (get_or old r 0 ≡ get_or mid r 0))
        → Good ps start done' (put k [] live) n ws' (put k (λ _. nothing) notes)
    drop_one k done' ws' long run rest =
        let g = put k [] live in
        record {
          pairwise = pairwise_clear ps live good.pairwise k;
          beyond = λ j h. put_cases (λ xs. xs ≡ []) k [] live j (λ _. refl) (λ _. good.beyond j h);
          serial = run;
          right =
              λ j r h.
              let within : r < length ws = omega arith in
              put_cases (λ x. RightNote ps start done' g n j r (x r)) k (λ _. nothing) notes j
              (λ e. blank_note done' g n j r (put_at k [] live j e))
              (λ e.
              carry_over done done' live g n n j r (notes j r) (put_other k [] live j e)
              (λ mid set a.
              let again : pile (put j [] g) n ≡ pile (put k [] (put j [] live)) n =
              pile_ext (put j [] g) (put k [] (put j [] live)) n (λ i _. grind (arith, nat_tests))
              in
              rest j r e within set mid (rw (← again) a))
              (good.right j r within));
        }

    -- One job taken back.
    pub clear_one : (k : ℕ) → k < n → Good ps start done (put k [] live) n (taken_back (notes k) ws) (put k (λ _. nothing) notes)
    clear_one k l =
        drop_one k done (taken_back (notes k) ws) (length_each 0 (λ r w. back (notes k r) w) ws) (without good k l)
        (λ j r e within set mid a.
        let f = put j [] live in
        let p = apart_from done live n good.pairwise j (inside j r set) ws good.serial in
        let q = apart_from done f n (pairwise_clear ps live good.pairwise j) k l p.0 p.1 in
        let here : f k ≡ live k = put_other j [] live k (λ (z : k ≡ j). e (sym z)) in
        let ends : q.0 ≡ mid = same_end ps (done ++ pile (put k [] f) n) start q.0 mid q.1 a in
        let len : r < length q.0 = omega (arith, run_length ps (f k) q.0 p.0 q.2, run_length ps (live j) p.0 ws p.2) in (
          p.0,
          p.1,
          run_at ps (f k) q.0 p.0 q.2 r len
              ∙ ap (λ (xs : List Step). effect ps xs r (get_or q.0 r 0)) here
              ∙ set_shuts_all ps (live j) (live k) r set (good.pairwise k j (λ (z : k ≡ j). e (sym z))) (get_or q.0 r 0)
              ∙ ap (λ (xs : List ℕ). get_or xs r 0) ends,
        ))

    -- A job that commits: its steps go to the end of those done.
    pub commit_one : (k : ℕ) → k < n → Good ps start (done ++ live k) (put k [] live) n ws (put k (λ _. nothing) notes)
    commit_one k l =
        drop_one k (done ++ live k) ws refl (to_front done live n good.pairwise k l ws good.serial)
        (λ j r e within set mid a.
        let here : put j [] live k ≡ live k = put_other j [] live k (λ (z : k ≡ j). e (sym z)) in (
          mid,
          from_front done (put j [] live) n (pairwise_clear ps live good.pairwise j) k l mid (rw here a),
          refl,
        ))

    -- One number more, which has no steps.
    pub more : Good ps start done live (suc n) ws notes
    more =
        let none : live n ≡ [] = good.beyond n (omega arith) in
        record {
          pairwise = good.pairwise;
          beyond = λ k h. good.beyond k (omega arith);
          serial = rw (none, append-nil) good.serial;
          right =
              λ k r h.
              carry_over done done live live n (suc n) k r (notes k r) refl
              (λ mid set a.
              let gone : put k [] live n ≡ [] = put_cases (λ xs. xs ≡ []) k [] live n (λ _. refl) (λ _. none) in
              (mid, rw (gone, append-nil) at a, refl))
              (good.right k r h);
        }

    -- An operation of job j that is apart from the steps of all others.
    pub carry_one :
        (j : ℕ) (o : Operation) → j < n → ((i : ℕ) → (i ≡ j → ⊥) → AllByRecursion (λ s. Apart ps s.0 o) (live i))
        → Good ps start done (put j (live j ++ (o, answer ps o ws) ∷ []) live) n (after ps o ws)
        (put j (λ r. elim (record_beneath ps o.granule r) [ true ↦ noted o.action (get_or ws r 0) (notes j r) | false ↦ notes j r ]) notes)
    carry_one j o l apart =
        record {
          pairwise = wide;
          beyond = λ k h. put_other j longer live k (λ (z : k ≡ j). omega arith) ∙ good.beyond k h;
          serial =
              together done live' n wide j l others.0 (after ps o ws) (rw cleared others.1)
              (rw (put_same j longer live) (alone_push ps others.0 (live j) step ws (after ps o ws) others.2 refl refl));
          right =
              λ k r h.
              let in_words : r < length ws = omega (arith, length_after ps o ws) in
              put_cases (λ x. RightNote ps start done live' n k r (x r)) j notes_j notes k (λ e. rw e (own r in_words))
              (λ e.
              carry_over done done live live' n n k r (notes k r) (put_other j longer live k e) (other k r in_words e) (good.right k r in_words));
        }
      where
        step : Step
        step = (o, answer ps o ws)

        longer : List Step
        longer = live j ++ step ∷ []

        live' : ℕ → List Step
        live' = put j longer live

        notes_j : ℕ → Note
        notes_j r = elim (record_beneath ps o.granule r) [ true ↦ noted o.action (get_or ws r 0) (notes j r) | false ↦ notes j r ]

        others : (mid : List ℕ) × Alone ps start (done ++ pile (put j [] live) n) mid × Alone ps mid (live j) ws
        others = apart_from done live n good.pairwise j l ws good.serial

        cleared : pile (put j [] live') n ≡ pile (put j [] live) n
        cleared = pile_ext (put j [] live') (put j [] live) n (λ i _. grind (arith, nat_tests))

        wide : Pairwise ps live'
        wide i k d =
            put_cases (λ xs. ListsApart ps xs (live' k)) j longer live i
            (λ a.
            let c : k ≡ j → ⊥ = λ z. d (a ∙ sym z) in
            rw (put_other j longer live k c)
            (apart_sym ps (live k) longer (apart_push ps (live k) (live j) step (good.pairwise k j c) (apart k c))))
            (λ a.
            put_cases (ListsApart ps (live i)) j longer live k
            (λ _. apart_push ps (live i) (live j) step (good.pairwise i j a) (apart i a)) (λ _. good.pairwise i k d))

        -- what the others of another job leave where that job has set
        other :
            (k r : ℕ) → r < length ws → (k ≡ j → ⊥) → (mid : List ℕ) → sets_at ps r (live k) ≡ true
            → Alone ps start (done ++ pile (put k [] live') n) mid
            → (old : List ℕ) × Alone ps start (done ++ pile (put k [] live) n) old × (get_or old r 0 ≡ get_or mid r 0)
        other k r h e mid set a =
            let f = put k [] live in
            let f' = put k [] live' in
            let c : j ≡ k → ⊥ = λ z. e (sym z) in
            let q = apart_from done f' n (pairwise_clear ps live' wide k) j l mid a in
            let here : f' j ≡ longer = put_other k [] live' j c ∙ put_same j longer live in
            let parts = split ps (live j) (step ∷ []) q.0 mid (rw here at q.2) in
            let old = parts.0 in
            let same : pile (put j [] f') n ≡ pile (put j [] f) n =
            pile_ext (put j [] f') (put j [] f) n (λ i _. grind (arith, nat_tests))
            in
            let run : Alone ps start (done ++ pile f n) old =
            together done f n (pairwise_clear ps live good.pairwise k) j l q.0 old (rw same at q.1) (rw (put_other k [] live j c) parts.1)
            in
            let long : r < length old =
            omega (arith, run_length ps (done ++ pile f n) start old run, run_length ps (done ++ pile live n) start ws good.serial)
            in
            let ends : mid ≡ after ps o old = parts.2.1 in (
              old,
              run,
              sym
                  (ap (λ (xs : List ℕ). get_or xs r 0) ends
                  ∙ word_after ps o old r long
                  ∙ left_out ps o r (get_or old r 0) (set_shuts ps (live k) r o set (apart k e))
                  ),
            )

        -- what the job's own steps now do to a place
        longer_at : (r w : ℕ) → effect ps (live' j) r w ≡ left_at ps o r (effect ps (live j) r w)
        longer_at r w =
            ap (λ (xs : List Step). effect ps xs r w) (put_same j longer live) ∙ effect_++ ps (live j) (step ∷ []) r w

        set_before : (r : ℕ) → sets_at ps r (live j) ≡ true → sets_at ps r (live' j) ≡ true
        set_before r e = grind (arith, nat_tests, put_same j longer live, sets_++ ps r (live j) (step ∷ []))

        alone_old : (mid : List ℕ) → Alone ps start (done ++ pile (put j [] live') n) mid → Alone ps start (done ++ pile (put j [] live) n) mid
        alone_old mid a = rw cleared at a

        -- an operation that leaves the record leaves the note right
        own_still :
            (r : ℕ) (note : Note) → ((w : ℕ) → left_at ps o r w ≡ w) → RightNote ps start done live n j r note
            → RightNote ps start done live' n j r note
        own_still r nothing e h = λ w. longer_at r w ∙ e (effect ps (live j) r w) ∙ h w
        own_still r (added m) e h = (h.0, λ w f. longer_at r w ∙ e (effect ps (live j) r w) ∙ h.1 w f)
        own_still r (put_back v) e h = (set_before r h.0, λ mid a. h.1 mid (alone_old mid a))

        own_add :
            (r m : ℕ) (note : Note) → ((w : ℕ) → left_at ps o r w ≡ (w + m) % 4294967296) → RightNote ps start done live n j r note
            → RightNote ps start done live' n j r (noted_add note m)
        own_add r m nothing e h = (omega arith, λ w f. omega (arith, longer_at r w, e (effect ps (live j) r w), h w))
        own_add r m (added k) e h = (omega arith, λ w f. omega (arith, longer_at r w, e (effect ps (live j) r w), h.1 w f))
        own_add r m (put_back v) e h = (set_before r h.0, λ mid a. h.1 mid (alone_old mid a))

        own_set : (r : ℕ) → r < length ws → (v : ℕ) → o.action ≡ Set v → record_beneath ps o.granule r ≡ true
            → RightNote ps start done live' n j r (put_back (back (notes j r) (get_or ws r 0)))
        own_set r h v e t = (
          grind (arith, nat_tests, put_same j longer live, sets_++ ps r (live j) (step ∷ [])),
          λ mid a.
              let ends : others.0 ≡ mid =
              same_end ps (done ++ pile (put j [] live) n) start others.0 mid others.1 (alone_old mid a)
              in
              back_right done live n j r (notes j r) mid (get_or ws r 0) (good.right j r h) (alone_old mid a)
              (run_fits ps (done ++ pile (put j [] live) n) start mid fits (alone_old mid a) r)
              (run_at ps (live j) others.0 ws others.2 r (omega (arith, run_length ps (live j) others.0 ws others.2))
              ∙ ap (λ (xs : List ℕ). effect ps (live j) r (get_or xs r 0)) ends),
        )

        own_touched : (r : ℕ) → r < length ws → record_beneath ps o.granule r ≡ true → (a : Action) → o.action ≡ a
            → ((w : ℕ) → left_at ps o r w ≡ changed a w) → RightNote ps start done live' n j r (noted a (get_or ws r 0) (notes j r))
        own_touched r h t Read e s = own_still r (notes j r) s (good.right j r h)
        own_touched r h t Mean e s = own_still r (notes j r) s (good.right j r h)
        own_touched r h t (Set v) e s = own_set r h v e t
        own_touched r h t (Add m) e s = own_add r m (notes j r) s (good.right j r h)

        own : (r : ℕ) → r < length ws → RightNote ps start done live' n j r (notes_j r)
        own r h =
            elim (cases_Bool (record_beneath ps o.granule r)) [
              | inl t ↦ rw (t, notes_j) (own_touched r h t o.action refl (λ w. left_in ps o r w t))
              | inr t ↦ rw (t, notes_j) (own_still r (notes j r) (λ w. left_out ps o r w t) (good.right j r h))
            ]

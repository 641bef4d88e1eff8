-- The promise, after any list of calls.
use Rattle.std.proofs.Common.{◌≡◌, ℕ, suc, ◌<◌, true, ◌⊎◌, List, [], ◌∷◌, ◌++◌, None, sym, refl, subst, arith}
use Rattle.std.proofs.lemmas.Bool.Decides.{nat_tests}
use Rattle.modes.specs.Systems.{Lawful}
use Rattle.shelf.specs.Words.{Fit}
use Rattle.granules.specs.Tables.{fault, rooted}
use Rattle.granules.proofs.Climbs.{Falls, falls}
use Rattle.operations.specs.Alone.{Step, Alone}
use Rattle.ledger.specs.declared.call.Call.{Call}
use Rattle.ledger.specs.Jobs.{is_open, put}
use Rattle.ledger.specs.Ledgers.{Layout, Ledger, Event, blank, next, written}
use Rattle.ledger.specs.Promises.{Serial, EachEvent, count_of, in_turn}
use Rattle.ledger.specs.Models.{Note, nothing, Model, fresh, serve, history, served, taken_back}
use Rattle.ledger.specs.Theorems.{PromiseKept, OldestNeverWaits, EachGoesOn, CoveredDoNotCollide, ArrangesWithout, TakeBackExact}
use Rattle.ledger.proofs.Runs.{alike_after}
use Rattle.ledger.proofs.Piles.{pile, Pairwise, pairwise_clear}
use Rattle.ledger.proofs.Orders.{arranged, in_turn_ext}
use Rattle.ledger.proofs.Books.{without}
use Rattle.ledger.proofs.Kept.{Kept, live, open_not_ended, given}
use Rattle.ledger.proofs.Walking.{model_of}
use Rattle.ledger.proofs.Serves.{served_kept}
use Rattle.ledger.proofs.Covers.{apart_lists}

-- a table that is admitted is rooted
admitted : (parents : List ℕ) (words : ℕ) → fault parents words ≡ None → rooted parents ≡ true
admitted parents words e = grind (arith, nat_tests)

-- with no job nothing can be wrong
module _ (y : Layout) (law : Lawful y.system) (start : List ℕ) where
  pub blank_kept : Kept y start blank start (λ _ _. nothing)
  blank_kept =
      record {
        standing = λ i j x d. law.stands_none 0;
        idle = λ k x o. refl;
        covers = λ k. tt;
        books =
            record { pairwise = λ i j d. tt; beyond = λ k h. refl; serial = refl; right = λ k r h w. refl };
        unopened = λ k h. refl;
        unused = λ k h. (refl, refl);
        clean = λ k w. refl;
        ordered = λ k o. refl;
      }

-- A pile of lists that are apart runs alike in every arrangement of those that are not empty.
in_order :
    (ps start : List ℕ) (done : List Step) (g steps : ℕ → List Step) (n : ℕ) (ks : List ℕ) → Pairwise ps g
    → ((k : ℕ) → ((count_of k ks ≡ 1) × (k < n)) ⊎ (g k ≡ [])) → ((k : ℕ) → (count_of k ks ≡ 0) ⊎ (g k ≡ steps k)) → (out : List ℕ)
    → Alone ps start (done ++ pile g n) out → Alone ps start (done ++ in_turn steps ks) out
in_order ps start done g steps n ks pair once same out a =
    rw (← in_turn_ext g steps ks same) (alike_after ps done (pile g n) (in_turn g ks) (arranged ps g pair n ks once) start out a)

module _ (y : Layout) (law : Lawful y.system) (f : Falls y.parents) (start : List ℕ) (fit : Fit start) where
  -- Serial order, from the books.
  pub serial : (l : Ledger) (ws : List ℕ) (notes : ℕ → ℕ → Note) → Kept y start l ws notes → Serial y start l ws
  serial l ws notes kept ks arr =
      in_order y.parents start (in_turn l.steps l.order) (live l) l.steps (suc l.jobs.opened) ks kept.books.pairwise
      (λ k. grind (arith, nat_tests, arr k, given kept k, open_not_ended (l.jobs.status k)))
      (λ k. grind (arith, nat_tests, arr k))
      ws kept.books.serial

  -- The same without one job, whose work is taken back.
  pub serial_without :
      (l : Ledger) (ws : List ℕ) (notes : ℕ → ℕ → Note) → Kept y start l ws notes → (j : ℕ) (ks : List ℕ) → ArrangesWithout l.jobs j ks
      → is_open (l.jobs.status j) ≡ true
      → Alone y.parents start (in_turn l.steps l.order ++ in_turn l.steps ks) (taken_back (notes j) ws)
  serial_without l ws notes kept j ks arr open_j =
      in_order y.parents start (in_turn l.steps l.order) (put j [] (live l)) l.steps (suc l.jobs.opened) ks
      (pairwise_clear y.parents (live l) kept.books.pairwise j)
      (λ k. grind (arith, nat_tests, arr k, given kept k, open_not_ended (l.jobs.status k)))
      (λ k. grind (arith, nat_tests, arr k))
      (taken_back (notes j) ws)
      (without _ _ fit kept.books j
      (given kept j (open_not_ended (l.jobs.status j) open_j)))

  -- What a list of calls leaves, and what holds of each of them.
  record Ran (l : Ledger) (events : List Event) (end : Model) : Type 0 where
    words : List ℕ
    notes : ℕ → ℕ → Note
    model : end ≡ model_of (written y l events) words notes
    keeps : Kept y start (written y l events) words notes
    each : EachEvent y l events

  ran :
      (cs : List Call) (l : Ledger) (ws : List ℕ) (notes : ℕ → ℕ → Note) → Kept y start l ws notes
      → Ran l (history y cs (model_of l ws notes)) (served y cs (model_of l ws notes))
  ran [] l ws notes kept = record { words = ws; notes = notes; model = refl; keeps = kept; each = tt }
  ran (c ∷ cs) l ws notes kept =
      let m = served_kept law f fit kept c in
      let s = serve y c (model_of l ws notes) in
      let l' = next y l (c, s.said) in
      let rest = ran cs l' m.words m.notes' m.keeps in
      subst
      (λ (x : Model). Ran l ((c, s.said) ∷ history y cs x) (served y cs x)) (sym m.model)
      (record {
        words = rest.words;
        notes = rest.notes;
        model = rest.model;
        keeps = rest.keeps;
        each = (m.right, m.oldest, rest.each);
      })

  abbrev from_fresh : (cs : List Call) → Ran blank (history y cs (fresh start)) (served y cs (fresh start))
  from_fresh cs = ran cs blank start (λ _ _. nothing) (blank_kept y law start)

goes_on : (y : Layout) (l : Ledger) (es : List Event) → EachEvent y l es → EachGoesOn y l es
goes_on y l [] h = tt
goes_on y l (e ∷ es) h = (h.1, goes_on y (next y l e) es h.2)

pub promise_kept : PromiseKept
promise_kept s law parents words ok start fit calls =
    let y : Layout = record { system = s; parents = parents } in
    let f = falls parents (admitted parents words ok) in
    let r = from_fresh y law f start fit calls in
    let l = written y blank (history y calls (fresh start)) in
    record {
      events = r.each;
      serial =
          subst (λ (x : Model). Serial y start l x.words) (sym r.model) (serial y law f start fit l r.words r.notes r.keeps);
    }

pub oldest_never_waits : OldestNeverWaits
oldest_never_waits s law parents words ok start fit calls =
    let y : Layout = record { system = s; parents = parents } in
    let f = falls parents (admitted parents words ok) in
    goes_on y blank (history y calls (fresh start)) (from_fresh y law f start fit calls).each

pub covered_do_not_collide : CoveredDoNotCollide
covered_do_not_collide s law parents ok m n st ss ts c d = apart_lists s law parents (falls parents ok) m n st ss ts c d

pub take_back_exact : TakeBackExact
take_back_exact s law parents words ok start fit calls j ks arr open_j =
    let y : Layout = record { system = s; parents = parents } in
    let f = falls parents (admitted parents words ok) in
    let r = from_fresh y law f start fit calls in
    let l = written y blank (history y calls (fresh start)) in
    subst (λ (x : Model). Alone parents start (in_turn l.steps l.order ++ in_turn l.steps ks) (taken_back (x.notes j) x.words))
    (sym r.model) (serial_without y law f start fit l r.words r.notes r.keeps j ks arr open_j)

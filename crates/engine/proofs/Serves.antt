-- What follows once a call has done what its definition says: histories go on, and the promise holds of them.
use Rattle.std.proofs.Common.{◌≡◌, ℕ, List, [], ◌∷◌, ◌++◌, length, false, true, is_some, Some, None, Option, Bor, sym, refl, ap, ◌∙◌, subst, ap₂, arith}
use Rattle.std.proofs.lemmas.Bool.{both_ways}
use Rattle.modes.specs.Systems.{System, Lawful}
use Rattle.granules.specs.declared.tree.Tree.{Tree}
use Rattle.granules.specs.Trees.{table}
use Rattle.operations.specs.declared.operation.Outcome.TheVariants.{Done}
use Rattle.ledger.specs.declared.call.Answer.{Answer}
use Rattle.ledger.specs.declared.call.Answer.TheVariants.{Told, Refused}
use Rattle.ledger.specs.declared.call.Call.{Call}
use Rattle.ledger.specs.declared.call.Call.TheVariants.{Lay}
use Rattle.ledger.specs.declared.refusal.Refusal.{Refusal}
use Rattle.ledger.specs.declared.refusal.Refusal.TheVariants.{AlreadyLaidOut}
use Rattle.ledger.specs.Refusals.{refusal}
use Rattle.ledger.specs.Ledgers.{Layout, Event}
use Rattle.ledger.specs.Promises.{Promise}
use Rattle.ledger.specs.Models as models
use Rattle.ledger.specs.Models.{Model, fresh, serve, history, served, grant, refused_or}
use Rattle.ledger.proofs.Promised.{promise_kept}
use Rattle.tables.specs.declared.kernel.Core.{Core}
use Rattle.tables.specs.Turns.{layout}
use Rattle.tables.specs.Views.{model}
use Rattle.tables.proofs.Table.{denied}
use Rattle.engine.specs.States.{State, state_by, first_call, laid_by, nothing_yet, bare, laid, Stepped, step, HasHistory, Keeps, Promised, Served, words_of}

-- one call more
history_push :
    (y : Layout) (cs : List Call) (c : Call) (m : Model)
    → history y (cs ++ c ∷ []) m ≡ history y cs m ++ (c, (serve y c (served y cs m)).said) ∷ []
history_push y [] c m = refl
history_push y (d ∷ cs) c m = ap (λ (es : List Event). (d, (serve y d m).said) ∷ es) (history_push y cs c (serve y d m).left)

served_push : (y : Layout) (cs : List Call) (c : Call) (m : Model) → served y (cs ++ c ∷ []) m ≡ (serve y c (served y cs m)).left
served_push y [] c m = refl
served_push y (d ∷ cs) c m = served_push y cs c (serve y d m).left

module _ (s : System) (law : Lawful s) (ps first : List ℕ) (h : List Event) (m : Model) (c : Call) where
  abbrev y : Layout
  y = record { system = s; parents = ps }

  goes_on : HasHistory y first h m → HasHistory y first (h ++ (c, (serve y c m).said) ∷ []) (serve y c m).left
  goes_on k =
      record {
        calls = k.calls ++ c ∷ [];
        admitted = k.admitted;
        fits = k.fits;
        told =
            ap₂ (λ (es : List Event) (n : Model). es ++ (c, (serve y c n).said) ∷ []) k.told k.left
            ∙ sym (history_push y k.calls c (fresh first));
        left = ap (λ (n : Model). (serve y c n).left) k.left ∙ sym (served_push y k.calls c (fresh first));
      }

-- the promise holds of every history that is kept
held_to : (s : System) → Lawful s → (ps first : List ℕ) (h : List Event) (m : Model)
    → HasHistory (record { system = s; parents = ps }) first h m → Promise (record { system = s; parents = ps }) first h m.words
held_to s law ps first h m k =
    let y : Layout = record { system = s; parents = ps } in
    let p = promise_kept s law ps (length ps) k.admitted first k.fits k.calls in
    subst (λ (es : List Event). Promise y first es m.words) (sym k.told)
    (subst (λ (n : Model). Promise y first (history y k.calls (fresh first)) n.words) (sym k.left) p)

-- A call that leaves and says what its definition says has all that is ensured of it.
pub serves : (s : System) → Lawful s → (c : Call) (before after : State) (a : Answer) → step s c before ≡ record { left = after; said = a } → Served s c before after a
serves s law c (bare ws) after a e = record { step = e; kept = λ first h k. absurd k; promised = λ first h k. absurd k }
serves s law c (laid ps m) after a e =
    record {
      step = e;
      kept =
          λ first h k.
          subst (λ (r : Stepped). Keeps s r.left first (h ++ (c, r.said) ∷ [])) e (goes_on s law ps first h m c k);
      promised =
          λ first h k.
          let y : Layout = record { system = s; parents = ps } in
          subst (λ (r : Stepped). Promised s r.left first (h ++ (c, r.said) ∷ [])) e
          (held_to s law ps first (h ++ (c, (serve y c m).said) ∷ []) (serve y c m).left (goes_on s law ps first h m c k));
    }

-- An engine that is laid out does what its tables do.
pub laid_serves :
    {S : Type 0} (s : System) → Lawful s → (c : Call) (words : S → List ℕ) (tree : Option Tree) (t : Tree) (core core' : Core S) (a : Answer) → tree ≡ Some t
    → serve (layout s t) c (model words core) ≡ record { left = model words core'; said = a }
    → Served s c (state_by words tree core) (state_by words tree core') a
laid_serves s law c words tree t core core' a e f =
    subst (λ (o : Option Tree). Served s c (state_by words o core) (state_by words o core') a) (sym e)
    (serves s law c (laid (table t) (model words core)) (laid (table t) (model words core')) a
    (ap (λ (r : models.Served). record { left = laid (table t) r.left; said = r.said }) f))

-- An engine that is laid out is not laid out again.
pub once :
    {S : Type 0} (s : System) → Lawful s → (ps ws : Bor (List ℕ)) (words : S → List ℕ) (tree : Option Tree) (core : Core S) → is_some tree ≡ true
    → Served s (Lay ps ws) (state_by words tree core) (state_by words tree core) (Refused AlreadyLaidOut)
once s law ps ws words None core e = absurd (both_ways false refl e)
once s law ps ws words (Some t) core e =
    laid_serves s law (Lay ps ws) words (Some t) t core core _ refl (denied (layout s t) (Lay ps ws) (model words core) AlreadyLaidOut refl)

-- An engine that is laid out with a table, and keeps a history.
pub record Follows (s : System) (ps first : List ℕ) (h : List Event) (st : State) : Type 0 where
  pub model : Model
  pub laid_out : st ≡ laid ps model
  pub kept : HasHistory (record { system = s; parents = ps }) first h model

pub follows_on :
    (s : System) → Lawful s → (ps first : List ℕ) (h : List Event) (c : Call) (before after : State) (a : Answer) → Served s c before after a → Follows s ps first h before
    → Follows s ps first (h ++ (c, a) ∷ []) after
follows_on s law ps first h c before after a done f =
    let y : Layout = record { system = s; parents = ps } in
    let m = f.model in
    let e : record { left = laid ps (serve y c m).left; said = (serve y c m).said } ≡ record { left = after; said = a } =
    ap (step s c) (sym f.laid_out) ∙ done.step
    in
    record {
      model = (serve y c m).left;
      laid_out = sym (ap (λ (r : Stepped). r.left) e);
      kept =
          subst (λ (r : Stepped). HasHistory y first (h ++ (c, r.said) ∷ []) (serve y c m).left) e
          (goes_on s law ps first h m c f.kept);
    }

pub follows_promise :
    (s : System) → Lawful s → (ps first : List ℕ) (h : List Event) (st : State) → Follows s ps first h st
    → Promise (record { system = s; parents = ps }) first h (words_of st)
follows_promise s law ps first h st f =
    subst (λ (x : State). Promise (record { system = s; parents = ps }) first h (words_of x)) (sym f.laid_out)
    (held_to s law ps first h f.model f.kept)

-- A laying that is done leaves the engine laid out with what it says, and one that is refused leaves it as it was.
module _ (s : System) (c : Call) (ws : List ℕ) (st : State) where
  done_by : (o : Option Refusal) → first_call o c ws ≡ record { left = st; said = Told Done } → (o ≡ None) × (st ≡ laid_by c ws)
  done_by (Some r) e =
      let said : Refused r ≡ Told Done = ap (λ (x : Stepped). x.said) e in
      let z : ◌≡◌ {A = ℕ} 0 1 = cc in
      absurd (omega arith)
  done_by None e = (refl, sym (ap (λ (x : Stepped). x.left) e))

  lay_done : step s c (bare ws) ≡ record { left = st; said = Told Done } → (refusal (nothing_yet ws) c ≡ None) × (st ≡ laid_by c ws)
  lay_done e = done_by (refusal (nothing_yet ws) c) e

  refused_by : (r : Refusal) (o : Option Refusal) → first_call o c ws ≡ record { left = st; said = Refused r } → (o ≡ Some r) × (st ≡ bare ws)
  refused_by r (Some x) e =
      let said : Refused x ≡ Refused r = ap (λ (x : Stepped). x.said) e in
      let same : x ≡ r = cc in
      (ap Some same, sym (ap (λ (x : Stepped). x.left) e))
  refused_by r None e =
      let said : Told Done ≡ Refused r = ap (λ (x : Stepped). x.said) e in
      let z : ◌≡◌ {A = ℕ} 0 1 = cc in
      absurd (omega arith)

  pub lay_refused : (r : Refusal) → step s c (bare ws) ≡ record { left = st; said = Refused r } → (refusal (nothing_yet ws) c ≡ Some r) × (st ≡ bare ws)
  lay_refused r e = refused_by r (refusal (nothing_yet ws) c) e

-- What a laying that is done begins with.
pub record Began (s : System) (c : Call) (ws ps first : List ℕ) (st : State) : Type 0 where
  pub not_refused : refusal (nothing_yet ws) c ≡ None
  pub first_words : words_of st ≡ first
  pub follows : Follows s ps (words_of st) [] st

pub begins :
    (s : System) (c : Call) (ws ps first : List ℕ) (before st : State) → before ≡ bare ws → laid_by c ws ≡ laid ps (fresh first) → Served s c before st (Told Done)
    → Keeps s st first [] → Began s c ws ps first st
begins s c ws ps first before st b l done kept =
    let r = lay_done s c ws st (ap (step s c) (sym b) ∙ done.step) in
    let laid_out = r.1 ∙ l in
    let words = ap words_of laid_out in
    record {
      not_refused = r.0;
      first_words = words;
      follows =
          subst (λ (f : List ℕ). Follows s ps f [] st) (sym words)
          (record { model = fresh first; laid_out = laid_out; kept = subst (λ (x : State). Keeps s x first []) laid_out kept });
    }

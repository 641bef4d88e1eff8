-- Jobs wounded one after the other, the oldest first, are wounded as the model has it.
use Rattle.std.proofs.lemmas.Bool.Decides.{nat_tests}
use Rattle.std.proofs.Common.{◌≡◌, ℕ, zero, suc, ◌<◌, ◌≤◌, Bool, true, false, ◌&&◌, eqb, ltb, List, length, set, replicate, sym, refl, ap, ◌∙◌, ap₂, inl, inr, arith}
use mathlib.Core.Path.{fun_ext}
use Rattle.std.proofs.lemmas.Bool.{cases_eq}
use Rattle.ledger.specs.declared.job.Note.{Note}
use Rattle.ledger.specs.declared.job.Note.TheVariants.{Nothing}
use Rattle.ledger.specs.declared.job.Status.{Status}
use Rattle.ledger.specs.declared.job.Status.TheVariants.{Wounded, Ended}
use Rattle.ledger.specs.Jobs.{where_so, wound_jobs}
use Rattle.ledger.specs.Models.{Model, model_hands, taken_back, all_taken_back}
use Rattle.tables.specs.declared.kernel.Core.{Core}
use Rattle.tables.specs.Grids.{cell}
use Rattle.tables.specs.Seats.{slot}
use Rattle.tables.specs.Views.{model, numbers_of, states_of}
use Rattle.tables.specs.Wounds.{wounded_one}
use Rattle.tables.proofs.Views.{view_set, view_wiped}
use Rattle.tables.proofs.Sitting.{numbers_full, states_full}

-- models that agree in all parts
pub model_eq :
    (m n : Model) → m.jobs.opened ≡ n.jobs.opened → ((k : ℕ) → m.jobs.status k ≡ n.jobs.status k)
    → ((k x : ℕ) → m.jobs.mode k x ≡ n.jobs.mode k x) → m.words ≡ n.words → ((k r : ℕ) → m.notes k r ≡ n.notes k r) → m ≡ n
model_eq m n o s d w t =
    ap₂ (λ (a : ℕ) (b : ℕ → Status). mk a b m.jobs.mode m.words m.notes) o (fun_ext s)
    ∙ ap₂ (λ (a : ℕ → ℕ → ℕ) (b : List ℕ). mk n.jobs.opened n.jobs.status a b m.notes) (fun_ext (λ k. fun_ext (d k))) w
    ∙ ap (mk n.jobs.opened n.jobs.status n.jobs.mode n.words) (fun_ext (λ k. fun_ext (t k)))
  where
    mk : ℕ → (ℕ → Status) → (ℕ → ℕ → ℕ) → List ℕ → (ℕ → ℕ → Note) → Model
    mk a b c d e = record { jobs = record { opened = a; status = b; mode = c }; words = d; notes = e }

-- The job in a slot wounded is that job wounded in the model.
pub wound_view :
    {S : Type 0} (words : S → List ℕ) (c c' : Core S) (k : ℕ) → slot (numbers_of c.seats) k < 16
    → words c'.shelf ≡ taken_back (cell Nothing c.noted.rows (slot (numbers_of c.seats) k)) (words c.shelf)
    → (numbers_of c'.seats) ≡ (numbers_of c.seats) → (states_of c'.seats) ≡ set (states_of c.seats) (slot (numbers_of c.seats) k) Wounded
    → c'.seats.opened ≡ c.seats.opened → c'.held.modes.rows ≡ set c.held.modes.rows (slot (numbers_of c.seats) k) (replicate 256 0)
    → c'.noted.rows ≡ set c.noted.rows (slot (numbers_of c.seats) k) (replicate 256 Nothing)
    → model words c' ≡ wounded_one k (model words c)
wound_view words c c' k l w n s o h t =
    let numbers = (numbers_of c.seats) in
    let full = (numbers_full c.seats) in
    let within : slot numbers k < length numbers = omega (arith, full) in
    model_eq (model words c') (wounded_one k (model words c)) o
    (λ j.
    rw (n, s) (view_set (states_of c.seats) Ended numbers k Wounded ((states_full c.seats) ∙ sym full) within j))
    (λ j x.
    rw (n, h) (view_wiped c.held.modes.rows 0 numbers k (c.held.modes.full ∙ sym full) within j x))
    w
    (λ j r.
    rw (n, t) (view_wiped c.noted.rows Nothing numbers k (c.noted.full ∙ sym full) within j r))

-- those below n that the test picks
abbrev pub upto : (ℕ → Bool) → ℕ → ℕ → Bool
upto p n k = p k && ltb k n

-- those that the test picks wounded, with these words left
abbrev wounded_as : Model → (ℕ → Bool) → List ℕ → Model
wounded_as m q ws = record { jobs = wound_jobs q m.jobs; words = ws; notes = where_so q (λ _. Nothing) m.notes }

abbrev pub wounded_upto : (ℕ → Bool) → ℕ → Model → Model
wounded_upto p n m = wounded_as m (upto p n) (all_taken_back p m.notes n m.words)

module _ (p : ℕ → Bool) where
  -- where the test picks nobody one may go on
  upto_skip : (n m : ℕ) → n ≤ m → ((k : ℕ) → n ≤ k → k < m → p k ≡ false) → (k : ℕ) → upto p n k ≡ upto p m k
  upto_skip n m l h k = grind (arith, nat_tests, h k)

  back_skip :
      (notes : ℕ → ℕ → Note) (ws : List ℕ) (n m : ℕ) → n ≤ m → ((k : ℕ) → n ≤ k → k < m → p k ≡ false)
      → all_taken_back p notes n ws ≡ all_taken_back p notes m ws
  back_skip notes ws n zero l h = grind arith
  back_skip notes ws n (suc m) l h =
      elim (cases_eq n (suc m)) [
        | inl e ↦ cc e
        | inr e ↦ grind (arith, h m (omega arith) (omega arith), back_skip notes ws n m (omega arith) (λ k a b. h k a (omega arith)))
      ]

  pub skip : (m : Model) (n n' : ℕ) → n ≤ n' → ((k : ℕ) → n ≤ k → k < n' → p k ≡ false) → wounded_upto p n m ≡ wounded_upto p n' m
  skip m n n' l h = ap₂ (wounded_as m) (fun_ext (upto_skip n n' l h)) (back_skip m.notes m.words n n' l h)

  -- nobody wounded yet
  pub start : (m : Model) (n : ℕ) → ((k : ℕ) → k < n → p k ≡ false) → m ≡ wounded_upto p n m
  start m n h =
      model_eq m (wounded_upto p 0 m) refl (λ k. grind (arith, nat_tests)) (λ k x. grind (arith, nat_tests)) refl
      (λ k r. grind (arith, nat_tests))
      ∙ skip m 0 n (omega arith) (λ k a b. h k b)

  -- one more
  pub one : (m : Model) (n : ℕ) → p n ≡ true → wounded_one n (wounded_upto p n m) ≡ wounded_upto p (suc n) m
  one m n q =
      model_eq (wounded_one n (wounded_upto p n m)) (wounded_upto p (suc n) m) refl
      (λ k. over Wounded m.jobs.status k)
      (λ k x. ap (λ (f : ℕ → ℕ). f x) (over (λ _. 0) m.jobs.mode k))
      (grind (arith, nat_tests, q))
      (λ k r. ap (λ (f : ℕ → Note). f r) (over (λ _. Nothing) m.notes k))
    where
      over : {A : Type 0} (a : A) (f : ℕ → A) (k : ℕ) → where_so (λ j. eqb j n) a (where_so (upto p n) a f) k ≡ where_so (upto p (suc n)) a f k
      over a f k = grind (arith, nat_tests, q)

  -- all of them
  pub all : (m : Model) (n : ℕ) → suc m.jobs.opened ≤ n → ((k : ℕ) → p k ≡ true → k < suc m.jobs.opened) → wounded_upto p n m ≡ model_hands.wound p m
  all m n l h =
      let last = suc m.jobs.opened in
      sym (skip m last n l (λ k a b. grind (arith, nat_tests, h k)))
      ∙ ap (λ (f : ℕ → Bool). wounded_as m f (all_taken_back p m.notes last m.words)) (fun_ext (λ k. grind (arith, nat_tests, h k)))

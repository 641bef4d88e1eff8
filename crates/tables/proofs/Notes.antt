-- Notes of an operation, and what they are to the model.
use Rattle.std.proofs.lemmas.Bool.Decides.{nat_tests}
use Rattle.std.proofs.Common.{◌≡◌, ℕ, zero, suc, ◌+◌, ◌<◌, ◌≤◌, Bool, true, List, [], ◌∷◌, length, get_or, set, sym, refl, ap, ◌∙◌, inl, inr, arith}
use Rattle.std.specs.List.{fold, filter, range_with_len}
use Rattle.std.proofs.lemmas.List.{append-nil, length-set, get_or-set_same, set-get_or}
use Rattle.std.proofs.lemmas.List.Sums.{fold_push}
use mathlib.Core.Path.{fun_ext}
use Rattle.std.proofs.lemmas.Bool.{cases_Bool}
use Rattle.modes.specs.Systems.{System}
use Rattle.granules.specs.Paths.{record_beneath, records}
use Rattle.granules.specs.declared.tree.Tree.{Tree}
use Rattle.granules.specs.Trees.{table}
use Rattle.granules.proofs.Kept.{size}
use Rattle.granules.proofs.Climbs.{record_outside}
use Rattle.granules.proofs.Counts.{filter_more}
use Rattle.operations.specs.declared.operation.Operation.{Operation}
use Rattle.operations.specs.Words.{after}
use Rattle.ledger.specs.declared.job.Note.{Note}
use Rattle.ledger.specs.declared.job.Note.TheVariants.{Nothing}
use Rattle.ledger.specs.Jobs.{put}
use Rattle.ledger.specs.Models.{noted, word_at, carried}
use Rattle.tables.specs.declared.held.Held.{Held}
use Rattle.tables.specs.declared.grid.Grid.{Grid}
use Rattle.tables.specs.declared.seats.Seats.{Seats}
use Rattle.tables.specs.Grids.{cell, with_cell}
use Rattle.tables.specs.Notes.{noted_at}
use Rattle.tables.specs.Seats.{slot}
use Rattle.tables.specs.Views.{whole, numbers_of}
use Rattle.tables.proofs.Sweeps.{Swept, only_slot, swept_all, swept_from, swept_put, swept_skip}
use Rattle.tables.proofs.Views.{view_row}
use Rattle.tables.proofs.Wounds.{model_eq}
use Rattle.tables.proofs.Sitting.{numbers_full}

-- The notes of a slot taken, and the words changed: the operation of its job carried out in the model.
pub carry_view :
    (s : System) (ps ws ws' : List ℕ) (seats : Seats) (held : Held) (before after_it : (Grid Note)) (k : ℕ) (o : Operation) → slot (numbers_of seats) k < 16
    → after_it.rows ≡ set before.rows (slot (numbers_of seats) k) (get_or after_it.rows (slot (numbers_of seats) k) [])
    → ((r : ℕ) → cell Nothing after_it.rows (slot (numbers_of seats) k) r ≡ noted_at ps o ws r (cell Nothing before.rows (slot (numbers_of seats) k) r))
    → ws' ≡ after ps o ws
    → whole ws' seats held after_it ≡ carried (record { system = s; parents = ps }) k o (whole ws seats held before)
carry_view s ps ws ws' seats held before after_it k o l others notes w =
    let numbers = (numbers_of seats) in
    let row = get_or after_it.rows (slot numbers k) [] in
    model_eq (whole ws' seats held after_it) (carried (record { system = s; parents = ps }) k o (whole ws seats held before)) refl (λ j. refl) (λ j x. refl) w
    (λ j r.
    ap (λ (rows : List (List Note)). cell Nothing rows (slot numbers j) r) others
    ∙ view_row before.rows Nothing numbers k row (before.full ∙ sym (numbers_full seats)) (omega (arith, (numbers_full seats))) j r
    ∙ ap (λ (f : ℕ → Note). put {A = ℕ → Note} k f (λ i y. cell Nothing before.rows (slot numbers i) y) j r) (fun_ext notes))

-- what a filter keeps passes it
kept_passes : (f : ℕ → Bool) (xs : List ℕ) (i d : ℕ) → i < length (filter f xs) → f (get_or (filter f xs) i d) ≡ true
kept_passes f [] i d l = absurd (omega arith)
kept_passes f (x ∷ xs) zero d l = grind (arith, nat_tests, kept_passes f xs 0 d)
kept_passes f (x ∷ xs) (suc i) d l = grind (arith, nat_tests, kept_passes f xs i d, kept_passes f xs (suc i) d)

-- the next of the records beneath a granule is one of the 256 granules
pub record_near :
    (t : Tree) (g : ℕ) (xs : List ℕ) (p : ℕ)
    → (length xs < length (records (table t) g)) × (p ≡ get_or (records (table t) g) (length xs) p) → p < 256
record_near t g xs p h =
    let ps = table t in
    let kept = kept_passes (record_beneath ps g) (range_with_len 0 (length ps)) (length xs) p h.0 in
    grind (arith, nat_tests, kept, h.1, record_outside ps p, size t, t.few)

-- The notes of a slot once an operation has been noted on a record, and on these records, one after the other.
abbrev pub note_on : Operation → List ℕ → ℕ → List (List Note) → ℕ → List (List Note)
note_on o ws s rows r = with_cell rows s r (noted o.action (word_at ws r) (cell Nothing rows s r))

abbrev pub noted_on : Operation → List ℕ → ℕ → List (List Note) → List ℕ → List (List Note)
noted_on o ws s rows rs = fold (note_on o ws s) rows rs

module _ (ps : List ℕ) (o : Operation) (ws : List ℕ) (s : ℕ) (start : List (List Note)) (within : s < length start)
    (long : length (get_or start s []) ≡ 256) (few : length ps ≤ 256) where
  abbrev old : ℕ → Note
  old r = cell Nothing start s r

  abbrev new : ℕ → Note
  new r = noted_at ps o ws r (old r)

  abbrev before : ℕ → List (List Note)
  before n = noted_on o ws s start (filter (record_beneath ps o.granule) (range_with_len 0 n))

  -- as far as number n, only the slot has changed, and what the operation changes there is noted
  record Noted (n : ℕ) (rows : List (List Note)) : Type 0 where
    only : rows ≡ set start s (get_or rows s [])
    wide : length (get_or rows s []) ≡ 256
    swept : Swept Nothing s new old n rows

  in_rows : (n : ℕ) (rows : List (List Note)) → Noted n rows → s < length rows
  in_rows n rows h = omega (arith, within, ap length h.only, length-set start s (get_or rows s []))

  one_more : (n : ℕ) (rows : List (List Note)) → n < 256 → record_beneath ps o.granule n ≡ true → Noted n rows → Noted (n + 1) (note_on o ws s rows n)
  one_more n rows l t h =
      let v = noted o.action (word_at ws n) (cell Nothing rows s n) in
      let row = get_or rows s [] in
      let inside = in_rows n rows h in
      let is : v ≡ new n = grind (arith, nat_tests, h.swept n, t) in
      record {
        only = only_slot start rows (with_cell rows s n v) s n v inside h.only refl;
        wide = grind (arith, get_or-set_same rows s (set row n v) [] inside, length-set row n v, h.wide);
        swept = swept_put Nothing s new old rows n v inside (omega (arith, h.wide, l)) is h.swept;
      }

  upto : (n : ℕ) → n ≤ 256 → Noted n (before n)
  upto zero l =
      record {
        only = sym (set-get_or start s []);
        wide = long;
        swept = swept_from Nothing s new old start 0 (λ r. refl) (λ r m. absurd (omega arith));
      }
  upto (suc n) l =
      let test = record_beneath ps o.granule in
      let h = upto n (omega (arith, l)) in
      let next : n + 1 ≡ suc n = omega arith in
      let now = ap (noted_on o ws s start) (filter_more n test) in
      elim (cases_Bool (test n)) [
        | inl t ↦
            let push = fold_push (note_on o ws s) start (filter test (range_with_len 0 n)) n in
            let is : before (suc n) ≡ note_on o ws s (before n) n = grind (arith, now, push) in
            rw (sym next, is) (one_more n (before n) (omega (arith, l)) t h)
        | inr t ↦
            let is : before (suc n) ≡ before n = grind (arith, now, append-nil (filter test (range_with_len 0 n))) in
            rw (sym next, is)
            (record { only = h.only; wide = h.wide; swept = swept_skip Nothing s new old (before n) n (rw (t, noted_at)) h.swept })
      ]

  abbrev done : List (List Note)
  done = noted_on o ws s start (records ps o.granule)

  pub noted_only : done ≡ set start s (get_or done s [])
  noted_only = (upto (length ps) few).only

  pub noted_all : (r : ℕ) → cell Nothing done s r ≡ new r
  noted_all =
      swept_all Nothing s new old done (length ps) (λ r l. grind (arith, record_outside ps r l)) (upto (length ps) few).swept

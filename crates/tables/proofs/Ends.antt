-- Jobs that sit down and get up, as the model has it.
use Rattle.std.proofs.lemmas.Bool.Decides.{nat_tests}
use Rattle.std.proofs.Common.{◌≡◌, ℕ, suc, ◌+◌, ◌<◌, ◌≤◌, true, false, List, [], length, get_or, set, replicate, sym, refl, ap, ◌∙◌, ap₂, add-one, arith}
use Rattle.std.proofs.lemmas.List.{get_or-set_same, get_or-set_other, get_or_past, length-set}
use Rattle.granules.specs.Paths.{among}
use Rattle.ledger.specs.declared.job.Note.{Note}
use Rattle.ledger.specs.declared.job.Note.TheVariants.{Nothing}
use Rattle.ledger.specs.declared.job.Status.{Status}
use Rattle.ledger.specs.declared.job.Status.TheVariants.{Working, Ended}
use Rattle.ledger.specs.Jobs.{put}
use Rattle.tables.specs.declared.kernel.Core.{Core}
use Rattle.tables.specs.declared.held.Held.{Held}
use Rattle.tables.specs.declared.grid.Grid.{Grid}
use Rattle.tables.specs.declared.seats.Seats.{Seats}
use Rattle.tables.specs.Ends.{with_one_more, without_job}
use Rattle.tables.specs.Grids.{cell}
use Rattle.tables.specs.Seats.{slot, distinct}
use Rattle.tables.specs.Views.{whole, numbers_of, states_of}
use Rattle.tables.proofs.Places.{place_set_other, place_set_new, among_gone, new_among, place_among}
use Rattle.tables.proofs.Views.{slot_number, slot_own}
use Rattle.tables.proofs.Wounds.{model_eq}
use Rattle.tables.proofs.Sitting.{numbers_full, states_full}

-- whoever sits nowhere has no slot of the table
slot_gone : (numbers : List ℕ) (k : ℕ) → among k numbers ≡ false → length numbers ≤ slot numbers k
slot_gone numbers k e = grind (arith, nat_tests, place_among numbers k)

-- A job gets up from its slot: it has nothing there any more, and nobody else changes.
module _ (numbers : List ℕ) (k : ℕ) (apart : distinct numbers ≡ true) (l : slot numbers k < length numbers) where
  abbrev place_of : ℕ
  place_of = slot numbers k

  gone : length numbers ≤ slot (set numbers place_of 0) k
  gone =
      let n = slot_number numbers k l in
      omega (arith, slot_gone (set numbers place_of 0) k (among_gone numbers place_of k n.1 apart n.0), length-set numbers place_of 0)

  others_stay : (j : ℕ) → (j ≡ k → ⊥) → slot (set numbers place_of 0) j ≡ slot numbers j
  others_stay j d = grind (arith, nat_tests, length-set numbers place_of 0, place_set_other numbers place_of 0 j, slot_number numbers k l)

  view_left :
      {A : Type 0} (rows : List A) (d v : A) → length rows ≡ length numbers → (j : ℕ)
      → get_or (set rows place_of v) (slot (set numbers place_of 0) j) d ≡ put k d (λ i. get_or rows (slot numbers i) d) j
  view_left rows d v e j =
      grind (
        arith,
        nat_tests,
        gone,
        length-set rows place_of v,
        get_or_past (set rows place_of v) (slot (set numbers place_of 0) k) d,
        others_stay j,
        get_or-set_other rows place_of (slot numbers j) v d,
        slot_own numbers j k,
      )

  -- the same, cell by cell
  view_left_row :
      {A : Type 0} (rows : List (List A)) (d : A) (row : List A) → length rows ≡ length numbers → (j x : ℕ)
      → cell d (set rows place_of row) (slot (set numbers place_of 0) j) x ≡ put {A = ℕ → A} k (λ _. d) (λ i y. cell d rows (slot numbers i) y) j x
  view_left_row {A} rows d row e j x = ap (λ (r : List A). get_or r x d) (view_left rows [] row e j) ∙ grind (arith, nat_tests)

pub end_view :
    (ws : List ℕ) (seats seats' : Seats) (held held' : Held) (noted noted' : (Grid Note)) (k : ℕ) → slot (numbers_of seats) k < 16
    → (numbers_of seats') ≡ set (numbers_of seats) (slot (numbers_of seats) k) 0 → (states_of seats') ≡ set (states_of seats) (slot (numbers_of seats) k) Ended
    → seats'.opened ≡ seats.opened → held'.modes.rows ≡ set held.modes.rows (slot (numbers_of seats) k) (replicate 256 0)
    → noted'.rows ≡ set noted.rows (slot (numbers_of seats) k) (replicate 256 Nothing)
    → whole ws seats' held' noted' ≡ without_job k (whole ws seats held noted)
end_view ws seats seats' held held' noted noted' k l n s o h t =
    let numbers = (numbers_of seats) in
    let full = (numbers_full seats) in
    let within : slot numbers k < length numbers = omega (arith, full) in
    model_eq (whole ws seats' held' noted') (without_job k (whole ws seats held noted)) o
    (λ j.
    rw (n, s) (view_left numbers k seats.apart within (states_of seats) Ended Ended ((states_full seats) ∙ sym full) j))
    (λ j x.
    rw (n, h) (view_left_row numbers k seats.apart within held.modes.rows 0 (replicate 256 0) (held.modes.full ∙ sym full) j x))
    refl
    (λ j r.
    rw (n, t) (view_left_row numbers k seats.apart within noted.rows Nothing (replicate 256 Nothing) (noted.full ∙ sym full) j r))

-- A new number sits down in a free slot.
module _ (numbers : List ℕ) (i n : ℕ) (l : i < length numbers) (vacant : get_or numbers i 0 ≡ 0) (some : n ≡ 0 → ⊥) (new : among n numbers ≡ false) where
  new_slot : slot (set numbers i n) n ≡ i
  new_slot = grind (arith, nat_tests, some, place_set_new numbers i n l new)

  old_slot : (j : ℕ) → (j ≡ n → ⊥) → slot (set numbers i n) j ≡ slot numbers j
  old_slot j d = grind (arith, nat_tests, length-set numbers i n, place_set_other numbers i n j, vacant)

  view_sat : (states : List Status) → length states ≡ length numbers → (st : Status) → (j : ℕ)
      → get_or (set states i st) (slot (set numbers i n) j) Ended ≡ put n st (λ k. get_or states (slot numbers k) Ended) j
  view_sat states e st j =
      grind (
        arith,
        nat_tests,
        new_slot,
        get_or-set_same states i st Ended,
        old_slot j,
        slot_number numbers j,
        vacant,
        get_or-set_other states i (slot numbers j) st Ended,
      )

  -- what a table has at a free slot is what it has for nobody
  view_still :
      {A : Type 0} (rows : List (List A)) (d : A) → length rows ≡ length numbers → ((x : ℕ) → cell d rows i x ≡ d) → (j x : ℕ)
      → cell d rows (slot (set numbers i n) j) x ≡ cell d rows (slot numbers j) x
  view_still {A} rows d e blank j x =
      grind (arith, nat_tests, new_slot, blank x, get_or_past rows (slot numbers n) [], slot_gone numbers n new, old_slot j)

pub open_view :
    {S : Type 0} (words : S → List ℕ) (c : Core S) (seats' : Seats) (i : ℕ) → i < 16 → get_or (numbers_of c.seats) i 0 ≡ 0
    → (numbers_of seats') ≡ set (numbers_of c.seats) i (c.seats.opened + 1) → (states_of seats') ≡ set (states_of c.seats) i Working
    → seats'.opened ≡ c.seats.opened + 1
    → whole (words c.shelf) seats' c.held c.noted ≡ with_one_more (whole (words c.shelf) c.seats c.held c.noted)
open_view words c seats' i l vacant n s o =
    let numbers = (numbers_of c.seats) in
    let full = (numbers_full c.seats) in
    let next = c.seats.opened + 1 in
    let is : next ≡ suc c.seats.opened = add-one c.seats.opened in
    let within : i < length numbers = omega (arith, full) in
    let some : next ≡ 0 → ⊥ = λ z. omega arith in
    let new = new_among c.seats.opened numbers next (omega arith) c.seats.known in
    model_eq (whole (words c.shelf) seats' c.held c.noted) (with_one_more (whole (words c.shelf) c.seats c.held c.noted)) (o ∙ is)
    (λ j.
    ap₂ (λ (ns : List ℕ) (ss : List Status). get_or ss (slot ns j) Ended) n s
    ∙ view_sat numbers i next within vacant some new (states_of c.seats) ((states_full c.seats) ∙ sym full) Working j
    ∙ ap (λ (k : ℕ). put k Working (λ k. get_or (states_of c.seats) (slot numbers k) Ended) j) is)
    (λ j x.
    rw n (view_still numbers i next within vacant some new c.held.modes.rows 0 (c.held.modes.full ∙ sym full) (λ y. c.unlocked i y vacant) j x))
    refl
    (λ j r.
    rw n
    (view_still numbers i next within vacant some new c.noted.rows Nothing (c.noted.full ∙ sym full)
    (λ y. grind (arith, nat_tests, c.unnoted i y vacant)) j r))

-- A mode raised in a slot is raised in the model.
use Rattle.std.proofs.Common.{◌≡◌, ℕ, ◌<◌, List, sym, refl, ap, ◌∙◌, arith}
use Rattle.ledger.specs.Jobs.{raise}
use Rattle.ledger.specs.Models.{model_hands}
use Rattle.ledger.specs.declared.job.Note.{Note}
use Rattle.tables.specs.declared.held.Held.{Held}
use Rattle.tables.specs.declared.grid.Grid.{Grid}
use Rattle.tables.specs.declared.seats.Seats.{Seats}
use Rattle.tables.specs.Grids.{cell, with_cell}
use Rattle.tables.specs.Seats.{slot}
use Rattle.tables.specs.Views.{whole, jobs_of, numbers_of}
use Rattle.tables.proofs.Grids.{long_at}
use Rattle.tables.proofs.Views.{view_cell}
use Rattle.tables.proofs.Wounds.{model_eq}
use Rattle.tables.proofs.Sitting.{numbers_full}

pub raise_view :
    (ws : List ℕ) (seats : Seats) (held held' : Held) (noted : (Grid Note)) (k x v : ℕ) → slot (numbers_of seats) k < 16 → x < 256
    → held'.modes.rows ≡ with_cell held.modes.rows (slot (numbers_of seats) k) x v
    → whole ws seats held' noted ≡ model_hands.with_jobs (raise k x v (jobs_of seats held)) (whole ws seats held noted)
raise_view ws seats held held' noted k x v l h e =
    let numbers = (numbers_of seats) in
    let full = (numbers_full seats) in
    model_eq (whole ws seats held' noted) (model_hands.with_jobs (raise k x v (jobs_of seats held)) (whole ws seats held noted)) refl (λ j. refl)
    (λ j y.
    ap (λ (rs : List (List ℕ)). cell 0 rs (slot numbers j) y) e
    ∙ view_cell held.modes.rows 0 numbers k x v (held.modes.full ∙ sym full) (omega (arith, full))
    (omega (arith, long_at 256 held.modes.rows (slot numbers k) (omega (arith, held.modes.full)) held.modes.long)) j y)
    refl (λ j r. refl)

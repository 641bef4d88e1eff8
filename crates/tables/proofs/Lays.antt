-- Tables with no job in them.
use Rattle.std.proofs.Common.{◌≡◌, ℕ, List, get_or, replicate, refl, ap, ◌∙◌}
use Rattle.ledger.specs.declared.job.Note.{Note}
use Rattle.ledger.specs.declared.job.Note.TheVariants.{Nothing}
use Rattle.ledger.specs.declared.job.Status.{Status}
use Rattle.ledger.specs.declared.job.Status.TheVariants.{Ended}
use Rattle.ledger.specs.Models.{fresh}
use Rattle.tables.specs.declared.held.Held.{Held}
use Rattle.tables.specs.declared.grid.Grid.{Grid}
use Rattle.tables.specs.declared.seats.Seats.{Seats}
use Rattle.tables.specs.Grids.{cell}
use Rattle.tables.specs.Seats.{slot}
use Rattle.tables.specs.Views.{whole, numbers_of, states_of}
use Rattle.tables.proofs.Grids.{empty, empty_cell}
use Rattle.tables.proofs.Wounds.{model_eq}

-- blank rows hold and note nothing, in any slot
pub nothing_held : (rows : List (List ℕ)) → rows ≡ replicate 16 (replicate 256 0) → (i x : ℕ) → cell 0 rows i x ≡ 0
nothing_held rows e i x = ap (λ (rs : List (List ℕ)). cell 0 rs i x) e ∙ empty_cell 16 256 0 i x

pub nothing_noted : (rows : List (List Note)) → rows ≡ replicate 16 (replicate 256 Nothing) → (i x : ℕ) → cell Nothing rows i x ≡ Nothing
nothing_noted rows e i x = ap (λ (rs : List (List Note)). cell Nothing rs i x) e ∙ empty_cell 16 256 Nothing i x

pub blank_view :
    (ws : List ℕ) (seats : Seats) (held : Held) (noted : (Grid Note)) → (states_of seats) ≡ replicate 16 Ended → seats.opened ≡ 0
    → held.modes.rows ≡ replicate 16 (replicate 256 0) → noted.rows ≡ replicate 16 (replicate 256 Nothing) → whole ws seats held noted ≡ fresh ws
blank_view ws seats held noted s o h n =
    model_eq (whole ws seats held noted) (fresh ws) o
    (λ k. ap (λ (ss : List Status). get_or ss (slot (numbers_of seats) k) Ended) s ∙ empty 16 Ended (slot (numbers_of seats) k))
    (λ k x. nothing_held held.modes.rows h (slot (numbers_of seats) k) x)
    refl
    (λ k r. nothing_noted noted.rows n (slot (numbers_of seats) k) r)

-- One granule of a walk, where the mode that a job has is not enough.
use Rattle.std.proofs.Common.{◌≡◌, ℕ, true, false, eqb, List, ◌∷◌, sym, ap, ◌∙◌, ap₂, arith}
use Rattle.std.proofs.lemmas.Bool.{ne_eqb}
use Rattle.modes.specs.Systems.{System}
use Rattle.granules.specs.Below.{some_below}
use Rattle.ledger.specs.Jobs.{raise}
use Rattle.ledger.specs.Walks.{has, target, yields, blocks}
use Rattle.ledger.specs.Models.{Model, model_hands}
use Rattle.ledger.proofs.Walking.{walk_stops, walk_goes}
use Rattle.tables.specs.declared.kernel.walks.Walker.{Walker}
use Rattle.tables.specs.Steps.{walk_on}

module _ (s : System) (m : Model) (w : Walker) (x mode t : ℕ) (has_mode : mode ≡ m.jobs.mode w.job x)
    (wants : t ≡ target s w.kind w.goal x mode) (short : s.join mode (s.full w.kind) ≡ mode → ⊥) (differs : t ≡ mode → ⊥)
  where
    abbrev own : ℕ
    own = m.jobs.mode w.job x

    -- the younger ones wounded, for a target
    abbrev hurt : ℕ → Model
    hurt n = model_hands.wound (yields s m.jobs w.job x n) m

    is_target : t ≡ target s w.kind w.goal x own
    is_target = wants ∙ ap (target s w.kind w.goal x) has_mode

    not_full : has s own (s.full w.kind) ≡ false
    not_full = ap (λ (n : ℕ). has s n (s.full w.kind)) (sym has_mode) ∙ ne_eqb (s.join mode (s.full w.kind)) mode short

    not_own : eqb (target s w.kind w.goal x own) own ≡ false
    not_own = ap₂ (λ (a b : ℕ). eqb a b) (sym is_target) (sym has_mode) ∙ ne_eqb t mode differs

    pub stopped :
        (m₁ : Model) → some_below w.job (blocks s m.jobs w.job x t) ≡ true → m₁ ≡ hurt t
        → (xs : List ℕ) → walk_on s w (x ∷ xs) m ≡ record { left = m₁; complete = false }
    stopped m₁ b e xs = grind (arith, b, e, is_target, walk_stops model_hands s w.kind w.goal w.job x xs m not_full not_own)

    pub raised :
        (m₁ m₂ : Model) → some_below w.job (blocks s m.jobs w.job x t) ≡ false → m₁ ≡ hurt t
        → m₂ ≡ model_hands.with_jobs (raise w.job x t m₁.jobs) m₁
        → (xs : List ℕ) → walk_on s w (x ∷ xs) m ≡ walk_on s w xs m₂
    raised m₁ m₂ b e f xs = grind (arith, b, e, f, is_target, walk_goes model_hands s w.kind w.goal w.job x xs m not_full not_own)

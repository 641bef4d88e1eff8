use Rattle.std.proofs.Common.{◌≡◌, ℕ, true, List, get_or, sym, refl, ap, ◌∙◌}
use Rattle.ledger.specs.declared.job.Note.{Note}
use Rattle.ledger.specs.declared.job.Note.TheVariants.{Nothing}
use Rattle.tables.specs.Grids.{cell, is_nothing}
use Rattle.tables.proofs.Grids.{wiped_stays}
use Rattle.tables.specs.Views.{numbers_of}
use Rattle.tables.proofs.kernel.Core.wound.Goals as goal

pub invariant_of-self : goal.invariant_of-self
invariant_of-self g c =
    let t = c.take_back.new.self in
    let vacant : ℕ → Type 0 = λ i. get_or (numbers_of t.seats) i 0 ≡ 0 in
    let before : (i : ℕ) → get_or (numbers_of c.turn.new.self) i 0 ≡ 0 → vacant i =
    λ i free. ap (λ (ns : List ℕ). get_or ns i 0) (sym c.turn.ensures.numbers) ∙ free
    in
    record {
      unlocked = λ i x free.
          rw c.wipe.ensures.rows (wiped_stays 0 t.held.modes.rows c.args.seat.slot (λ v. v ≡ 0) vacant refl (λ j y e. t.unlocked j y) i x (before i free));
      unnoted = λ i x free.
          ap (λ (rows : List (List Note)). is_nothing (cell Nothing rows i x)) c.fill.ensures.rows
          ∙ wiped_stays Nothing t.noted.rows c.args.seat.slot (λ v. is_nothing v ≡ true) vacant refl (λ j y e. t.unnoted j y) i x (before i free);
    }

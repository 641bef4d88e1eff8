use Rattle.std.proofs.Common.{◌≡◌, ℕ, true, get_or, sym, refl, arith}
use Rattle.std.proofs.lemmas.List.{get_or-set_other}
use Rattle.ledger.specs.declared.job.Note.TheVariants.{Nothing}
use Rattle.tables.specs.Grids.{is_nothing}
use Rattle.tables.proofs.Ends.{end_view}
use Rattle.tables.proofs.Grids.{wiped_stays}
use Rattle.tables.specs.Views.{numbers_of}
use Rattle.tables.proofs.kernel.Core.end.Goals as goal

pub invariant_of-self : goal.invariant_of-self
invariant_of-self g c =
    let t = c.args.self.now in
    let s = c.seat-seat.result.slot in
    let vacant : ℕ → Type 0 = λ i. get_or (numbers_of c.leave.new.self) i 0 ≡ 0 in
    let before : (i : ℕ) → (i ≡ s → ⊥) → vacant i → get_or (numbers_of t.seats) i 0 ≡ 0 =
    λ i e free. grind (arith, get_or-set_other (numbers_of t.seats) s i 0 0 e, c.leave.ensures.numbers, free) in
    record {
      unlocked = λ i x free.
          rw c.wipe.ensures.rows (wiped_stays 0 t.held.modes.rows s (λ v. v ≡ 0) vacant refl (λ j y e q. t.unlocked j y (before j e q)) i x free);
      unnoted = λ i x free.
          rw c.fill.ensures.rows
          (wiped_stays Nothing t.noted.rows s (λ v. is_nothing v ≡ true) vacant refl (λ j y e q. t.unnoted j y (before j e q)) i x free);
    }

pub returns : goal.returns
returns g c =
    let t = c.args.self.now in
    let here = sym c.seat-seat.ensures.value in
    record {
      model =
          end_view (g.S.Shelf.words t.shelf) t.seats c.leave.new.self t.held c.wipe.new.self t.noted c.fill.new.self c.args.job c.requires
          (rw here c.leave.ensures.numbers) (rw here c.leave.ensures.states) c.leave.ensures.opened (rw here c.wipe.ensures.rows) (rw here c.fill.ensures.rows);
    }

use Rattle.std.proofs.Common.{sym, ap, ◌∙◌, ap₂}
use Rattle.granules.specs.Trees.{table}
use Rattle.ledger.specs.declared.job.Note.{Note}
use Rattle.ledger.specs.declared.job.Note.TheVariants.{Nothing}
use Rattle.tables.specs.declared.held.Held.{Held}
use Rattle.tables.specs.declared.grid.Grid.{Grid}
use Rattle.tables.specs.declared.seats.Seats.{Seats}
use Rattle.tables.specs.Views.{whole}
use Rattle.tables.specs.Grids.{is_nothing}
use Rattle.tables.proofs.Grids.{other_cell}
use Rattle.tables.proofs.Notes.{carry_view}
use Rattle.tables.proofs.Views.{not_free}
use Rattle.tables.proofs.kernel.Core.carry.Goals as goal

pub invariant_of-self : goal.invariant_of-self
invariant_of-self g c =
    let t = c.args.self.now in
    record {
      unlocked = t.unlocked;
      unnoted = λ i x free.
          rw c.note.ensures.others
          (ap is_nothing
          (other_cell Nothing t.noted.rows _ _ i x (λ e. not_free t.seats c.args.job i c.requires free (e ∙ c.seat-seat.ensures.value)))
          ∙ t.unnoted i x free);
    }

pub returns : goal.returns
returns g c =
    let t = c.args.self.now in
    let here = sym c.seat-seat.ensures.value in
    let left = c.work.new.self in
    record {
      value = c.work.ensures.value;
      model =
          λ s.
          ap (λ (n : Seats). whole (g.S.Shelf.words left.shelf) n left.held left.noted) c.work.ensures.seats
          ∙ ap₂ (λ (h : Held) (n : (Grid Note)). whole (g.S.Shelf.words left.shelf) t.seats h n) c.work.ensures.held c.work.ensures.noted
          ∙ carry_view s (table c.args.tree.now) (g.S.Shelf.words t.shelf) (g.S.Shelf.words left.shelf) t.seats t.held t.noted c.note.new.self
          c.args.job c.args.operation c.requires (rw here c.note.ensures.others) (rw here c.note.ensures.notes) c.work.ensures.after;
    }

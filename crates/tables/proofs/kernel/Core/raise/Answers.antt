use Rattle.std.proofs.Common.{ℕ, ◌<◌, List, sym, refl, ap, ◌∙◌, arith}
use Rattle.tables.specs.Grids.{cell}
use Rattle.tables.specs.Seats.{slot}
use Rattle.tables.specs.Views.{numbers_of}
use Rattle.tables.proofs.Grids.{other_cell}
use Rattle.tables.proofs.Raises.{raise_view}
use Rattle.tables.proofs.Views.{not_free}
use Rattle.tables.proofs.kernel.Core.raise.Goals as goal

pub invariant_of-self : goal.invariant_of-self
invariant_of-self g c =
    let t = c.args.self.now in
    let sits : slot (numbers_of t.seats) c.args.job < 16 = omega (arith, c.requires.seated, c.args.seat.within) in
    record {
      unlocked = λ i x free.
          ap (λ (rows : List (List ℕ)). cell 0 rows i x) c.put.ensures.rows
          ∙ other_cell 0 t.held.modes.rows _ _ i x (λ e. not_free t.seats c.args.job i sits free (e ∙ sym c.requires.seated))
          ∙ t.unlocked i x free;
      unnoted = t.unnoted;
    }

pub returns : goal.returns
returns g c =
    let t = c.args.self.now in
    let sits : slot (numbers_of t.seats) c.args.job < 16 = omega (arith, c.requires.seated, c.args.seat.within) in
    record {
      model =
          raise_view (g.S.Shelf.words t.shelf) t.seats t.held c.put.new.self t.noted c.args.job c.args.granule c.args.mode
          sits (omega (arith, c.ranges.granule.fits)) (rw c.requires.seated c.put.ensures.rows);
      numbers = refl;
    }

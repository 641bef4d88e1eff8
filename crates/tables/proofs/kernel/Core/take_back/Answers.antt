use Rattle.std.proofs.Common.{◌≡◌, ℕ, ◌+◌, [], get_or, refl, ap, ◌∙◌, arith}
use Rattle.ledger.specs.declared.job.Note.{Note}
use Rattle.ledger.specs.declared.job.Note.TheVariants.{Nothing}
use Rattle.ledger.specs.Models.{back}
use Rattle.std.proofs.lemmas.List.{get_or_past}
use Rattle.tables.specs.Grids.{cell}
use Rattle.tables.proofs.Grids.{long_at}
use Rattle.operations.proofs.Sweeps.{sweep_from, sweep_more, sweep_all}
use Rattle.operations.specs.Words.{each_from}
use Rattle.operations.proofs.Sweeps.{swept}
use Rattle.tables.proofs.kernel.Core.take_back.Goals.{After-take_back_at, at-loop-place-preserved, at-returns-2}
use Rattle.tables.proofs.kernel.Core.take_back.Goals as goal

pub loop-place-init : goal.loop-place-init
loop-place-init g c = (
  sweep_from 0 (λ r w. back (cell Nothing c.args.self.now.noted.rows c.args.seat.slot r) w) (g.S.Shelf.words c.args.self.now.shelf)
      (λ k w h. absurd (omega arith)),
  refl,
  refl,
  refl,
)

-- the words after one place more
next :
    (g : _) (c : After-take_back_at g)
    → g.S.Shelf.words c.take_back_at.new.self.shelf
    ≡ each_from 0 (swept (c.loop-place.place + 1) (λ k w. back (cell Nothing c.args.self.now.noted.rows c.args.seat.slot k) w)) (g.S.Shelf.words c.args.self.now.shelf)
next g c =
    let inv = c.loop-place.invariant in
    c.take_back_at.ensures.words
    ∙ rw (inv.3, inv.0)
    (sweep_more c.loop-place.place (λ k w. back (cell Nothing c.args.self.now.noted.rows c.args.seat.slot k) w) (g.S.Shelf.words c.args.self.now.shelf))

pub loop-place-preserved : goal.loop-place-preserved
loop-place-preserved g c =
    let inv = c.loop-place.invariant in (
      next g (at-loop-place-preserved g c).After-take_back_at,
      c.take_back_at.ensures.seats ∙ inv.1,
      c.take_back_at.ensures.held ∙ inv.2,
      c.take_back_at.ensures.noted ∙ inv.3,
    )

pub returns-2 : goal.returns-2
returns-2 g c =
    let inv = c.loop-place.invariant in
    let start = c.args.self.now in
    let f : ℕ → ℕ → ℕ = λ r w. back (cell Nothing start.noted.rows c.args.seat.slot r) w in
    record {
      words =
          next g (at-returns-2 g c).After-take_back_at
          ∙ sweep_all (c.loop-place.place + 1) f (g.S.Shelf.words start.shelf)
          (λ k w h.
          ap (λ (n : Note). back n w)
          (get_or_past (get_or start.noted.rows c.args.seat.slot []) k Nothing
          (omega (arith, long_at 256 start.noted.rows c.args.seat.slot (omega (arith, start.noted.full, c.args.seat.within)) start.noted.long))));
      seats = c.take_back_at.ensures.seats ∙ inv.1;
      held = c.take_back_at.ensures.held ∙ inv.2;
      noted = c.take_back_at.ensures.noted ∙ inv.3;
    }

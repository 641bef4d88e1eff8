use Rattle.std.proofs.Common.{◌≡◌, ℕ, sym, ap, ◌∙◌}
use Rattle.tables.specs.Grids.{cell}
use Rattle.tables.specs.Seats.{slot}
use Rattle.tables.specs.Views.{model, numbers_of}
use Rattle.tables.proofs.Steps.{stopped, raised}
use Rattle.tables.proofs.kernel.Core.step.Goals as goal
use Rattle.tables.proofs.kernel.Core.step.Goals.{After-target-target, at-returns, at-returns-then-make_way}

-- what is known once the target is: the mode that the job has, and that it is not enough
has_mode :
    (g : _) (c : goal.After-target-target g)
    → c.get-mode.result ≡ cell 0 c.args.self.now.held.modes.rows (slot (numbers_of c.args.self.now.seats) c.args.walker.job) c.args.granule
has_mode g c =
    c.get-mode.ensures.value ∙ ap (λ (i : ℕ). cell 0 c.args.self.now.held.modes.rows i c.args.granule) (sym c.requires)

short :
    (g : _) (c : goal.After-target-target g)
    → g.M.ModeSystem.meaning.join c.get-mode.result (g.M.ModeSystem.meaning.full c.args.walker.kind) ≡ c.get-mode.result
    → ⊥
short g c z = c.if-join-mode.false (c.join.ensures.value ∙ ap (g.M.ModeSystem.meaning.join c.get-mode.result) c.full-full.ensures.value ∙ z)

pub returns-then-make_way : goal.returns-then-make_way
returns-then-make_way g c =
    let before = (at-returns-then-make_way g c).After-target-target in
    let words = g.S.Shelf.words in
    record {
      walk =
          stopped g.M.ModeSystem.meaning (model words c.args.self.now) c.args.walker c.args.granule c.get-mode.result c.target-target.result (has_mode g before)
          c.target-target.ensures.value (short g before) c.if-target-mode.false (model words c.make_way.new.self) (sym c.if-make_way.ensures.value) c.make_way.ensures.model;
      numbers = c.make_way.ensures.numbers;
    }

pub returns : goal.returns
returns g c =
    let before = (at-returns g c).After-target-target in
    let words = g.S.Shelf.words in
    record {
      walk =
          raised g.M.ModeSystem.meaning (model words c.args.self.now) c.args.walker c.args.granule c.get-mode.result c.target-target.result (has_mode g before)
          c.target-target.ensures.value (short g before) c.if-target-mode.false (model words c.make_way.new.self) (model words c.raise.new.self)
          (sym c.if-make_way.ensures.value) c.make_way.ensures.model c.raise.ensures.model;
      numbers = c.raise.ensures.numbers ∙ c.make_way.ensures.numbers;
    }

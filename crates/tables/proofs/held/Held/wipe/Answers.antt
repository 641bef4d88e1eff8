use Rattle.std.proofs.Common.{◌≡◌, ℕ, ◌+◌, ◌<◌, length, set, replicate, ◌∙◌, arith}
use Rattle.std.proofs.lemmas.List.{set-set}
use Rattle.tables.specs.Grids.{cell}
use Rattle.tables.proofs.Grids.{long_at, wiped_more, wiped_all}
use Rattle.tables.proofs.held.Held.wipe.Goals.{After-release, at-loop-granule-preserved, at-returns-2}
use Rattle.tables.proofs.held.Held.wipe.Goals as goal

-- one cell more is wiped, and nothing else
wiped : (c : After-release) → (y : ℕ) → y < c.loop-granule.granule + 1 → cell 0 c.release.new.self.modes.rows c.args.seat.slot y ≡ 0
wiped c =
    let t = c.loop-granule.self in
    let within : c.args.seat.slot < length t.modes.rows = omega (arith, t.modes.full, c.args.seat.within) in
    let near = long_at 256 t.modes.rows c.args.seat.slot within t.modes.long in
    rw c.release.ensures.rows
    (wiped_more 0 t.modes.rows c.args.seat.slot c.loop-granule.granule within (omega (arith, near, c.loop-granule-test.true)) c.loop-granule.invariant.1)

only :
    (c : After-release)
    → set c.release.new.self.modes.rows c.args.seat.slot (replicate 256 0) ≡ set c.args.self.now.modes.rows c.args.seat.slot (replicate 256 0)
only c = rw c.release.ensures.rows (set-set c.loop-granule.self.modes.rows c.args.seat.slot _ _ ∙ c.loop-granule.invariant.0)

pub loop-granule-preserved : goal.loop-granule-preserved
loop-granule-preserved c = let r = (at-loop-granule-preserved c).After-release in (only r, wiped r)

pub returns-2 : goal.returns-2
returns-2 c =
    let r = (at-returns-2 c).After-release in
    let rows = c.release.new.self.modes.rows in
    let within : c.args.seat.slot < length rows = omega (arith, c.release.new.self.modes.full, c.args.seat.within) in
    record {
      rows =
          wiped_all 0 rows c.args.seat.slot (long_at 256 rows c.args.seat.slot within c.release.new.self.modes.long) (λ y k. wiped r y (omega arith))
          ∙ only r;
    }

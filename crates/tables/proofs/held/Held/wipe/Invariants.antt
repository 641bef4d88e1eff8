use Rattle.std.proofs.Common.{◌≡◌, ℕ, ◌<◌, set, replicate}
use Rattle.tables.specs.Grids.{cell}
use Rattle.tables.proofs.held.Held.wipe.Given as goal

-- only this slot has changed, and the granules so far are free of it
abbrev pub invariant-loop-granule : goal.invariant-loop-granule
invariant-loop-granule l =
    (set l.self.modes.rows l.seat.slot (replicate 256 0) ≡ set l.initial.self.modes.rows l.seat.slot (replicate 256 0))
    × ((y : ℕ) → y < l.granule → cell 0 l.self.modes.rows l.seat.slot y ≡ 0)

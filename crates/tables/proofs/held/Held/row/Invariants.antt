use Rattle.std.proofs.Common.{◌≡◌, [], get_or}
use Rattle.tables.specs.Heads.{join_below, if_held}
use Rattle.tables.proofs.held.Held.row.Given as goal

abbrev pub invariant-loop-mode : goal.invariant-loop-mode
invariant-loop-mode g l = l.group ≡ join_below g.M.ModeSystem.meaning l.mode (if_held (get_or l.self.counts l.granule []))

use Rattle.std.proofs.Common.{◌≡◌, suc, ◌-◌, unwrap_or}
use Rattle.tables.specs.Seats.{given}
use Rattle.tables.proofs.Meetings.{Reached, far}
use Rattle.tables.proofs.kernel.Core.wound_younger.Given as goal

abbrev pub invariant-loop-next : goal.invariant-loop-next
invariant-loop-next g l =
    (given (unwrap_or l.next 0) ≡ l.next)
    × Reached g.M.ModeSystem.meaning g.met.M.ModeSystem.lawful g.S.Shelf.words l.initial.self l.claim.asker l.claim.granule l.claim.target l.self (unwrap_or l.next 0)

-- the numbers that are still to come
abbrev pub decreases-loop-next : goal.decreases-loop-next
decreases-loop-next g l = suc l.initial.self.seats.opened - far l.initial.self.seats.opened (unwrap_or l.next 0)

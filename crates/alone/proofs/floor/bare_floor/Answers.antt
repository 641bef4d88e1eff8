use Rattle.alone.proofs.Floors.{bare_halves}
use Rattle.alone.proofs.floor.bare_floor.Goals as goal

pub returns : goal.returns
returns c =
    let joined = c.new-3.ensures in
    record { made = rw (joined.first, joined.second, c.in_ok-first.ensures.made, c.in_ok-second.ensures.made) bare_halves }

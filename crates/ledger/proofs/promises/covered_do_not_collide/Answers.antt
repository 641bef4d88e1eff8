use Rattle.ledger.proofs.Promised.{covered_do_not_collide}
use Rattle.ledger.proofs.promises.covered_do_not_collide.Goals as goal

pub returns : goal.returns
returns c = record { apart = covered_do_not_collide }

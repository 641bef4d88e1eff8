use Rattle.ledger.proofs.Promised.{promise_kept}
use Rattle.ledger.proofs.promises.promise_kept.Goals as goal

pub returns : goal.returns
returns c = record { promise = promise_kept }

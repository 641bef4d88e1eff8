use Rattle.ledger.proofs.Promised.{oldest_never_waits}
use Rattle.ledger.proofs.promises.oldest_goes_on.Goals as goal

pub returns : goal.returns
returns c = record { oldest = oldest_never_waits }

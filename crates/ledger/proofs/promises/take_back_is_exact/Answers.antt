use Rattle.ledger.proofs.Promised.{take_back_exact}
use Rattle.ledger.proofs.promises.take_back_is_exact.Goals as goal

pub returns : goal.returns
returns c = record { exact = take_back_exact }

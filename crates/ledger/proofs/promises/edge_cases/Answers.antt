use Rattle.ledger.proofs.Stories.{edge_cases}
use Rattle.ledger.proofs.promises.edge_cases.Goals as goal

pub returns : goal.returns
returns c = record { cases = edge_cases }

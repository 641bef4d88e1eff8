use Rattle.std.proofs.Common.{arith}
use Rattle.shelf.specs.SidesLemmas.{length_joined}
use Rattle.shelf.proofs.joined.JoinedShelfShelf.size.Goals as goal

pub returns : goal.returns
returns g c = record { value = rw length_joined (omega arith) }

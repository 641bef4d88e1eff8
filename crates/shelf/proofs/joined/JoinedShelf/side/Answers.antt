use Rattle.std.proofs.Common.{sym, subst}
use Rattle.shelf.specs.Sides.{Leads}
use Rattle.shelf.specs.SidesLemmas.{leads}
use Rattle.shelf.proofs.joined.JoinedShelf.side.Goals as goal

pub returns : goal.returns
returns g c = subst (Leads _ _ _) (sym c.side_of.ensures) (leads _ _ _ _ c.size.ensures.value)

-- What comes of one granule of a walk.
use Rattle.std.specs.Prelude.{ℕ, true, false, List}
use Rattle.modes.specs.Systems.{System}
use Rattle.ledger.specs.Walks.{Walked, walk}
use Rattle.ledger.specs.Models.{Model, model_hands}
use Rattle.tables.specs.declared.kernel.walks.Step.{Step}
use Rattle.tables.specs.declared.kernel.walks.Step.TheVariants.{Covered, On, Stopped}
use Rattle.tables.specs.declared.kernel.walks.Walker.{Walker}

-- the walk of a walker over what is left of its path
abbrev pub walk_on : System → Walker → List ℕ → Model → Walked Model
walk_on s w xs m = walk model_hands s w.kind w.goal w.job xs m

-- what the walk comes to after a step
abbrev pub after_step : System → Walker → Step → List ℕ → Model → Walked Model
after_step s w Covered xs m = record { left = m; complete = true }
after_step s w On xs m = walk_on s w xs m
after_step s w Stopped xs m = record { left = m; complete = false }

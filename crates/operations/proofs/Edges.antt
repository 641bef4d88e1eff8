-- The cases at the edges, by computing them.
use Rattle.std.proofs.Common.{ℕ, refl, ap, zero-add}
use Rattle.granules.specs.Paths.{path, is_record}
use Rattle.operations.specs.declared.operation.Outcome.TheVariants.{Figures}
use Rattle.operations.specs.Words.{after}
use Rattle.operations.specs.Edges.{OneGranule, Wraps, HalvesUp, EightDeep}

pub one_granule : OneGranule
unfolding path is_record
one_granule word = ap (λ (s : ℕ). Figures s 1) (zero-add word)

pub wraps : Wraps
unfolding after path is_record
wraps = refl

pub halves_up : HalvesUp
unfolding path is_record
halves_up = (refl, refl)

pub eight_deep : EightDeep
unfolding path
eight_deep = (refl, refl, refl)

pub ruleset edges = (one_granule, wraps, halves_up, eight_deep)

-- What a tree's nodes say.
use Rattle.std.specs.Prelude.{ℕ, List, take, map}
use Rattle.granules.specs.declared.tree.Node.{Node}

-- the parents of the first n
abbrev pub first_parents : ℕ → List Node → List ℕ
first_parents n nodes = take n (map (λ x. x.parent) nodes)

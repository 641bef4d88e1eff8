use Rattle.std.proofs.Common.{◌≡◌, ◌+◌, length, map, take}
use Rattle.granules.proofs.Leaves.{Marked}
use Rattle.granules.proofs.tree.makes.kept.Given as goal

abbrev pub invariant-loop-g : goal.invariant-loop-g
invariant-loop-g l = record {
  long : length l.nodes ≡ 256;
  parents : take l.g (map (λ n. n.parent) l.nodes) ≡ take l.g l.parents;
  leaves : Marked l.parents (map (λ n. n.leaf) l.nodes) 1;
}

abbrev pub invariant-loop-p : goal.invariant-loop-p
invariant-loop-p l = record {
  long : length l.nodes ≡ 256;
  parents : take (length l.parents) (map (λ n. n.parent) l.nodes) ≡ l.parents;
  leaves : Marked l.parents (map (λ n. n.leaf) l.nodes) (length l.yielded + 1);
}

use Rattle.std.proofs.Common.{◌+◌, ℕ, Bool, true, false, List, [], ◌∷◌, ◌++◌, length, get_or, map, set, take, sym, refl, ap, ◌∙◌, subst, arith}
use Rattle.std.proofs.lemmas.List.{length-set, length-map, length_push, map-set, take_more, take_more_set}
use Rattle.std.proofs.lemmas.Iterator.{YieldsList-from_slice}
use Rattle.std.proofs.lemmas.Iterator.Adapters.{YieldsList-from_skip}
use Rattle.std.proofs.lemmas.Iterator.Consumers.{YieldsList-at, YieldsList-turn}
use Rattle.std.proofs.Math.Seq.{map-set_same}
use Rattle.granules.specs.declared.tree.Node.{Node}
use Rattle.granules.proofs.Climbs.{parent_small}
use Rattle.granules.proofs.Leaves.{Marked, marked_more, all_left, nth_child}
use Rattle.granules.proofs.tree.makes.kept.Goals as goal

pub loop-g-init : goal.loop-g-init
loop-g-init c = record { long = refl; parents = refl; leaves = all_left c.args.parents.now 256 (record { parent = 0; leaf = true }) refl }

pub overflow_cast-nodes : goal.overflow_cast-nodes
overflow_cast-nodes c = omega (arith, parent_small c.args.parents.now c.requires.rooted c.loop-g.g c.loop-g-test.true, c.requires.few)

pub loop-g-preserved : goal.loop-g-preserved
loop-g-preserved c =
    let ps = c.args.parents.now in
    let g = c.loop-g.g in
    let nodes = c.loop-g.nodes in
    let p = get_or ps g 0 in
    let d : Node = record { parent = 0; leaf = false } in
    let new : Node = record { parent = p; leaf = (get_or nodes g d).leaf } in
    let row = map (λ (n : Node). n.parent) nodes in
    record {
      long = length-set nodes g new ∙ c.loop-g.invariant.long;
      parents =
          ap (take (g + 1)) (map-set (λ (n : Node). n.parent) nodes g new)
          ∙ take_more_set row g p (omega (arith, length-map nodes (λ (n : Node). n.parent), c.loop-g.invariant.long, c.requires.few))
          ∙ ap (λ (xs : List ℕ). xs ++ p ∷ []) c.loop-g.invariant.parents
          ∙ sym (take_more ps g 0 c.loop-g-test.true);
      leaves =
          subst (λ (x : List Bool). Marked ps x 1)
          (sym (map-set_same (λ (n : Node). n.leaf) nodes g new d refl)) c.loop-g.invariant.leaves;
    }

pub bounds-nodes-p : goal.bounds-nodes-p
bounds-nodes-p c =
    let ps = c.args.parents.now in
    let road =
    YieldsList-at c.into_iter-p-iterator.ensures.into_iter_gives
    (YieldsList-from_skip 1 (YieldsList-at c.skip-p-items.ensures.source (YieldsList-from_slice ps (cc))) c.skip-p-items.ensures.count)
    in
    let turn = YieldsList-turn road c.loop-p.yielded c.loop-p.p-iterator c.loop-p.yielded_by c.next.result c.next.new.self c.in-Some.p c.in-Some.is c.next.ensures.steps in
    let nth = nth_child ps (length c.loop-p.yielded) c.in-Some.p.now turn.0 turn.1 in
    omega (arith, parent_small ps c.requires.rooted (length c.loop-p.yielded + 1) nth.0, nth.1, c.requires.few)

pub loop-p-preserved : goal.loop-p-preserved
loop-p-preserved c =
    let ps = c.args.parents.now in
    let road =
    YieldsList-at c.into_iter-p-iterator.ensures.into_iter_gives
    (YieldsList-from_skip 1 (YieldsList-at c.skip-p-items.ensures.source (YieldsList-from_slice ps (cc))) c.skip-p-items.ensures.count)
    in
    let turn = YieldsList-turn road c.loop-p.yielded c.loop-p.p-iterator c.loop-p.yielded_by c.next.result c.next.new.self c.in-Some.p c.in-Some.is c.next.ensures.steps in
    let i = length c.loop-p.yielded + 1 in
    let p = c.in-Some.p.now in
    let nth = nth_child ps (length c.loop-p.yielded) p turn.0 turn.1 in
    let nodes = c.loop-p.nodes in
    let d : Node = record { parent = 0; leaf = false } in
    let new : Node = record { parent = (get_or nodes p d).parent; leaf = false } in
    let free = map (λ (n : Node). n.leaf) nodes in
    record {
      long = length-set nodes p new ∙ c.loop-p.invariant.long;
      parents =
          ap (take (length ps)) (map-set_same (λ (n : Node). n.parent) nodes p new d refl)
          ∙ c.loop-p.invariant.parents;
      leaves =
          subst (λ (n : ℕ). Marked ps (map (λ (m : Node). m.leaf) (set nodes p new)) n)
          (ap (λ (n : ℕ). n + 1) (sym (length_push c.loop-p.yielded c.in-Some.p)))
          (subst (λ (x : List Bool). Marked ps x (i + 1))
          (ap (λ (q : ℕ). set free q false) (sym nth.1) ∙ sym (map-set (λ (n : Node). n.leaf) nodes p new))
          (marked_more ps free i (omega arith) (length-map nodes (λ (n : Node). n.leaf) ∙ c.loop-p.invariant.long) c.loop-p.invariant.leaves));
    }

use Rattle.std.proofs.Common.{◌≡◌, ℕ, true, List, sym, ap, ◌∙◌, subst, arith}
use Rattle.granules.specs.Paths.{is_record}
use Rattle.granules.specs.Tables.{rooted, shallow}
use Rattle.granules.proofs.Leaves.{record_free}
use Rattle.granules.proofs.tree.Tree.new.Goals as goal

pub invariant_of-result : goal.invariant_of-result
invariant_of-result c =
    let ps = c.args.parents.now in
    let same = c.kept.ensures.parents in
    record {
      some = omega arith;
      few = omega arith;
      full = c.kept.ensures.len;
      rooted = subst (λ (x : List ℕ). rooted x ≡ true) (sym same) (sym c.if-not-is_rooted.ensures.value);
      shallow = subst (λ (x : List ℕ). shallow x ≡ true) (sym same) (sym c.if-not-is_shallow.ensures.value);
      leaves =
          λ g h.
          c.kept.ensures.leaves g (omega arith)
          ∙ record_free ps g h
          ∙ ap (λ (x : List ℕ). is_record x g) (sym same);
    }

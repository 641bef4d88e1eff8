use Rattle.granules.proofs.tree.Tree.+is_beneath.Given as goal

abbrev pub decreases-is_beneath : goal.decreases-is_beneath
decreases-is_beneath l = l.granule

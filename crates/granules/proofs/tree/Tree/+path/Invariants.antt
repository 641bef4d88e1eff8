use Rattle.granules.proofs.tree.Tree.+path.Given as goal

abbrev pub decreases-path : goal.decreases-path
decreases-path l = l.granule

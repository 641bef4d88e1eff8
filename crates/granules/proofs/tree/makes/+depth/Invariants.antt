use Rattle.granules.proofs.tree.makes.+depth.Given as goal

abbrev pub decreases-depth : goal.decreases-depth
decreases-depth l = l.granule

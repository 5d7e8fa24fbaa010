use Rattle.hk_audit.proofs.fronts.+behind_longer.Given as goal

abbrev pub decreases-behind_longer : goal.decreases-behind_longer
decreases-behind_longer l = l.n

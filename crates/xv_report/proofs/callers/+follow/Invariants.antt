use Rattle.xv_report.proofs.callers.+follow.Given as goal

abbrev pub decreases-follow : goal.decreases-follow
decreases-follow l = l.most

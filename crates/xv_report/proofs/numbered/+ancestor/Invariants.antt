use Rattle.xv_report.proofs.numbered.+ancestor.Given as goal

abbrev pub decreases-ancestor : goal.decreases-ancestor
decreases-ancestor l = l.number

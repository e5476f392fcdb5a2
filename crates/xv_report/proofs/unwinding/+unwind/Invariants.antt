use Rattle.xv_report.proofs.unwinding.+unwind.Given as goal

abbrev pub decreases-unwind : goal.decreases-unwind
decreases-unwind l = l.most

use Rattle.xv_debug.proofs.processes.+show_from.Given as goal

abbrev pub decreases-show_from : goal.decreases-show_from
decreases-show_from l = l.lines

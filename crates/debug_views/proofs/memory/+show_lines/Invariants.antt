use Rattle.debug_views.proofs.memory.+show_lines.Given as goal

abbrev pub decreases-show_lines : goal.decreases-show_lines
decreases-show_lines l = l.lines

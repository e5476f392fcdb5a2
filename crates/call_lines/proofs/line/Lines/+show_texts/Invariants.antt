use Rattle.call_lines.proofs.line.Lines.+show_texts.Given as goal

abbrev pub decreases-show_texts : goal.decreases-show_texts
decreases-show_texts l = l.most

use Rattle.call_lines.proofs.memory.+push_text.Given as goal

abbrev pub decreases-push_text : goal.decreases-push_text
decreases-push_text l = l.most

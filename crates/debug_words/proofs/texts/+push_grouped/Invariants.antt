use Rattle.debug_words.proofs.texts.+push_grouped.Given as goal

abbrev pub decreases-push_grouped : goal.decreases-push_grouped
decreases-push_grouped l = l.thousands

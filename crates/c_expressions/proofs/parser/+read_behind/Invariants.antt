use Rattle.c_expressions.proofs.parser.+read_behind.Given as goal

abbrev pub decreases-read_behind : goal.decreases-read_behind
decreases-read_behind l = l.most

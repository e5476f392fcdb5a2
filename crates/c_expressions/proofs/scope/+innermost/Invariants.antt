use Rattle.c_expressions.proofs.scope.+innermost.Given as goal

abbrev pub decreases-innermost : goal.decreases-innermost
decreases-innermost l = l.count

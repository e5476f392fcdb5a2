use Rattle.std.proofs.Common.{◌≡◌, length, map}
use Rattle.c_expressions.specs.Tokens.{seen, tokens_in}
use Rattle.c_expressions.proofs.Pieces.{put_before}
use Rattle.c_expressions.proofs.tokens.tokens_of.Given as goal

abbrev pub invariant-loop-rest : goal.invariant-loop-rest
invariant-loop-rest l = tokens_in l.text ≡ put_before (map seen l.tokens.items) (tokens_in l.rest)

abbrev pub decreases-loop-rest : goal.decreases-loop-rest
decreases-loop-rest l = length l.rest

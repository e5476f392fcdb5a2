use Rattle.std.proofs.Common.{None, Some, refl}
use Rattle.c_expressions.specs.Tokens.{seen}
use Rattle.c_expressions.proofs.Pieces.{minus-is-first, minus-none}
use Rattle.c_expressions.proofs.tokens.minus_before.Goals as goal

pub returns-in_default-word_token-clause-none : goal.returns-in_default-word_token-clause-none
returns-in_default-word_token-clause-none c = minus-none c.args.rest.now c.word_first.result.0.now None c.in_default.ensures.none c.word_first.ensures.word c.in_default-word_token.ensures refl

pub returns-in_default-negative-clause-none : goal.returns-in_default-negative-clause-none
returns-in_default-negative-clause-none c =
    minus-none c.args.rest.now c.word_first.result.0.now (Some (seen c.in-Some-word_token.number)) c.in_default.ensures.none c.word_first.ensures.word c.in-Some-word_token.ensures
    c.in_default-negative.ensures

pub returns-clause-some : goal.returns-clause-some
returns-clause-some c =
    minus-is-first c.args.rest.now c.word_first.result.0.now c.word_first.result.1 (Some (seen c.in-Some-word_token.number)) c.in-Some-negative.token
    c.in_default.ensures.none c.word_first.ensures.word c.word_first.ensures.rest c.in-Some-word_token.ensures c.in-Some-negative.ensures

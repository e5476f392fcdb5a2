use Rattle.c_expressions.proofs.Pieces.{word-is-first, word-none}
use Rattle.c_expressions.proofs.tokens.word_before.Goals as goal

pub returns-in_default-clause-none : goal.returns-in_default-clause-none
returns-in_default-clause-none c = word-none c.args.text.now c.word_first.result.0.now c.requires c.word_first.ensures.word c.in_default.ensures

pub returns-clause-some : goal.returns-clause-some
returns-clause-some c =
    word-is-first c.args.text.now c.word_first.result.0.now c.word_first.result.1 c.in-Some.token c.requires c.word_first.ensures.word c.word_first.ensures.rest c.in-Some.ensures

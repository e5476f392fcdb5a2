use Rattle.c_expressions.proofs.TextsRead.{unwritten, written}
use Rattle.c_expressions.proofs.finding.read_expression.Goals as goal

pub returns-in-Ok-clause-is : goal.returns-in-Ok-clause-is
returns-in-Ok-clause-is c =
    written c.args.text.now c.in_ok-tokens.tokens.items c.as_slice.result.now c.in-Ok.expression.name c.in-Ok.expression.steps.items c.in_ok-tokens.ensures.read c.as_slice.ensures.value
    c.in-Ok.ensures.is

pub returns-clause-refused : goal.returns-clause-refused
returns-clause-refused c =
    unwritten c.in-Err.error c.args.text.now c.in_ok-tokens.tokens.items c.as_slice.result.now c.in_ok-tokens.ensures.read c.as_slice.ensures.value c.in-Err.ensures.refused

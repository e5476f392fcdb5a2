use Rattle.c_expressions.proofs.Longer.{more-behind, nothing-behind}
use Rattle.c_expressions.proofs.parser.+read_behind.Goals as goal

pub returns-in_default-clause-is : goal.returns-in_default-clause-is
returns-in_default-clause-is t c = nothing-behind c.args.tokens.now c.args.steps.now.items

pub returns-clause-is : goal.returns-clause-is
returns-clause-is t c =
    more-behind c.in-Some.behind c.args.tokens.now c.in-Some.rest.now c.in_ok-after.after.now c.args.steps.now.items c.add_behind.new.steps.items c.read_behind.new.steps.items
    c.in-Some.ensures.some c.in_ok-add_behind.ensures.added c.in_ok-after.ensures.is

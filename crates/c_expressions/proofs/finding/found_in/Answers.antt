use Rattle.c_expressions.specs.Finding.{read, unread}
use Rattle.c_expressions.proofs.finding.found_in.Goals as goal

pub returns-in_ok-about-in-Ok : goal.returns-in_ok-about-in-Ok
returns-in_ok-about-in-Ok g c = read c.in-Ok.expression.name c.in-Ok.expression.steps.items c.in_ok-about-in-Ok.about c.in-Ok.ensures.is c.in_ok-about-in-Ok.ensures

pub returns-in-Err-NoExpression : goal.returns-in-Err-NoExpression
returns-in-Err-NoExpression g c = unread (rw c.in-Err-NoExpression.field-0-is at c.in-Err-NoExpression.ensures.refused)

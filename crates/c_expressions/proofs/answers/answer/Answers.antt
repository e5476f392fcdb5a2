use Rattle.c_expressions.proofs.Answered.{of-none, of-some}
use Rattle.c_expressions.proofs.answers.answer.Goals as goal

pub returns-in-Some : goal.returns-in-Some
returns-in-Some g c = of-some _ _ _ _ c.args.asked _ (rw c.in-Some.is at c.in_ok-text.ensures)

pub returns-in_ok-told-in-None : goal.returns-in_ok-told-in-None
returns-in_ok-told-in-None g c = of-none _ _ _ _ c.args.asked _ c.in_ok-told-in-None.ensures

use Rattle.c_expressions.proofs.Answered.{in-frame}
use Rattle.c_expressions.proofs.answers.answer_by_tables.Goals as goal

pub returns : goal.returns
returns g c = in-frame _ _ _ _ c.args.asked _ _ c.in_ok-frame.ensures.address c.in_ok-told.ensures

use Rattle.std.proofs.Common.{inr}
use Rattle.explained_run.proofs.running.explain_by_words.Goals as goal

pub returns-in-Ok-choice_of-clause-asked : goal.returns-in-Ok-choice_of-clause-asked
returns-in-Ok-choice_of-clause-asked g c = inr (c.in-Ok.settings, c.in-Ok.ensures, c.tell_asked.ensures.asked)

use Rattle.std.proofs.Common.{inl, inr}
use Rattle.xv_run.proofs.run_by_words.Goals as goal

pub returns-in-Ok : goal.returns-in-Ok
returns-in-Ok c = inr (c.in-Ok.settings, c.in-Ok.ensures, c.run.ensures)

pub returns-in-Err : goal.returns-in-Err
returns-in-Err c = inl c.close.ensures

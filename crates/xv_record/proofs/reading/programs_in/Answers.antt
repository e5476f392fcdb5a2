use Rattle.xv_record.proofs.Whole.{told-push}
use Rattle.xv_record.proofs.reading.programs_in.Goals as goal

pub loop-line-preserved : goal.loop-line-preserved
loop-line-preserved c = told-push c.loop-line.programs.items _ c.in_ok-program.program c.in_ok-push.ensures.items c.loop-line.invariant c.in_ok-program.ensures

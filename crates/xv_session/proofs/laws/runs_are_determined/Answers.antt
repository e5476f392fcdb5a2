use Rattle.xv_session.proofs.Again.{played-again}
use Rattle.xv_session.proofs.laws.runs_are_determined.Goals as goal

pub returns : goal.returns
returns c = played-again

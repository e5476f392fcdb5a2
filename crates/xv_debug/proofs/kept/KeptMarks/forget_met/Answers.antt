use Rattle.std.proofs.Common.{rules}
use Rattle.arrayvec.proofs.ArrayVecLemmas.{filter-from_retain}
use Rattle.xv_session.specs.Recorded.{running_of}
use Rattle.xv_debug.specs.Kept.{is_left}
use Rattle.xv_debug.proofs.kept.KeptMarks.forget_met.Goals as goal

pub returns : goal.returns
returns c = filter-from_retain _ (is_left (running_of c.args.session.now)) _ (λ x b f y. search rules) _ _ c.retain.ensures.filtered

use Rattle.std.proofs.lemmas.Result.{IfOk-weaker}
use Rattle.xv_debug.proofs.motion.backwards.last_place.Goals as goal

pub returns-clause-last : goal.returns-clause-last
returns-clause-last g c =
    IfOk-weaker c.last_before_here.result _ _ (λ found last. record { begin = last.begin; looks = last.looks.0; whole = last.whole }) c.last_before_here.ensures.last

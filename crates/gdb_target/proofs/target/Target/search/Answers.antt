use Rattle.std.proofs.lemmas.Result.{IfOk-weaker}
use Rattle.gdb_target.proofs.target.Target.search.Goals as goal

pub returns-clause-hit : goal.returns-clause-hit
returns-clause-hit c = IfOk-weaker c.last_before_here.result _ _ (λ h last. last.looks.before) c.last_before_here.ensures.last

pub returns-clause-last : goal.returns-clause-last
returns-clause-last c =
    IfOk-weaker c.last_before_here.result _ _ (λ h last. record { begin = last.begin; looks = last.looks.looks; whole = last.whole }) c.last_before_here.ensures.last

pub returns-clause-end : goal.returns-clause-end
returns-clause-end c = IfOk-weaker c.last_before_here.result _ _ (λ h last. last.looks.looks.up_to) c.last_before_here.ensures.last

use Rattle.std.proofs.Common.{refl}
use Rattle.std.proofs.lemmas.Result.{IfOk-weaker}
use Rattle.gdb_target.proofs.target.Target.remove.Goals as goal

pub returns-clause-chosen : goal.returns-clause-chosen
returns-clause-chosen c = IfOk-weaker c.text.result _ _ (λ x e. (refl, c.remove.ensures, e)) c.text.ensures

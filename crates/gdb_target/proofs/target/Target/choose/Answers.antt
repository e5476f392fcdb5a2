use Rattle.std.proofs.Common.{None, Some, refl, subst}
use Rattle.std.proofs.lemmas.Result.{IfOk-weaker}
use Rattle.gdb_target.specs.Chosen.{IsMeant}
use Rattle.gdb_target.proofs.target.Target.choose.Goals as goal

pub returns-in_default-clause-chosen : goal.returns-in_default-clause-chosen
returns-in_default-clause-chosen c =
    IfOk-weaker c.refusal.result _ _ (λ x e. (None, subst (IsMeant c.args.self.now c.args.thread) c.in_default.is c.meant_by.ensures, (refl, e))) c.refusal.ensures

pub returns-clause-chosen : goal.returns-clause-chosen
returns-clause-chosen c =
    IfOk-weaker c.text.result _ _ (λ x e. (Some c.in-Some.pid, subst (IsMeant c.args.self.now c.args.thread) c.in-Some.is c.meant_by.ensures, (c.choose_process.ensures, e))) c.text.ensures

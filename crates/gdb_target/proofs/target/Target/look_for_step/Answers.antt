use Rattle.std.proofs.Common.{Option, subst, sym}
use Rattle.std.specs.Prelude.{IfSome}
use Rattle.gdb_target.specs.LastHit.{IsHitOf}
use Rattle.gdb_target.specs.declared.reverse.Back.TheVariants.{StepOf}
use Rattle.gdb_target.specs.declared.reverse.Hit.{Hit}
use Rattle.gdb_target.proofs.Ways.{hit-of-step}
use Rattle.gdb_target.proofs.target.Target.look_for_step.Goals as goal

pub returns-clause-hit : goal.returns-clause-hit
returns-clause-hit c =
    subst (λ (h : Option Hit). IfSome h (λ (found : Hit). IsHitOf (StepOf c.args.pid) c.args.place found)) (sym c.step_hit.ensures)
    (hit-of-step c.is_starter-stood.result c.args.place c.args.pid)

use Rattle.std.proofs.Common.{◌∙◌, ap, subst, sym}
use Rattle.std.specs.Prelude.{string_bytes}
use Rattle.kernel_spec.specs.views.State.{State}
use Rattle.gdb_target.specs.Choices.{IsAlive}
use Rattle.gdb_target.specs.Told.{state_of}
use Rattle.gdb_target.specs.declared.target.Target.{Target}
use Rattle.gdb_target.proofs.Fresh.{fresh-still}
use Rattle.gdb_target.proofs.service.beginning.taken_up.Goals as goal

pub returns-clause-run : goal.returns-clause-run
returns-clause-run c = ap (λ (t : Target). t.run) c.stop_at.ensures.rest ∙ c.new-target.ensures.run

pub returns-clause-taken_up : goal.returns-clause-taken_up
returns-clause-taken_up c =
    let at = c.stop_at.ensures in
    let new = c.stop_at.new.self in
    record {
      program_is = ap (λ (t : Target). t.program) at.rest ∙ c.new-target.ensures.program;
      path_is = ap (λ (t : Target). string_bytes t.path) at.rest ∙ ap string_bytes c.new-target.ensures.path;
      most_is = ap (λ (t : Target). t.most) at.rest ∙ c.new-target.ensures.most;
      reason = at.reason_is ∙ c.stop_here-stopped.ensures;
      lives = subst (λ (s : State). IsAlive s new.stopped.pid) (sym (ap state_of at.rest)) at.lives;
      looked_at = at.looked_at;
      fresh = fresh-still c.new-target.result new at.rest c.new-target.ensures.fresh;
    }

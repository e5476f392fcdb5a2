use Rattle.std.proofs.Common.{◌∙◌, ap, is_some, sym}
use Rattle.xk_base.proofs.Options.{none_from_is_some}
use Rattle.xv_machine.specs.Meaning.{Meaning}
use Rattle.gdb_target.specs.SameRun.{ended_with}
use Rattle.gdb_target.proofs.Ends.{ended-later}
use Rattle.gdb_target.proofs.played.Played.has_ended.Goals as goal

pub returns-clause-ended : goal.returns-clause-ended
returns-clause-ended c = λ so. sym (c.is_some.ensures ∙ ap is_some (c.halted.ensures.status ∙ ap (λ (m : Meaning). m.world.turns.halted) c.machine.ensures.machine)) ∙ so

pub returns-clause-goes_on : goal.returns-clause-goes_on
returns-clause-goes_on c = λ so.
    none_from_is_some (ended_with c.args.self.now) (sym (c.is_some.ensures ∙ ap is_some (c.halted.ensures.status ∙ ap (λ (m : Meaning). m.world.turns.halted) c.machine.ensures.machine)) ∙ so)

pub returns-clause-later : goal.returns-clause-later
returns-clause-later c = λ so.
    ended-later c.args.self.now.session c.machine.ensures.recorded
    (sym (c.is_some.ensures ∙ ap is_some (c.halted.ensures.status ∙ ap (λ (m : Meaning). m.world.turns.halted) c.machine.ensures.machine)) ∙ so)

use Rattle.std.proofs.Common.{rules, subst, sym}
use Rattle.kernel_spec.specs.waking.Wakes.{Promised}
use Rattle.xv_machine.specs.declared.event.Outcome.{Outcome}
use Rattle.xv_machine.specs.Events.{event_of, outcome_of}
use Rattle.xv_machine.specs.Meaning.{Meaning}
use Rattle.xv_machine.proofs.machine.Machine.event.Goals as goal

pub returns-in-Stepped : goal.returns-in-Stepped
returns-in-Stepped c = record {
  promised = subst (λ (m : Meaning). Promised c.args.self.now.world (event_of c.args.event) (outcome_of (Outcome.Stepped c.in-Stepped.pid)) m.world) (sym c.keep_step.ensures.kept)
      (subst (λ (o : Outcome). Promised c.args.self.now.world (event_of c.args.event) (outcome_of o) c.take-outcome.new.self.world) c.in-Stepped.is c.take-outcome.ensures.promised);
  notes = search rules;
  room = search rules;
  frames = search rules;
  sound = c.keep_step.ensures.sound;
}

pub returns : goal.returns
returns c = record {
  promised = subst (λ (m : Meaning). Promised c.args.self.now.world (event_of c.args.event) (outcome_of c.take-outcome.result) m.world) (sym c.keep.ensures.kept) c.take-outcome.ensures.promised;
  notes = search rules;
  room = search rules;
  frames = search rules;
  sound = c.keep.ensures.sound;
}

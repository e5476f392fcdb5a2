use Rattle.std.proofs.Common.{ap, ◌∙◌, subst, ◌∷◌, [], ◌++◌, None, Some, Option}
use Rattle.circular_buffer.specs.Buffer.{keep_last}
use Rattle.kernel_spec.specs.waking.Wakes.{IsPromised}
use Rattle.xv_machine.specs.declared.event.RunOutcome.{RunOutcome}
use Rattle.xv_machine.specs.declared.trace.Note.{Note}
use Rattle.xv_machine.specs.Events.{run_outcome_of}
use Rattle.xv_machine.specs.Steps.{runs_made, IsEnd}
use Rattle.xv_machine.proofs.Sent.{all-ran, some-ran}
use Rattle.xv_machine.proofs.machine.Machine.run_steps.Goals as goal

pub returns-in_default-clause-ran : goal.returns-in_default-clause-ran
returns-in_default-clause-ran c =
    let old = c.args.self.now in
    let mid = c.advance-made.new.self in
    let end : IsEnd c.args.most c.advance-made.result.made None = subst (λ (e : Option RunOutcome). IsEnd c.args.most c.advance-made.result.made e) c.in_default.is c.advance-made.ensures.end in
    let run : IsPromised old.world (runs_made c.args.pid c.advance-made.result.made None) mid.world =
    subst (λ (e : Option RunOutcome). IsPromised old.world (runs_made c.args.pid c.advance-made.result.made e) mid.world) c.in_default.is c.advance-made.ensures.run in
    all-ran c.args.most c.advance-made.result.made c.args.pid old mid c.keep_often.new.self c.requires.current end run c.advance-made.ensures.frames
    c.advance-made.ensures.trace c.keep_often.ensures.kept c.keep_often.ensures.sound

pub returns-clause-ran : goal.returns-clause-ran
returns-clause-ran c =
    let old = c.args.self.now in
    let mid = c.advance-made.new.self in
    let kept = c.keep_often.new.self in
    let made = c.advance-made.result.made in
    let o = c.in-Some.outcome in
    let end : IsEnd c.args.most made (Some o) = subst (λ (e : Option RunOutcome). IsEnd c.args.most made e) c.in-Some.is c.advance-made.ensures.end in
    let run : IsPromised old.world (runs_made c.args.pid made (Some o)) mid.world =
    subst (λ (e : Option RunOutcome). IsPromised old.world (runs_made c.args.pid made e) mid.world) c.in-Some.is c.advance-made.ensures.run in
    some-ran c.args.most made c.args.pid (run_outcome_of o) old mid kept c.keep.new.self c.requires.current end.0
    (end.1 c.args.pid) end.2 end.3 run c.advance-made.ensures.frames c.advance-made.ensures.trace c.keep_often.ensures.kept
    (c.keep.ensures.kept ∙ ap (λ (n : Note). record kept { notes = keep_last kept.room (kept.notes ++ n ∷ []) }) c.note.ensures) c.keep.ensures.sound

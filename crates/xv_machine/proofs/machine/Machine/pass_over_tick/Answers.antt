use Rattle.std.proofs.Common.{ap, ◌∙◌, ◌++◌, ◌∷◌, []}
use Rattle.circular_buffer.specs.Buffer.{keep_last}
use Rattle.xv_machine.specs.declared.trace.Note.{Note}
use Rattle.xv_machine.specs.Events.{run_outcome_of}
use Rattle.xv_machine.proofs.OverTicks.{passes}
use Rattle.xv_machine.proofs.machine.Machine.pass_over_tick.Goals as goal

pub returns-clause-passed : goal.returns-clause-passed
returns-clause-passed c = λ done.
    let sent = c.keep_often.new.self in
    passes (run_outcome_of c.tick_and_turn-outcome.result) c.args.self.now c.tick_and_turn-outcome.new.self c.keep.new.self sent c.keep-2.new.self c.tick_and_turn-outcome.ensures
    c.keep.ensures.kept c.keep_often.ensures.kept
    (c.keep-2.ensures.kept ∙ ap (λ (n : Note). record sent { notes = keep_last sent.room (sent.notes ++ n ∷ []) }) c.note.ensures) c.keep-2.ensures.sound

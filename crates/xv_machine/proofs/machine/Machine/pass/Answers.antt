use Rattle.std.proofs.Common.{sym, ap, ◌∙◌, ◌∷◌, [], ◌++◌, replicate}
use Rattle.circular_buffer.specs.Buffer.{keep_last}
use Rattle.xv_machine.specs.declared.trace.Note.{Note}
use Rattle.xv_machine.specs.Events.{run_outcome_of}
use Rattle.xv_machine.proofs.Sent.{turn-ran, idle-ran}
use Rattle.xv_machine.proofs.machine.Machine.pass.Goals as goal

pub returns-then-is_turn-clause-ran : goal.returns-then-is_turn-clause-ran
returns-then-is_turn-clause-ran c =
    let mid = c.turn-outcome.new.self in
    turn-ran c.args.most (run_outcome_of c.turn-outcome.result) c.args.self.now mid c.keep.new.self c.requires.some
    (sym c.is_turn.ensures ∙ c.if-is_turn.true) c.turn-outcome.ensures.promised c.turn-outcome.ensures.frames c.turn-outcome.ensures.trace
    (c.keep.ensures.kept ∙ ap (λ (n : Note). record mid { notes = keep_last mid.room (mid.notes ++ n ∷ []) }) c.note-note.ensures) c.keep.ensures.sound

pub returns-clause-ran : goal.returns-clause-ran
returns-clause-ran c =
    let mid = c.turn-outcome.new.self in
    idle-ran c.args.most (run_outcome_of c.turn-outcome.result) c.args.self.now mid c.keep_often.new.self c.requires.stopped
    (sym c.is_turn.ensures ∙ c.if-is_turn.false) c.turn-outcome.ensures.promised c.turn-outcome.ensures.frames c.turn-outcome.ensures.trace
    (c.keep_often.ensures.kept ∙ ap (λ (n : Note). record mid { notes = keep_last mid.room (mid.notes ++ replicate c.args.most n) }) c.note-note.ensures) c.keep_often.ensures.sound

use Rattle.std.proofs.Common.{List, map, sym, ap, ◌∙◌}
use Rattle.std.proofs.lemmas.Simd.{map-map}
use Rattle.kernel_spec.specs.views.State.{ProgramFile, named_file}
use Rattle.xv_machine.specs.Meaning.{Meaning}
use Rattle.xv_record.specs.Told.{ProgramTold, head_text_of, told_program}
use Rattle.xv_record.specs.declared.sums.ProgramSum.{ProgramSum}
use Rattle.terminal_session.specs.Records.{told_file}
use Rattle.terminal_session.proofs.recording.head_of.Goals as goal

pub returns : goal.returns
returns c =
    c.in_ok-head.ensures ∙ ap (λ (programs : List ProgramTold). head_text_of c.args.frames programs)
    (ap (λ (sums : List ProgramSum). map told_program sums) c.as_slice.ensures.value
    ∙ (c.in_ok-programs.ensures
    ∙ (sym (map-map told_file named_file c.programs.result.now)
    ∙ (ap (λ (fs : List ProgramFile). map told_file fs) c.programs.ensures
    ∙ ap (λ (m : Meaning). map told_file m.world.state.programs) c.machine.ensures.machine))))

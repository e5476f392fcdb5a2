use Rattle.std.proofs.Common.{List, Ok, ◌∙◌, ◌++◌, map, sym, ap}
use Rattle.std.proofs.lemmas.Simd.{map-map}
use Rattle.kernel_spec.specs.runs.Run.{Event}
use Rattle.kernel_spec.specs.views.State.{ProgramFile, named_file}
use Rattle.xv_live.specs.Plays.{events_of_lines}
use Rattle.xv_record.specs.declared.line.Line.{Line}
use Rattle.xv_session.specs.Recorded.{Recorded}
use Rattle.terminal_session.specs.Begun.{IsOfRecord}
use Rattle.terminal_session.specs.Records.{told_file}
use Rattle.terminal_session.proofs.debugging.led.Goals as goal

pub returns : goal.returns
returns c =
    let new = c.in_ok-session.ensures.fresh in
    let kept = c.in_ok-play_quietly.ensures.kept in
    record {
      frames = ap (λ (s : Recorded). s.frames) kept ∙ new.frames_are;
      programs = ap (λ (s : Recorded). map told_file s.programs) kept ∙ (ap (λ (fs : List ProgramFile). map told_file fs) new.programs_are
          ∙ (map-map told_file named_file c.args.programs.items ∙ c.requires));
      events = ap (λ (s : Recorded). s.events) kept ∙ (ap (λ (es : List Event). es ++ events_of_lines c.as_slice.result.now) new.events
          ∙ ap (λ (ls : List Line). events_of_lines ls) c.as_slice.ensures.value);
    }

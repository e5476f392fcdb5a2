use Rattle.std.proofs.Common.{◌≡◌, ◌∙◌, ◌+◌, ◌++◌, ◌<◌, ℕ, List, [], ◌∷◌, ap, sym, subst, arith, length, length-append, take, drop, get_or, take-append-drop, append-nil}
use Rattle.std.proofs.lemmas.Grind.{flat_map-append}
use Rattle.std.proofs.lemmas.List.{take_more}
use Rattle.std.proofs.lemmas.Result.{err_from_is_err_and}
use Rattle.kernel_spec.specs.runs.Run.{Event}
use Rattle.xv_live.specs.Plays.{events_of_line, events_of_lines}
use Rattle.xv_record.specs.declared.line.Line.{Line}
use Rattle.xv_record.specs.declared.line.Line.TheVariants.{Run}
use Rattle.recordings.specs.Recording.{IsUnfit}
use Rattle.recordings.specs.declared.recording.RecordingError.{RecordingError}
use Rattle.recordings.specs.declared.recording.RecordingError.TheVariants.{TooLong, Memory}
use Rattle.recorded_runs.proofs.recording.recording_of.Goals as goal

-- if the first of the events don't fit, all don't
unfit-all : (e : RecordingError) (first rest : List Event) → IsUnfit e first → IsUnfit e (first ++ rest)
unfit-all TooLong first rest many = omega (arith, many, length-append first rest)
unfit-all Memory first rest any = any

one-line-more : (lines : List Line) (i : ℕ) → i < length lines
    → events_of_lines lines ≡ (events_of_lines (take i lines) ++ events_of_line (get_or lines i (Run 0))) ++ events_of_lines (drop (i + 1) lines)
one-line-more lines i inside =
    let line = get_or lines i (Run 0) in
    ap events_of_lines (sym (take-append-drop (i + 1) lines)) ∙ flat_map-append events_of_line (take (i + 1) lines) (drop (i + 1) lines)
    ∙ ap (λ (es : List Event). es ++ events_of_lines (drop (i + 1) lines))
    (ap events_of_lines (take_more lines i (Run 0) inside) ∙ flat_map-append events_of_line (take i lines) (line ∷ [])
    ∙ ap (λ (es : List Event). events_of_lines (take i lines) ++ es) (append-nil (events_of_line line)))

pub returns-in_err-push-clause-refused : goal.returns-in_err-push-clause-refused
returns-in_err-push-clause-refused c =
    let lines = c.args.lines.now in
    let i = c.loop-line.line-index in
    let e = c.in_err-push.field-0.0 in
    let first = events_of_lines (take i lines) ++ events_of_line (get_or lines i (Run 0)) in
    let (x, is, same) = err_from_is_err_and c.from_residual.result c.from_residual.ensures.1 in
    let early : IsUnfit e first = subst (λ (es : List Event). IsUnfit e (es ++ events_of_line (get_or lines i (Run 0)))) c.loop-line.invariant c.in_err-push.ensures.refused in
    let all : IsUnfit e (events_of_lines lines) =
    subst (λ (es : List Event). IsUnfit e es) (sym (one-line-more lines i c.loop-line-test.true)) (unfit-all e first (events_of_lines (drop (i + 1) lines)) early) in
    rw (is, same) all

use Rattle.std.proofs.Common.{◌≡◌, ◌∙◌, ◌+◌, ◌≤◌, ◌++◌, take, length, sym, ap, arith, append-nil, append_assoc, replicate, List}
use Rattle.kernel_spec.specs.runs.Run.{Event}
use Rattle.xv_machine.specs.Events.{event_of}
use Rattle.xv_live.specs.Plays.{events_of_lines}
use Rattle.xv_live.proofs.Lines.{equal-within, equal-taken}
use Rattle.xv_live.proofs.recording.stretch_of.Goals as goal

pub spans-preserved : goal.spans-preserved
spans-preserved c =
    let list = c.args.session.now.events in
    let from = take c.args.from list in
    let place = c.spans.place in
    let count = c.in-Some.span.count in
    let event = event_of c.in-Some.span.event in
    let within : place + count ≤ length list = equal-within list place count event c.spans.invariant.0 c.in-Some.ensures.those in
    let next : c.saturating_add-place.result ≡ place + count = omega (arith, within, c.in-Some.ensures.before) in
    let made : from ++ events_of_lines c.push_span.new.lines.items ≡ take (place + count) list =
    ap (λ (es : List Event). from ++ es) c.in_ok-push_span.ensures
    ∙ (sym (append_assoc from (events_of_lines c.spans.lines.items) (replicate count event))
    ∙ equal-taken list place count event (from ++ events_of_lines c.spans.lines.items) c.spans.invariant.1 c.in-Some.ensures.those) in
    (omega (arith, within, next), made ∙ ap (λ n. take n list) (sym next))

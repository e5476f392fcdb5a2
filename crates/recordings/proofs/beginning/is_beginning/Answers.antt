use Rattle.std.proofs.Common.{◌≡◌, ◌∙◌, List, ap, arith, drop, length, min, refl, subst, sym, take}
use Rattle.std.proofs.lemmas.List.{length-drop, length-replicate, length-take, length-take-le}
use Rattle.kernel_spec.specs.runs.Run.{Event}
use Rattle.xv_machine.specs.Events.{event_of}
use Rattle.recordings.specs.Recording.{Begins}
use Rattle.recordings.proofs.Beginnings.{begins-more, begins-zero, first-more}
use Rattle.recordings.proofs.beginning.is_beginning.Goals as goal

pub rows-init : goal.rows-init
rows-init c = (omega arith, begins-zero c.args.recording.now c.args.session.now.events)

pub rows-preserved : goal.rows-preserved
rows-preserved c =
    let events = c.args.session.now.events in
    let recorded = c.args.recording.now in
    let i = c.rows.invariant in
    let e = event_of c.in-Some.event in
    let those = c.in-Some.ensures.equal.1 in
    let more = first-more events c.rows.place c.in-Some.count e i.0 those in
    let n = c.in-Some.count in
    let all : min n (length (drop c.rows.place events)) ≡ n = sym (length-take n (drop c.rows.place events)) ∙ ap length those ∙ length-replicate n e in
    let long : c.rows.place ≡ length (take c.rows.place events) = sym (length-take-le c.rows.place events i.0) in (
      omega (arith, all, length-drop c.rows.place events, i.0),
      subst (λ (es : List Event). Begins recorded es) (sym more) (begins-more recorded (take c.rows.place events) c.rows.place c.in-Some.count e i.1 long (c.if-not-has.ensures.those refl)),
    )

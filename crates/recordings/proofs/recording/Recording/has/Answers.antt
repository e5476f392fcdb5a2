use Rattle.std.proofs.Common.{◌≡◌, ◌∙◌, ◌+◌, ◌-◌, ◌<◌, ◌≤◌, ℕ, List, arith, drop, length, replicate, subst, sym, take}
use Rattle.kernel_spec.specs.runs.Run.{Event}
use Rattle.xv_machine.specs.Events.{event_of}
use Rattle.recordings.specs.Recording.{event_among}
use Rattle.recordings.proofs.Beginnings.{each-equal, more-equal, other-event, same-event}
use Rattle.recordings.proofs.recording.Recording.has.Goals as goal

pub returns-then-not-is_same-clause-others : goal.returns-then-not-is_same-clause-others
returns-then-not-is_same-clause-others c = λ _ those.
    let i = c.stretches.invariant in
    let there = each-equal c.args.self.now c.args.place c.args.count c.stretches.at (event_of c.args.event) those i.0 (omega (arith, i.0, i.1, c.stretches-test.true)) in
    let next = c.stretch_at-next.ensures.equal c.stretches.at (omega arith) c.stretch_at-next.ensures.after in
    other-event (event_of c.stretch_at-next.result.event) (event_of c.args.event) (sym c.if-not-is_same.ensures) (sym next ∙ there.1)

pub stretches-preserved : goal.stretches-preserved
stretches-preserved c =
    let i = c.stretches.invariant in
    let e = event_of c.args.event in
    let n = c.stretches.at - c.args.place in
    let next = c.stretch_at-next in
    let at : c.args.place + n ≡ c.stretches.at = omega (arith, i.0) in
    let few : c.min-here.result ≤ next.result.end - c.stretches.at = omega (arith, c.min-here.ensures) in
    let same : event_of next.result.event ≡ e = same-event (event_of next.result.event) e (sym c.if-not-is_same.ensures) in
    let each : (k : ℕ) → k < c.min-here.result → event_among c.args.self.now (c.args.place + n + k) ≡ e =
    λ k h. next.ensures.equal (c.args.place + n + k) (omega (arith, at)) (omega (arith, at, few, h)) ∙ same in
    let within : c.args.place + n + c.min-here.result ≤ length c.args.self.now = omega (arith, at, few, next.ensures.inside, next.ensures.after) in
    let sum : n + c.min-here.result ≡ c.stretches.at + c.min-here.result - c.args.place = omega (arith, at) in (
      omega (arith, i.0),
      omega (arith, i.1, c.min-here.ensures),
      omega (arith, within, at),
      subst (λ (m : ℕ). take m (drop c.args.place c.args.self.now) ≡ replicate m e) sum (more-equal c.args.self.now c.args.place n c.min-here.result e within each i.3),
    )

use Rattle.std.proofs.Common.{◌≡◌, ◌∙◌, ℕ, ◌-◌, ◌++◌, ◌≤◌, List, ap, sym, subst, arith, length, length-append, replicate}
use Rattle.std.proofs.lemmas.List.{length-replicate}
use Rattle.kernel_spec.specs.runs.Run.{Event}
use Rattle.xv_machine.specs.Events.{event_of}
use Rattle.recordings.specs.Recording.{AreInOrder, end_of, events_from}
use Rattle.recordings.specs.declared.recording.Stretch.{Stretch}
use Rattle.recordings.proofs.Halving.{long, events-push, end-push, order-push}
use Rattle.recordings.proofs.recording.Recording.push.Goals as goal

pub returns-in_default-clause-refused : goal.returns-in_default-clause-refused
returns-in_default-clause-refused c =
    let more = replicate c.args.count (event_of c.args.event) in
    let whole = length-append c.args.self.now more in
    let line = length-replicate c.args.count (event_of c.args.event) in
    omega (arith, whole, line, c.self.invariant.1, long 0 c.self.inside.stretches.items c.self.invariant.0, ap length c.self.view_is, c.in_default.ensures)

pub invariant_of-self-2 : goal.invariant_of-self-2
invariant_of-self-2 c =
    let old = c.self.inside.stretches.items in
    let s : Stretch = record { event = c.args.event; end = c.in-Some.end } in
    let after : end_of 0 old ≤ s.end = omega (arith, c.self.invariant.1, c.in-Some.ensures) in
    let P : List Stretch → Type 0 = λ list. AreInOrder 0 list × (s.end ≡ end_of 0 list) in
    subst P (sym c.in-Ok.ensures.items) (order-push 0 old s c.self.invariant.0 after, sym (end-push 0 old s))

pub returns-clause-more : goal.returns-clause-more
returns-clause-more c =
    let old = c.self.inside.stretches.items in
    let e = event_of c.args.event in
    let s : Stretch = record { event = c.args.event; end = c.in-Some.end } in
    let count : s.end - end_of 0 old ≡ c.args.count = omega (arith, c.self.invariant.1, c.in-Some.ensures) in
    ap (events_from 0) c.in-Ok.ensures.items ∙ events-push 0 old s ∙ ap (λ (n : ℕ). events_from 0 old ++ replicate n e) count
    ∙ ap (λ (es : List Event). es ++ replicate c.args.count e) c.self.view_is

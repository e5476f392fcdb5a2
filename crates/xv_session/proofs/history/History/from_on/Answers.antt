use Rattle.std.proofs.Common.{◌≡◌, ◌≢◌, ◌+◌, ◌-◌, ◌<◌, ◌≤◌, ℕ, List, length, take, drop, get_or, replicate, Some, ap, sym, subst, ◌∙◌, arith}
use Rattle.std.specs.Prelude.{slice_get}
use Rattle.std.proofs.lemmas.List.{get_or_read}
use Rattle.kernel_spec.specs.runs.Run.{Event}
use Rattle.xv_machine.specs.Events.{event_of}
use Rattle.xv_machine.specs.declared.event.Event.TheVariants.{Run}
use Rattle.xv_session.specs.declared.history.Span.{Span}
use Rattle.xv_session.specs.Answers.{AreEqualFrom}
use Rattle.xv_session.specs.Spans.{Kept, kept, all_events, span_events}
use Rattle.xv_session.proofs.Spans.{around, before-last, before-next, from-middle, from-last, none-behind, other-there}
use Rattle.xv_session.proofs.history.History.from_on.Goals as goal

pub returns-then-start-place-clause-equal : goal.returns-then-start-place-clause-equal
returns-then-start-place-clause-equal c =
    let h = c.self.inside in
    let at = length h.over.items in
    let before = c.args.place - (h.count - h.last.count) in
    let all : length h.over.items ≤ at = omega arith in
    let inside : c.args.place < h.count = omega arith in
    let behind : h.count - h.last.count ≤ c.args.place = omega arith in
    let is : before + length (all_events (take at h.over.items)) ≡ c.args.place = omega (arith, behind, before-last h.over.items h.last h.count c.self.invariant.0) in
    let r = from-last h.over.items h.last at before c.args.place h.count all is c.self.invariant.0 inside in
    let some : 0 < h.last.count - before = omega (arith, r.0) in
    subst (λ (k : Kept). AreEqualFrom k.events c.args.place (Some (event_of h.last.event, h.last.count - before))) c.self.view_is (some, r.1)

pub returns-then-start-place-2-clause-equal : goal.returns-then-start-place-2-clause-equal
returns-then-start-place-2-clause-equal c =
    let h = c.self.inside in
    let at = c.spans.at - 1 in
    let none : Span = record { event = Run; count = 0 } in
    let s = get_or h.over.items at none in
    let before = c.args.place - (c.spans.start - s.count) in
    let xs = all_events (take at h.over.items) in
    let one : at + 1 ≡ c.spans.at = omega arith in
    let lt : at < length h.over.items = omega (arith, one, c.spans.invariant.0) in
    let is : c.index-span.result.now ≡ s = get_or_read h.over.items _ _ lt c.index-span.ensures none in
    let long : length (all_events (take (at + 1) h.over.items)) ≡ c.spans.start = ap (λ (n : ℕ). length (all_events (take n h.over.items))) one ∙ c.spans.invariant.1 in
    let sum : length xs + s.count ≡ c.spans.start = before-next h.over.items at c.spans.start none lt long in
    let count : c.index-span.result.now.count ≡ s.count = ap (λ (x : Span). x.count) is in
    let behind : c.spans.start - s.count ≤ c.args.place = omega (arith, count) in
    let there : before + length xs ≡ c.args.place = omega (arith, sum, behind) in
    let inside : before < s.count = omega (arith, sum, behind, c.spans.invariant.2) in
    let equal : take (s.count - before) (drop c.args.place c.args.self.now.events) ≡ replicate (s.count - before) (event_of s.event) =
    subst (λ (k : Kept). take (s.count - before) (drop c.args.place k.events) ≡ replicate (s.count - before) (event_of s.event)) c.self.view_is
    (subst (λ (p : ℕ). take (s.count - before) (drop p (kept h.over.items h.last).events) ≡ replicate (s.count - before) (event_of s.event)) there
    (ap (λ (es : List Event). take (s.count - before) (drop (before + length xs) es)) (around h.over.items (span_events h.last) at none lt)
    ∙ from-middle xs _ s.count before (event_of s.event) (omega (arith, inside)))) in
    let some : 0 < s.count - before = omega (arith, inside) in
    subst (λ (x : Span). (0 < x.count - (c.args.place - (c.spans.start - x.count)))
    × (take (x.count - (c.args.place - (c.spans.start - x.count))) (drop c.args.place c.args.self.now.events) ≡ replicate (x.count - (c.args.place - (c.spans.start - x.count))) (event_of x.event)))
    (sym is) (some, equal)

pub returns-then-start-place-clause-all : goal.returns-then-start-place-clause-all
returns-then-start-place-clause-all c =
    let h = c.self.inside in
    let at = length h.over.items in
    let before = c.args.place - (h.count - h.last.count) in
    let all : length h.over.items ≤ at = omega arith in
    let inside : c.args.place < h.count = omega arith in
    let behind : h.count - h.last.count ≤ c.args.place = omega arith in
    let is : before + length (all_events (take at h.over.items)) ≡ c.args.place = omega (arith, behind, before-last h.over.items h.last h.count c.self.invariant.0) in
    subst (λ (k : Kept). slice_get k.events (c.args.place + (h.last.count - before)) ≢ Some (event_of h.last.event)) c.self.view_is
    (none-behind h.over.items h.last at before c.args.place h.count all is c.self.invariant.0 inside)

pub returns-then-start-place-2-clause-all : goal.returns-then-start-place-2-clause-all
returns-then-start-place-2-clause-all c =
    let h = c.self.inside in
    let at = c.spans.at - 1 in
    let none : Span = record { event = Run; count = 0 } in
    let s = get_or h.over.items at none in
    let before = c.args.place - (c.spans.start - s.count) in
    let xs = all_events (take at h.over.items) in
    let one : at + 1 ≡ c.spans.at = omega arith in
    let lt : at < length h.over.items = omega (arith, one, c.spans.invariant.0) in
    let is : c.index-span.result.now ≡ s = get_or_read h.over.items _ _ lt c.index-span.ensures none in
    let long : length (all_events (take (at + 1) h.over.items)) ≡ c.spans.start = ap (λ (n : ℕ). length (all_events (take n h.over.items))) one ∙ c.spans.invariant.1 in
    let sum : length xs + s.count ≡ c.spans.start = before-next h.over.items at c.spans.start none lt long in
    let count : c.index-span.result.now.count ≡ s.count = ap (λ (x : Span). x.count) is in
    let behind : c.spans.start - s.count ≤ c.args.place = omega (arith, count) in
    let there : before + length xs ≡ c.args.place = omega (arith, sum, behind) in
    let inside : before < s.count = omega (arith, sum, behind, c.spans.invariant.2) in
    subst (λ (x : Span). slice_get c.args.self.now.events (c.args.place + (x.count - (c.args.place - (c.spans.start - x.count)))) ≢ Some (event_of x.event)) (sym is)
    (subst (λ (k : Kept). slice_get k.events (c.args.place + (s.count - before)) ≢ Some (event_of s.event)) c.self.view_is
    (other-there h.over.items h.last at before c.args.place none c.self.invariant.1 lt there inside))

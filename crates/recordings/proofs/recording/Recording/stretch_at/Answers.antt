use Rattle.std.proofs.Common.{◌≡◌, ◌∙◌, ℕ, ◌+◌, ◌-◌, ◌/◌, ◌<◌, ◌≤◌, List, length, get_or, inl, inr, sym, ap, subst, arith}
use Rattle.std.proofs.lemmas.Bool.{cases_lt}
use Rattle.std.proofs.lemmas.List.{get_or_read}
use Rattle.kernel_spec.specs.runs.Run.{Event}
use Rattle.xv_machine.specs.Events.{event_of}
use Rattle.xv_machine.specs.declared.event.Event.TheVariants.{Run}
use Rattle.recordings.specs.Recording.{event_among}
use Rattle.recordings.specs.declared.recording.Stretch.{Stretch}
use Rattle.recordings.proofs.Halving.{end_at, end-at-all, end-at-next, end-within, found, long}
use Rattle.recordings.proofs.recording.Recording.stretch_at.Goals as goal

abbrev none : Stretch
none = record { event = Run; end = 0 }

pub halves-init : goal.halves-init
halves-init c =
    let list = c.self.inside.stretches.items in
    let n : c.len-high.result ≡ length list = omega (arith, c.self.inside.stretches.ok.0) in
    let all = end-at-all 0 list (c.len-high.result + 1) (omega (arith, n)) in
    let count = long 0 list c.self.invariant.0 in (omega arith, omega (arith, n), omega arith, omega (arith, all, count, c.requires, ap length c.self.view_is))

pub halves-preserved-then-index-place : goal.halves-preserved-then-index-place
halves-preserved-then-index-place c =
    let list = c.self.inside.stretches.items in
    let middle = c.halves.low + (c.halves.high - c.halves.low) / 2 in
    let before : middle < c.halves.high = omega (arith, c.halves.invariant.0, c.halves-test.true) in
    let lt : middle < length list = omega (arith, before, c.halves.invariant.1) in
    let is : c.index.result.now ≡ get_or list middle none = get_or_read list _ _ lt c.index.ensures none in
    let end : (get_or list middle none).end ≡ end_at 0 list (middle + 1) = end-at-next 0 list middle none lt in
    let same : c.index.result.now.end ≡ (get_or list middle none).end = ap (λ (s : Stretch). s.end) is in
    (omega (arith, before), c.halves.invariant.1, omega (arith, end, same, c.if-index-place.true), c.halves.invariant.3)

pub halves-preserved : goal.halves-preserved
halves-preserved c =
    let list = c.self.inside.stretches.items in
    let middle = c.halves.low + (c.halves.high - c.halves.low) / 2 in
    let before : middle < c.halves.high = omega (arith, c.halves.invariant.0, c.halves-test.true) in
    let lt : middle < length list = omega (arith, before, c.halves.invariant.1) in
    let is : c.index.result.now ≡ get_or list middle none = get_or_read list _ _ lt c.index.ensures none in
    let end : (get_or list middle none).end ≡ end_at 0 list (middle + 1) = end-at-next 0 list middle none lt in
    let same : c.index.result.now.end ≡ (get_or list middle none).end = ap (λ (s : Stretch). s.end) is in
    (omega arith, omega (arith, lt), c.halves.invariant.2, omega (arith, end, same, c.if-index-place.false))

-- what the halves lead to: a stretch that is there, and ends after the place
record IsThere (list : List Stretch) (low place : ℕ) (s : Stretch) : Type 0 where
  lt : low < length list
  is : s ≡ get_or list low none
  end : s.end ≡ end_at 0 list (low + 1)
  before : end_at 0 list low ≤ place
  after : place < end_at 0 list (low + 1)

is-there : (list : List Stretch) (low high place : ℕ) (s : Stretch) → low ≤ high → high ≤ low → high ≤ length list → end_at 0 list low ≤ place → place < end_at 0 list (high + 1)
    → (low < length list → s ≡ get_or list low none) → IsThere list low place s
is-there list low high place s up down few before past read =
    let one : high ≡ low = omega arith in
    let after : place < end_at 0 list (low + 1) = subst (λ (n : ℕ). place < end_at 0 list (n + 1)) one past in
    let lt : low < length list = elim (cases_lt low (length list)) [
      | inl lt ↦ lt
      | inr all ↦
          let here = end-at-all 0 list low all in
          let next = end-at-all 0 list (low + 1) (omega (arith, all)) in
          absurd (omega (arith, here, next, before, after))
    ] in
    let is = read lt in
    record { lt = lt; is = is; end = ap (λ (x : Stretch). x.end) is ∙ end-at-next 0 list low none lt; before = before; after = after }

pub returns-clause-equal : goal.returns-clause-equal
returns-clause-equal c = λ n from before.
    let list = c.self.inside.stretches.items in
    let h = c.halves in
    let read = λ (lt : h.low < length list). get_or_read list _ _ lt c.index-2.ensures none in
    let there = is-there list h.low h.high c.args.place c.index-2.result.now h.invariant.0 (omega (arith, c.halves-test.false)) h.invariant.1 h.invariant.2 h.invariant.3 read in
    subst (λ (es : List Event). event_among es n ≡ event_of c.index-2.result.now.event) c.self.view_is
    (found list h.low n none c.self.invariant.0 there.lt (omega (arith, from, there.before)) (omega (arith, before, there.end)) ∙ ap (λ (s : Stretch). event_of s.event) (sym there.is))

pub returns-clause-after : goal.returns-clause-after
returns-clause-after c =
    let list = c.self.inside.stretches.items in
    let h = c.halves in
    let read = λ (lt : h.low < length list). get_or_read list _ _ lt c.index-2.ensures none in
    let there = is-there list h.low h.high c.args.place c.index-2.result.now h.invariant.0 (omega (arith, c.halves-test.false)) h.invariant.1 h.invariant.2 h.invariant.3 read in
    omega (arith, there.end, there.after)

pub returns-clause-inside : goal.returns-clause-inside
returns-clause-inside c =
    let list = c.self.inside.stretches.items in
    let h = c.halves in
    let read = λ (lt : h.low < length list). get_or_read list _ _ lt c.index-2.ensures none in
    let there = is-there list h.low h.high c.args.place c.index-2.result.now h.invariant.0 (omega (arith, c.halves-test.false)) h.invariant.1 h.invariant.2 h.invariant.3 read in
    let within = end-within 0 list (h.low + 1) c.self.invariant.0 in
    omega (arith, there.end, within, long 0 list c.self.invariant.0, ap length c.self.view_is)

use Rattle.std.proofs.Common.{◌≡◌, ◌∙◌, ◌+◌, ◌<◌, ◌≤◌, ℕ, length, sym, ap, arith, rules}
use Rattle.std.proofs.lemmas.List.{length_push}
use Rattle.grade_rules.specs.Rules.{StandsAt, IsBehind, step_at}
use Rattle.grade_rules.proofs.Arrangements.{step_more, least_more, no_more}
use Rattle.grade_rules.proofs.order.arrange.Goals as goal

-- no note is left for this step: the places before it are the lowest, and behind them none fits
pub returns-in_default : goal.returns-in_default
returns-in_default c =
    let places = c.loop-step.places.items in
    let count = c.loop-step.invariant.count in
    let start = c.start_behind-start.result in
    let lowest : (other : ℕ) → IsBehind c.args.edges.now places other → start ≤ other = rw c.as_slice.ensures.value at c.start_behind-start.ensures.least in
    let none : (k : ℕ) → start ≤ k → ¬ (StandsAt (step_at c.args.steps.now (length places)) c.args.notes.now k) = rw count c.in_default.ensures in
    let said : c.len.result ≡ length places = search rules in
    record {
      within = omega (arith, said, count, c.loop-step-test.true);
      before = (places, c.loop-step.invariant.here, sym said);
      no_more = λ other arranged.
          let most : length other ≤ length places = no_more c.args.steps.now c.args.edges.now c.args.notes.now places start c.loop-step.invariant.least lowest none other arranged in
          omega (arith, most, said);
    }

-- a note is found for this step
pub loop-step-preserved : goal.loop-step-preserved
loop-step-preserved c =
    let places = c.loop-step.places.items in
    let steps = c.args.steps.now in
    let edges = c.args.edges.now in
    let notes = c.args.notes.now in
    let place = c.in-Some.place in
    let count = c.loop-step.invariant.count in
    let start = c.start_behind-start.result in
    let behind : IsBehind edges places start = rw c.as_slice.ensures.value at c.start_behind-start.ensures.behind in
    let lowest : (other : ℕ) → IsBehind edges places other → start ≤ other = rw c.as_slice.ensures.value at c.start_behind-start.ensures.least in
    let stands : StandsAt (step_at steps (length places)) notes place = rw count c.in-Some.ensures.1 in
    let none : (k : ℕ) → start ≤ k → k < place → ¬ (StandsAt (step_at steps (length places)) notes k) = rw count c.in-Some.ensures.2 in
    let room : length places < length steps = omega (arith, count, c.loop-step-test.true) in
    let is = c.in_ok-push.ensures.items in
    record {
      here = rw is (step_more steps edges notes places start place c.loop-step.invariant.here room stands behind c.in-Some.ensures.0);
      count = rw is (length_push places place ∙ ap (λ n. n + 1) count);
      least = rw is (least_more steps edges notes places start place c.loop-step.invariant.least lowest none);
    }

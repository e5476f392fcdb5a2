use Rattle.std.proofs.Common.{◌≡◌, ◌∙◌, ◌+◌, ◌-◌, ◌≤◌, ℕ, true, false, ap, arith, drop, length, sym}
use Rattle.xv_debug.specs.motion.Clock.{events_to_tick, is_tick}
use Rattle.xv_debug.proofs.ToTicks.{AreTicks, none-asked, none-left, past-others, past-ticks}
use Rattle.xv_debug.proofs.motion.plan.Plan.up_to_ticks.Goals as goal
use Rattle.xv_debug.proofs.motion.plan.Plan.up_to_ticks.Goals.{then-stretches-test+else-left-gt0, else-stretches-test}

pub stretches-init : goal.stretches-init
stretches-init c =
    let way = drop c.args.place c.args.self.now.recorded in
    let all = ap (λ (n : ℕ). events_to_tick n way) c.from-left.ensures in
    (omega arith, omega (arith, all))

pub stretches-preserved-then-is_tick : goal.stretches-preserved-then-is_tick
stretches-preserved-then-is_tick c =
    let i = c.stretches.invariant in
    let next = c.recorded_at-next in
    let list = c.args.self.now.recorded in
    let here = c.min-here.result in
    let ticks : AreTicks list c.stretches.at here true =
    λ k less. ap is_tick (next.ensures.equal k (omega (arith, less, c.min-here.ensures))) ∙ sym c.if-is_tick.ensures in
    let past = past-ticks list here c.stretches.at c.stretches.left (omega (arith, c.min-here.ensures, next.ensures.inside)) (omega (arith, c.min-here.ensures)) ticks in
    (omega (arith, i.0), omega (arith, i.0, i.1, past))

pub stretches-preserved : goal.stretches-preserved
stretches-preserved c =
    let i = c.stretches.invariant in
    let next = c.recorded_at-next in
    let list = c.args.self.now.recorded in
    let others : AreTicks list c.stretches.at next.result.count false = λ k less. ap is_tick (next.ensures.equal k less) ∙ sym c.if-is_tick.ensures in
    let past = past-others list next.result.count c.stretches.at c.stretches.left next.ensures.inside c.if-left-gt0.true others in
    (omega (arith, i.0), omega (arith, i.0, i.1, past))

pub returns : goal.returns
returns c =
    let i = c.stretches.invariant in
    let list = c.args.self.now.recorded in
    let at = c.stretches.at in
    let left = c.stretches.left in
    elim c.stretches-test.branch [
      | then-stretches-test+else-left-gt0 w ↦ omega (arith, i.1, none-asked (drop at list) left (omega (arith, w.if-left-gt0.false)))
      | else-stretches-test w ↦ omega (arith, i.1, none-left list at left (omega (arith, w.stretches-test.false, c.recorded-recorded.ensures)))
    ]

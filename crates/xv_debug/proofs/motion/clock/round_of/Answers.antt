use Rattle.std.proofs.Common.{◌∙◌, ℕ, arith, false, refl, subst, sym}
use Rattle.xv_machine.specs.Events.{event_of}
use Rattle.xv_debug.proofs.Clocked.{IsCounted, counted_all, counted_more, counted_none, counted_ticks}
use Rattle.xv_debug.proofs.motion.clock.round_of.Goals as goal

pub events-init : goal.events-init
events-init c =
    let q = c.args.plan.now.quantum in
    let end = c.at-end.result in
    let list = c.args.session.now.events in (
      omega (arith, c.at-end.ensures),
      subst (λ (n : ℕ). IsCounted q (record { left = n; keyed = false }) end list) (sym c.quantum.ensures) (counted_none q end list c.at-end.ensures),
    )

pub events-preserved : goal.events-preserved
events-preserved c =
    let b = c.equal_before-before in
    let r = c.round_with-round in (
      omega (arith, c.events.invariant.0),
      counted_more c.args.plan.now.quantum c.events.round r.result c.events.end _ b.result.count (event_of b.result.event) c.args.session.now.events
          (sym c.is_tick.ensures ∙ c.if-is_tick.false) b.ensures.some b.ensures.within refl b.ensures.those r.ensures.left r.ensures.keyed c.events.invariant.1,
    )

pub returns-then-is_tick : goal.returns-then-is_tick
returns-then-is_tick c =
    let b = c.equal_before-before in
    counted_ticks c.args.plan.now.quantum c.events.round c.events.end b.result.count (event_of b.result.event) c.args.session.now.events
    (sym c.is_tick.ensures ∙ c.if-is_tick.true) b.ensures.some b.ensures.within b.ensures.those c.events.invariant.1

pub returns : goal.returns
returns c = counted_all c.args.plan.now.quantum c.events.round c.events.end c.args.session.now.events (omega (arith, c.events-test.false)) c.events.invariant.1

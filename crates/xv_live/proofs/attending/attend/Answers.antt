use Rattle.std.proofs.Common.{[], ap}
use Rattle.xv_live.specs.Asks.{led_if}
use Rattle.xv_live.specs.Keys.{led_to, waiting}
use Rattle.xv_live.proofs.Kept.{on_still, on_join}
use Rattle.xv_live.proofs.Typed.{attends-none, attends-join, attends-led}
use Rattle.xv_live.proofs.attending.attend.Goals as goal

pub turns-init : goal.turns-init
turns-init g c = (attends-none c.args.session.now _ _ (waiting c.args.pending.now), λ kept. kept, on_still c.args.recorder.now)

pub turns-preserved : goal.turns-preserved
turns-preserved g c =
    let (attends, kept, on) = c.turns.invariant in (
      attends-join [] [] _ _ _ _ _ _ _ _ _ _ _ _ attends (attends-led _ [] _ _ _ _ _ _ _ _ (ap led_if c.in-None.is) c.in_ok-pause.ensures.attends),
      λ k. c.in_ok-pause.ensures.kept (kept k),
      on_join _ _ _ on c.in_ok-pause.ensures.goes_on,
    )

pub returns-in-Some-clause-attends : goal.returns-in-Some-clause-attends
returns-in-Some-clause-attends g c =
    let (attends, _, _) = c.turns.invariant in
    attends-join [] (led_to c.in-Some.pause) _ _ _ _ _ _ _ _ _ _ _ _ attends
    (attends-led _ (led_to c.in-Some.pause) _ _ _ _ _ _ _ _ (ap led_if c.in-Some.is) c.in_ok-pause.ensures.attends)

pub returns-in-Some-clause-kept : goal.returns-in-Some-clause-kept
returns-in-Some-clause-kept g c = let (_, kept, _) = c.turns.invariant in λ k. c.in_ok-pause.ensures.kept (kept k)

pub returns-in-Some-clause-goes_on : goal.returns-in-Some-clause-goes_on
returns-in-Some-clause-goes_on g c = let (_, _, on) = c.turns.invariant in on_join _ _ _ on c.in_ok-pause.ensures.goes_on

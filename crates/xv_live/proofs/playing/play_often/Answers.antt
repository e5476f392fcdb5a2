use Rattle.std.proofs.Common.{◌≡◌, ◌-◌, arith}
use Rattle.xv_machine.specs.Events.{event_of}
use Rattle.xv_live.proofs.Broke.{begins-often, on-err}
use Rattle.xv_live.proofs.Played.{plays-begun, plays-more, plays-same}
use Rattle.xv_live.proofs.playing.play_often.Goals as goal

pub sends-init : goal.sends-init
sends-init g c = (omega arith, plays-begun c.args.count (event_of c.args.event) c.args.session.now _)

pub sends-preserved : goal.sends-preserved
sends-preserved g c = (
  omega (arith, c.sends.invariant.0),
  plays-more c.args.count c.sends.left 1 (event_of c.args.event) _ _ _ _ _ _ c.sends.invariant.0 (omega (arith, c.sends-test.true)) c.sends.invariant.1 c.in_ok-send.ensures.plays,
)

pub returns-clause-plays : goal.returns-clause-plays
returns-clause-plays g c =
    let all : c.args.count - c.sends.left ≡ c.args.count = omega arith in
    plays-same (c.args.count - c.sends.left) c.args.count (event_of c.args.event) _ _ _ _ all c.sends.invariant.1

pub returns-in_err-send-clause-begins : goal.returns-in_err-send-clause-begins
returns-in_err-send-clause-begins g c =
    on-err c.from_residual.result
    (begins-often c.args.count c.sends.left (event_of c.args.event) _ _ _ _ _ c.sends.invariant.0 (omega (arith, c.sends-test.true)) c.sends.invariant.1 c.in_err-send.ensures.begins)

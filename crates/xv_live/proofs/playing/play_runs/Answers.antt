use Rattle.std.proofs.Common.{◌≡◌, ◌≤◌, ◌-◌, sym, arith}
use Rattle.kernel_spec.specs.runs.Run.{Run}
use Rattle.xv_live.proofs.Broke.{begins-some, on-err}
use Rattle.xv_live.proofs.Played.{plays-begun, plays-more, plays-same}
use Rattle.xv_live.proofs.playing.play_runs.Goals as goal

pub runs-init : goal.runs-init
runs-init g c = (omega arith, plays-begun c.args.count Run c.args.session.now _)

pub runs-preserved : goal.runs-preserved
runs-preserved g c =
    let few : c.in_ok-sent.sent ≤ c.runs.left = omega (arith, c.in_ok-sent.ensures.within, c.min-most.ensures) in
    let same : c.from-left.result ≡ c.in_ok-sent.sent = omega (arith, c.from-left.ensures) in
    let within : c.from-left.result ≤ c.runs.left = omega (arith, few, same) in (
      omega (arith, c.runs.invariant.0),
      plays-more c.args.count c.runs.left c.from-left.result Run _ _ _ _ _ _ c.runs.invariant.0 within c.runs.invariant.1
          (plays-same c.in_ok-sent.sent c.from-left.result Run _ _ _ _ (sym same) c.in_ok-sent.ensures.plays),
    )

pub returns-clause-plays : goal.returns-clause-plays
returns-clause-plays g c =
    let all : c.args.count - c.runs.left ≡ c.args.count = omega arith in
    plays-same (c.args.count - c.runs.left) c.args.count Run _ _ _ _ all c.runs.invariant.1

pub returns-in_err-sent-clause-begins : goal.returns-in_err-sent-clause-begins
returns-in_err-sent-clause-begins g c =
    on-err c.from_residual.result (begins-some c.args.count c.runs.left Run _ _ _ _ _ c.runs.invariant.0 c.runs.invariant.1 c.in_err-sent.ensures.still)

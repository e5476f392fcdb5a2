use Rattle.std.proofs.Common.{[], ◌∷◌}
use Rattle.kernel_spec.specs.runs.Run.{Send}
use Rattle.xv_live.proofs.Broke.{begins-send, on-err}
use Rattle.xv_live.proofs.Typed.{types-none, types-plays, types-join}
use Rattle.xv_live.proofs.events.drain.Goals as goal

pub sends-init : goal.sends-init
sends-init g c = types-none c.args.session.now _

pub sends-preserved : goal.sends-preserved
sends-preserved g c = types-join [] [] _ _ _ _ _ _ c.sends.invariant (types-plays (Send ∷ []) _ _ _ _ c.in_ok-send.ensures.plays)

pub returns-in_err-send-clause-begins : goal.returns-in_err-send-clause-begins
returns-in_err-send-clause-begins g c = on-err c.from_residual.result (begins-send _ _ _ _ _ c.sends.invariant c.in_err-send.ensures.begins)

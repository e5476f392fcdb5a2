use Rattle.xv_live.specs.Keys.{waiting}
use Rattle.xv_live.proofs.Typed.{first-none, first-took}
use Rattle.xv_live.proofs.attending.type_keys.Goals as goal

pub keys-init : goal.keys-init
keys-init g c = first-none c.args.session.now _ (waiting c.args.pending.now)

pub keys-preserved : goal.keys-preserved
keys-preserved g c = first-took _ _ _ _ _ _ _ _ _ _ _ c.keys.invariant c.take.ensures c.in-Some.is c.in_ok-send.ensures.plays

use Rattle.std.proofs.Common.{rules}
use Rattle.gdb_target.proofs.Watching.{address-more}
use Rattle.gdb_target.proofs.fast.rows.push_addresses.Goals as goal

pub loop-place-preserved : goal.loop-place-preserved
loop-place-preserved c =
    address-more c.args.watched.now.address c.loop-place.place _ c.args.addresses.now.items _ _ c.loop-place.invariant (search rules) c.in_ok-push.ensures.items

use Rattle.std.proofs.Common.{rules, sym}
use Rattle.gdb_target.specs.Touches.{has}
use Rattle.gdb_target.proofs.Using.{none-more, found-among}
use Rattle.gdb_target.proofs.touches.is_used.Goals as goal

pub returns-then-has : goal.returns-then-has
returns-then-has c =
    sym (found-among (has c.args.access.now) c.args.watched.now.address c.loop-place.place c.args.watched.now.length (search rules) (search rules))

pub loop-place-preserved : goal.loop-place-preserved
loop-place-preserved c = none-more (has c.args.access.now) c.args.watched.now.address c.loop-place.place c.loop-place.invariant (search rules)

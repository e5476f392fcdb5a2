use Rattle.std.proofs.Common.{arith, subst}
use Rattle.gdb_target.specs.LastHit.{LooksAt}
use Rattle.gdb_target.proofs.Ways.{hit-here, looked-once}
use Rattle.gdb_target.proofs.target.Target.look_on.Goals as goal

pub returns-clause-hit : goal.returns-clause-hit
returns-clause-hit c = hit-here c.args.back.now c.in_ok-hit.hit c.at-place.result c.args.end c.in_ok-hit.ensures.hit (omega (arith, c.at-place.ensures, c.requires.room))

pub returns-clause-looked : goal.returns-clause-looked
returns-clause-looked c =
    let here = c.args.self.now in
    let looks = subst (λ place. LooksAt c.args.back.now place here c.look.new.self c.in_ok-hit.hit) c.at-place.ensures c.in_ok-hit.ensures.looks in
    (1, looked-once c.args.back.now here c.look.new.self c.in_ok-hit.hit looks)

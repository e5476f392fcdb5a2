use Rattle.std.proofs.Common.{◌≡◌, Option, Some, refl, subst, true}
use Rattle.std.specs.Prelude.{IfSome}
use Rattle.gdb_target.specs.LetRun.{lets}
use Rattle.gdb_target.specs.Touches.{IsByChange}
use Rattle.gdb_target.specs.declared.touches.Touch.{Touch}
use Rattle.gdb_target.proofs.Ways.{hit-for-change}
use Rattle.gdb_target.proofs.reverse.point_hit.Goals as goal

pub returns-in-Some : goal.returns-in-Some
returns-in-Some c =
    let change = c.in-Some.change in
    let told : c.args.change ≡ Some change = subst (λ (x : Option Touch). IfSome x (λ (it : Touch). c.args.change ≡ Some it)) c.in-Some.is c.if_told.ensures.same in
    let lets_it = subst (λ (x : Option Touch). IfSome x (λ (it : Touch). lets c.args.let_run.now it.pid ≡ true)) c.in-Some.is c.if_told.ensures.lets in
    let may = subst (λ (x : Option Touch). IfSome x (λ (it : Touch). IsByChange it.how)) told c.requires.change in
    (refl, hit-for-change c.args.stood c.args.touch change.pid change.how may, lets_it)

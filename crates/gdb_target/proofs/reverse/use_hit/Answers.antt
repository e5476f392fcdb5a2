use Rattle.std.proofs.Common.{◌≡◌, Option, Some, true, refl, subst, sym}
use Rattle.std.specs.Prelude.{IfSome}
use Rattle.gdb_target.specs.LastHit.{IsPointHit}
use Rattle.gdb_target.specs.LetRun.{lets}
use Rattle.gdb_target.specs.declared.touches.Touch.{Touch}
use Rattle.gdb_target.proofs.Ways.{hit-for-use}
use Rattle.gdb_target.proofs.reverse.use_hit.Goals as goal

pub returns-in-Some : goal.returns-in-Some
returns-in-Some c =
    let touch = c.in-Some.touch in
    let lets_it = subst (λ (x : Option Touch). IfSome x (λ (it : Touch). lets c.args.let_run.now it.pid ≡ true)) c.in-Some.is c.requires in
    subst (λ (x : Option Touch). IsPointHit c.args.let_run.now c.args.place c.args.stood x (Some (record { place = c.args.place; pid = touch.pid; watched = Some touch.how }))) (sym c.in-Some.is)
    (refl, hit-for-use c.args.stood touch.pid touch.how, lets_it)

pub returns-in-None : goal.returns-in-None
returns-in-None c = subst (λ (x : Option Touch). IsPointHit c.args.let_run.now c.args.place c.args.stood x c.stand_hit.result) (sym c.in-None.is) c.stand_hit.ensures

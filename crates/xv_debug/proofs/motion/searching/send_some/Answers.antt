use Rattle.std.proofs.Common.{◌≡◌, ◌≤◌, ℕ, sym, subst}
use Rattle.std.proofs.Math.Nat.{min-le_right}
use Rattle.xv_debug.specs.motion.Clock.{Comes}
use Rattle.xv_debug.specs.declared.motion.clock.Coming.{Coming}
use Rattle.xv_debug.proofs.Along.{fewer_come}
use Rattle.xv_debug.proofs.motion.searching.send_some.Goals as goal

pub run_some-requires-clause-comes : goal.run_some-requires-clause-comes
run_some-requires-clause-comes c =
    let q = c.args.way.now.plan.now in
    let events = c.args.session.now.events in
    let w = c.args.session.now.machine.world in
    let few : c.min.result ≤ c.in-Runs.count = subst (λ (n : ℕ). n ≤ c.in-Runs.count) (sym c.min.ensures) (min-le_right c.args.most c.in-Runs.count) in
    fewer_come q events c.in-Runs.count c.min.result w few (subst (λ (n : Coming). Comes q events w n) c.in-Runs.is c.requires.comes).1

use Rattle.std.proofs.Common.{◌≡◌, ◌-◌, ◌≤◌, ℕ, arith, length, subst}
use Rattle.xv_machine.specs.Events.{event_of}
use Rattle.xv_debug.specs.motion.Backwards.{LookedTo}
use Rattle.xv_debug.proofs.Backwards.{looked-to-more, looked-to-none}
use Rattle.xv_debug.proofs.motion.backwards.last_from.Goals as goal

pub spans-init : goal.spans-init
spans-init g c = (omega arith, c.requires.begins, looked-to-none c.args.aim.now c.args.begin c.args.session.now c.in_ok-machine.machine c.in_ok-machine.ensures.played)

pub spans-preserved : goal.spans-preserved
spans-preserved g c =
    let next = c.equal_from-next in
    let within : c.spans.place ≤ length c.args.session.now.events = omega (arith, c.spans.invariant.1, c.requires.ends) in (
      omega (arith, c.spans.invariant.0),
      next.ensures.within,
      looked-to-more c.args.aim.now c.args.begin c.spans.place next.result.count (event_of next.result.event) c.args.session.now c.spans.machine c.look_often-found.new.machine
          c.spans.found c.look_often-found.result c.spans.invariant.0 within next.ensures.those c.spans.invariant.2 c.look_often-found.ensures,
    )

pub returns-clause-looks : goal.returns-clause-looks
returns-clause-looks g c =
    let same : c.spans.place ≡ length c.args.session.now.events - 1 = omega (arith, c.spans-test.false, c.spans.invariant.1, c.requires.ends) in
    (c.spans.machine, subst (λ (n : ℕ). LookedTo c.args.aim.now c.args.begin n c.args.session.now c.spans.machine c.spans.found) same c.spans.invariant.2)

use Rattle.std.proofs.Common.{◌≡◌, ◌-◌, ◌≤◌, false, option_map}
use Rattle.xv_machine.specs.Events.{outcome_of}
use Rattle.xv_debug.specs.motion.Clock.{IsFar}
use Rattle.xv_debug.specs.motion.Reaching.{Goes, met_from}
use Rattle.xv_debug.proofs.motion.searching.search.Given as goal

abbrev pub invariant-events : goal.invariant-events
invariant-events g l =
    (l.sent ≤ l.most) × Goes l.fn.plan (met_from l.fn.session l.fn.aim l.fn.marks) false l.sent (option_map outcome_of l.last) l.fn.session l.session l.fn.output l.output
    × IsFar l.fn.plan l.session.events l.far

abbrev pub decreases-events : goal.decreases-events
decreases-events g l = l.most - l.sent

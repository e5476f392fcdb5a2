use Rattle.std.proofs.Common.{◌≡◌, ◌+◌, ℕ, Bool, true, false, option_map, arith, subst}
use Rattle.xv_machine.specs.Events.{outcome_of}
use Rattle.xv_debug.specs.motion.Clock.{IsFar}
use Rattle.xv_debug.specs.motion.Plan.{Planned}
use Rattle.xv_debug.specs.motion.Reaching.{Goes, Test, met_from}
use Rattle.xv_debug.specs.motion.Ways.{test_of}
use Rattle.xv_debug.specs.declared.motion.journey.Stop.TheVariants.{Met}
use Rattle.xv_debug.proofs.Searched.{goes-none, goes-join, reaches_met, reaches_told}
use Rattle.xv_debug.proofs.motion.searching.search.Goals as goal

pub events-init : goal.events-init
events-init g c =
    let q = c.args.plan.now in
    let old = c.args.session.now in
    (omega arith, goes-none q (met_from old c.args.aim.now c.args.marks.now) old c.args.output.now c.args.output.now.fits, c.far_of-far.ensures)

pub events-preserved : goal.events-preserved
events-preserved g c =
    let q = c.args.plan.now in
    let old = c.args.session.now in
    let test = met_from old c.args.aim.now c.args.marks.now in
    let way = c.way_from-way.result in
    let went = c.in-Ok-send_some.went in
    let last = option_map outcome_of went.last in
    let new = c.send_some.new.session in
    let has = c.send_some.new.output in
    let one : Goes q test false went.sent last c.events.session new c.events.output has =
    subst (λ (met : Bool). Goes q test met went.sent last c.events.session new c.events.output has) c.if-went.false
    (subst (λ (t : Test). Goes q t went.met went.sent last c.events.session new c.events.output has) c.way_from-way.ensures.test
    (subst (λ (k : Planned). Goes k (test_of way) went.met went.sent last c.events.session new c.events.output has) c.way_from-way.ensures.plan c.in-Ok-send_some.ensures.goes)) in (
      omega (arith, c.events.invariant.0, c.events-test.true, c.at_once-part.ensures.within, c.in-Ok-send_some.ensures.within),
      goes-join q test false c.events.sent went.sent (option_map outcome_of c.events.last) last old c.events.session new c.args.output.now c.events.output
          has c.in-Ok-send_some.ensures.forth c.events.invariant.1 one,
      subst (λ (k : Planned). IsFar k new.events went.far) c.way_from-way.ensures.plan c.in-Ok-send_some.ensures.far,
    )

pub returns-then-went : goal.returns-then-went
returns-then-went g c =
    let q = c.args.plan.now in
    let old = c.args.session.now in
    let test = met_from old c.args.aim.now c.args.marks.now in
    let way = c.way_from-way.result in
    let went = c.in-Ok-send_some.went in
    let last = option_map outcome_of went.last in
    let new = c.send_some.new.session in
    let has = c.send_some.new.output in
    let one : Goes q test true went.sent last c.events.session new c.events.output has =
    subst (λ (met : Bool). Goes q test met went.sent last c.events.session new c.events.output has) c.if-went.true
    (subst (λ (t : Test). Goes q t went.met went.sent last c.events.session new c.events.output has) c.way_from-way.ensures.test
    (subst (λ (k : Planned). Goes k (test_of way) went.met went.sent last c.events.session new c.events.output has) c.way_from-way.ensures.plan c.in-Ok-send_some.ensures.goes)) in
    let goes = goes-join q test true c.events.sent went.sent (option_map outcome_of c.events.last) last old c.events.session new c.args.output.now c.events.output has
    c.in-Ok-send_some.ensures.forth c.events.invariant.1 one in
    reaches_told g.P.Patience.may_end q test c.args.most c.new-then-went.result (c.events.sent + went.sent) c.from-then-went.result Met went.last
    old new c.args.output.now has c.new-then-went.ensures c.from-then-went.ensures
    (reaches_met g.P.Patience.may_end q test c.args.most (c.events.sent + went.sent) last old new c.args.output.now has
    (omega (arith, c.events-test.true, c.at_once-part.ensures.within, c.in-Ok-send_some.ensures.within)) goes)

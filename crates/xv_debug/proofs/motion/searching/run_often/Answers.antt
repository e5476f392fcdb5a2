use Rattle.std.proofs.Common.{◌∙◌, ℕ, List, Some, ap, option_map, subst, sym}
use Rattle.xv_machine.specs.Events.{outcome_of}
use Rattle.xv_machine.specs.declared.event.Outcome as declared
use Rattle.xv_debug.specs.motion.Shown.{KeepsShown}
use Rattle.xv_debug.proofs.Along.{far-ran}
use Rattle.xv_debug.proofs.Searched.{goes-often, often_within}
use Rattle.xv_debug.proofs.motion.searching.run_often.Goals as goal

pub returns-clause-goes : goal.returns-clause-goes
returns-clause-goes c =
    let way = c.args.way.now in
    let old = c.args.session.now in
    let found = c.in_ok-found.found in
    let had = c.args.output.now in
    let shown = subst (λ (bs : List ℕ). KeepsShown bs had c.add.new.self) c.shown.ensures c.add.ensures in
    goes-often way.plan.now way.ran way.aim.now way.marks.now c.as_slice.result.now c.as_slice-2.result.now c.requires.places.far (c.as_slice.ensures.value ∙ c.requires.places.addresses)
    (c.as_slice-2.ensures.value ∙ c.requires.places.bytes) c.args.most found.sent found.met c.is_one-met.result (option_map outcome_of found.last) _ old c.run_to_stop.new.self had
    c.add.new.self c.requires.some c.requires.comes
    (record { by_aim = c.requires.aim; by_mark = c.requires.marks }) had.fits c.in_ok-found.ensures.stopped
    (ap (option_map outcome_of) c.in-Some.is ∙ ap (λ (x : declared.Outcome). Some (outcome_of x)) (sym c.in-Some.outcome-is)) shown (sym c.is_one-met.ensures)

pub returns-clause-far : goal.returns-clause-far
returns-clause-far c =
    let found = c.in_ok-found.found in
    let new = c.run_to_stop.new.self in
    let within = often_within c.as_slice.result.now c.as_slice-2.result.now c.args.most found.sent found.met (option_map outcome_of found.last) c.args.session.now new
    c.requires.some c.in_ok-found.ensures.stopped in
    far-ran c.args.way.now.plan.now c.args.far c.far_by_runs.result c.args.most found.sent c.args.session.now new c.requires.here c.requires.comes within
    c.in_ok-found.ensures.stopped.1 c.far_by_runs.ensures.round c.far_by_runs.ensures.along

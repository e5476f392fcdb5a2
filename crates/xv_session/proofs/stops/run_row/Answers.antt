use Rattle.std.proofs.Common.{rules, sym, ◌∙◌}
use Rattle.kernel_spec.specs.views.Words.{or_zero}
use Rattle.xv_machine.specs.Events.{outcome_of}
use Rattle.xv_session.specs.Until.{is_done}
use Rattle.xv_session.proofs.Unwatched.{same-step, row-one, row-more, goes-parts}
use Rattle.xv_session.proofs.stops.run_row.Goals as goal

pub returns-then-not-goes_on-clause-made : goal.returns-then-not-goes_on-clause-made
returns-then-not-goes_on-clause-made c =
    let w = c.args.watch.now in
    row-one w.addresses.now w.bytes.now c.args.running.now c.run_once-last.new.self (outcome_of c.run_once-last.result) c.run_once-last.ensures
    c.is_before_watched-met.result (sym c.is_before_watched-met.ensures)

pub returns-clause-made : goal.returns-clause-made
returns-clause-made c =
    let w = c.args.watch.now in
    let old = c.args.running.now in
    let mid = c.run_once-last.new.self in
    let o = outcome_of c.run_once-last.result in
    let one = c.run_once-last.ensures in
    let (unmet, done) = goes-parts c.goes_on.result c.is_before_watched-met.result (is_done o) c.goes_on.ensures (search rules) in
    let i = c.instructions_unwatched-made in
    let p = or_zero mid.machine.world.turns.current in
    row-more w.addresses.now w.bytes.now old mid o one done (sym c.is_before_watched-met.ensures ∙ unmet) p (same-step old mid o c.requires.sound one done) i.new.self
    i.result c.is_before_watched-met_at_end.result i.ensures.made (sym c.is_before_watched-met_at_end.ensures)

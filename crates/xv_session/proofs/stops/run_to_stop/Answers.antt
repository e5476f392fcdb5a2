use Rattle.std.proofs.Common.{List, ℕ, false, refl, subst, arith, rules}
use Rattle.xv_machine.specs.Events.{outcome_of}
use Rattle.xv_session.specs.Stops.{MadeRow}
use Rattle.xv_session.specs.Until.{is_done}
use Rattle.xv_session.proofs.Stretches.{unstopped-sound}
use Rattle.xv_session.proofs.Unwatched.{goes-parts, goes-not, went-on-row, unstopped-row, none-sent}
use Rattle.xv_session.proofs.stops.run_to_stop.Goals as goal

pub run_row-row-requires-clause-sound : goal.run_row-row-requires-clause-sound
run_row-row-requires-clause-sound c =
    unstopped-sound c.args.addresses.now c.args.bytes.now c.runs.sent c.args.running.now c.runs.running c.requires c.runs.invariant.0

-- the last Run leads to a stop, or no done instruction came of it
pub returns-then-not-goes_on : goal.returns-then-not-goes_on
returns-then-not-goes_on c =
    let a = c.args.addresses.now in
    let b = c.args.bytes.now in
    let r = c.run_row-row in
    let o = outcome_of r.result.last in
    let n = c.runs.sent in
    let made = subst (λ (x : List ℕ). MadeRow x b r.result.met o c.runs.running r.new.running r.result.sent) c.over-watch.ensures.addresses
    (subst (λ (y : List ℕ). MadeRow c.over-watch.result.addresses.now y r.result.met o c.runs.running r.new.running r.result.sent) c.over-watch.ensures.bytes r.ensures.made) in
    went-on-row a b c.args.running.now c.runs.running r.new.running n o c.runs.invariant.0 c.args.most r.result.sent r.result.met made
    (omega (arith, c.runs-test.true, r.ensures.within)) (λ unmet done. absurd (goes-not c.goes_on.result r.result.met (is_done o) c.goes_on.ensures (search rules) unmet done))

-- all were sent
pub returns-then-sent-most : goal.returns-then-sent-most
returns-then-sent-most c =
    let a = c.args.addresses.now in
    let b = c.args.bytes.now in
    let r = c.run_row-row in
    let o = outcome_of r.result.last in
    let n = c.runs.sent in
    let (unmet, done) = goes-parts c.goes_on.result r.result.met (is_done o) c.goes_on.ensures (search rules) in
    let made = subst (λ (x : List ℕ). MadeRow x b r.result.met o c.runs.running r.new.running r.result.sent) c.over-watch.ensures.addresses
    (subst (λ (y : List ℕ). MadeRow c.over-watch.result.addresses.now y r.result.met o c.runs.running r.new.running r.result.sent) c.over-watch.ensures.bytes r.ensures.made) in
    went-on-row a b c.args.running.now c.runs.running r.new.running n o c.runs.invariant.0 c.args.most r.result.sent false
    (subst (λ m. MadeRow a b m o c.runs.running r.new.running r.result.sent) unmet made) (omega (arith, c.runs-test.true, r.ensures.within)) (λ _ _. c.if-sent-most.true)

pub runs-preserved : goal.runs-preserved
runs-preserved c =
    let a = c.args.addresses.now in
    let b = c.args.bytes.now in
    let r = c.run_row-row in
    let o = outcome_of r.result.last in
    let n = c.runs.sent in
    let (unmet, done) = goes-parts c.goes_on.result r.result.met (is_done o) c.goes_on.ensures (search rules) in
    let made = subst (λ (x : List ℕ). MadeRow x b r.result.met o c.runs.running r.new.running r.result.sent) c.over-watch.ensures.addresses
    (subst (λ (y : List ℕ). MadeRow c.over-watch.result.addresses.now y r.result.met o c.runs.running r.new.running r.result.sent) c.over-watch.ensures.bytes r.ensures.made) in (
      unstopped-row a b c.args.running.now c.runs.running r.new.running n o c.runs.invariant.0 r.result.sent r.result.met unmet done made,
      λ _. omega (arith, c.runs-test.true, r.ensures.within, c.if-sent-most.false),
    )

-- none was asked for
pub returns : goal.returns
returns c =
    let i = c.runs.invariant in
    let (none, same) = none-sent c.args.addresses.now c.args.bytes.now c.args.most c.runs.sent c.args.running.now c.runs.running i.0 i.1 c.runs-test.false in
    (none, refl, refl, same)

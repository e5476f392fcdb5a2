use Rattle.std.proofs.Common.{◌≡◌, ◌≤◌, ℕ, List, [], ◌∷◌, ◌++◌, ◌+◌, ◌||◌, Bool, replicate, refl, sym, ap, subst, arith}
use Rattle.std.proofs.lemmas.List.{replicate_more}
use Rattle.xv_machine.specs.Events.{event_of, outcome_of}
use Rattle.xv_session.specs.Until.{faults}
use Rattle.xv_debug.specs.motion.Shown.{KeepsShown}
use Rattle.xv_debug.proofs.Played.{part-often, plays-still, telling-those, telling-join, telling-one}
use Rattle.xv_debug.proofs.motion.rounds.play_part.Goals as goal

pub returns-in-Err-clause-part : goal.returns-in-Err-clause-part
returns-in-Err-clause-part c =
    let e = event_of c.args.event in
    let n = c.loop-sent.sent in
    let within : n ≤ c.args.count = omega (arith, c.loop-sent-test.true) in
    part-often n c.args.count e c.args.session.now c.send.new.self c.args.output.now c.loop-sent.output within
    (plays-still (replicate n e) c.args.session.now c.loop-sent.session c.send.new.self c.args.output.now c.loop-sent.output c.loop-sent.invariant.plays c.in-Err.ensures.refused)

pub loop-sent-preserved : goal.loop-sent-preserved
loop-sent-preserved c =
    let e = event_of c.args.event in
    let n = c.loop-sent.sent in
    let f = c.loop-sent.faulted in
    let o = outcome_of c.in-Ok.outcome in
    let shown = subst (λ (bs : List ℕ). KeepsShown bs c.loop-sent.output c.add.new.self) c.shown.ensures c.add.ensures in
    telling-those (replicate n e ++ e ∷ []) (replicate (n + 1) e) (f || faults o) (f || c.is_fault-faulted.result) c.args.session.now c.send.new.self c.args.output.now
    c.add.new.self (replicate_more n e) (ap (λ (b : Bool). f || b) (sym c.is_fault-faulted.ensures))
    (telling-join (replicate n e) (e ∷ []) f (faults o) c.args.session.now c.loop-sent.session c.send.new.self c.args.output.now c.loop-sent.output c.add.new.self c.loop-sent.invariant
    (telling-one e o c.loop-sent.session c.send.new.self c.loop-sent.output c.add.new.self c.in-Ok.ensures.sent shown))

pub returns-clause-played : goal.returns-clause-played
returns-clause-played c =
    let e = event_of c.args.event in
    let f = c.loop-sent.faulted in
    let same : c.loop-sent.sent ≡ c.args.count = omega (arith, c.loop-sent-test.false, c.loop-sent.auto.sent-end) in
    telling-those (replicate c.loop-sent.sent e) (replicate c.args.count e) f f c.args.session.now c.loop-sent.session c.args.output.now
    c.loop-sent.output (ap (λ (n : ℕ). replicate n e) same) refl c.loop-sent.invariant

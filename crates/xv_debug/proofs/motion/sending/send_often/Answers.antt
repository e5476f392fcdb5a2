use Rattle.std.proofs.Common.{◌≡◌, ℕ, List, [], ◌∷◌, ◌++◌, ◌+◌, Some, option_map, replicate, refl, sym, subst, arith}
use Rattle.std.proofs.lemmas.List.{replicate_more}
use Rattle.xv_machine.specs.Events.{event_of, outcome_of}
use Rattle.xv_debug.specs.motion.Sent.{Sends}
use Rattle.xv_debug.specs.motion.Shown.{KeepsShown}
use Rattle.xv_debug.specs.declared.motion.journey.Journey.{Journey}
use Rattle.xv_debug.proofs.Played.{sends-none, sends-more, sends-those, sends-still}
use Rattle.xv_debug.proofs.motion.sending.send_often.Goals as goal

pub loop-sent-init : goal.loop-sent-init
loop-sent-init g c = sends-none c.args.session.now c.args.output.now c.args.output.now.fits

pub returns-then-is_over-clause-sent : goal.returns-then-is_over-clause-sent
returns-then-is_over-clause-sent g c =
    let e = event_of c.args.event in
    let last = option_map outcome_of c.loop-sent.last in
    let old = c.args.session.now in
    let new = c.loop-sent.session in
    let had = c.args.output.now in
    let has = c.loop-sent.output in
    subst (λ (j : Journey). Sends (replicate j.sent e) (option_map outcome_of j.last) old new had has) (sym c.new.ensures)
    (subst (λ (n : ℕ). Sends (replicate n e) last old new had has) (sym c.from-far.ensures) c.loop-sent.invariant)

pub returns-in-Err-clause-sent : goal.returns-in-Err-clause-sent
returns-in-Err-clause-sent g c =
    let e = event_of c.args.event in
    let last = option_map outcome_of c.loop-sent.last in
    let old = c.args.session.now in
    let new = c.send.new.self in
    let had = c.args.output.now in
    let has = c.loop-sent.output in
    subst (λ (j : Journey). Sends (replicate j.sent e) (option_map outcome_of j.last) old new had has) (sym c.new-in-Err.ensures)
    (subst (λ (n : ℕ). Sends (replicate n e) last old new had has) (sym c.from-in-Err.ensures)
    (sends-still (replicate c.loop-sent.sent e) last old c.loop-sent.session new had has c.loop-sent.invariant c.in-Err.ensures.refused))

pub loop-sent-preserved : goal.loop-sent-preserved
loop-sent-preserved g c =
    let e = event_of c.args.event in
    let n = c.loop-sent.sent in
    let o = outcome_of c.in-Ok.outcome in
    let shown = subst (λ (bs : List ℕ). KeepsShown bs c.loop-sent.output c.add.new.self) c.shown.ensures c.add.ensures in
    sends-those (replicate n e ++ e ∷ []) (replicate (n + 1) e) (Some o) c.args.session.now c.send.new.self c.args.output.now c.add.new.self (replicate_more n e)
    (sends-more (replicate n e) e o (Some o) c.args.session.now c.loop-sent.session c.send.new.self c.args.output.now c.loop-sent.output
    c.add.new.self c.loop-sent.invariant.0 c.in-Ok.ensures.sent shown refl)

pub returns-clause-sent : goal.returns-clause-sent
returns-clause-sent g c =
    let e = event_of c.args.event in
    let last = option_map outcome_of c.loop-sent.last in
    let old = c.args.session.now in
    let new = c.loop-sent.session in
    let had = c.args.output.now in
    let has = c.loop-sent.output in
    let same : c.loop-sent.sent ≡ c.from-2.result = omega (arith, c.from-2.ensures, c.loop-sent-test.false, c.loop-sent.auto.sent-end) in
    subst (λ (j : Journey). Sends (replicate j.sent e) (option_map outcome_of j.last) old new had has) (sym c.new-2.ensures)
    (subst (λ (n : ℕ). Sends (replicate n e) last old new had has) same c.loop-sent.invariant)

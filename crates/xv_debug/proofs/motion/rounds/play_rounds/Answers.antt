use Rattle.std.proofs.Common.{◌≤◌, ◌+◌, ◌++◌, [], false, true, sym, subst, arith}
use Rattle.kernel_spec.specs.runs.Rounds.{round}
use Rattle.xv_debug.specs.motion.Rounds.{RoundsLeave, PlaysToFault, PlaysPart, rounds_of}
use Rattle.xv_debug.specs.declared.motion.journey.Stop.{Stop}
use Rattle.xv_debug.proofs.Played.{plays-those, plays-join, telling-those, telling-join, telling-nothing, rounds-more, rounds-part, part-those, part-of-all}
use Rattle.xv_debug.proofs.motion.rounds.play_rounds.Goals as goal

pub returns-in-Ok-true-clause-played : goal.returns-in-Ok-true-clause-played
returns-in-Ok-true-clause-played g c =
    let q = c.args.quantum in
    let n = c.loop-count.count in
    let f = c.in-Ok-true.field-0 in
    let old = c.args.session.now in
    let new = c.play_round.new.session in
    let had = c.args.output.now in
    let has = c.play_round.new.output in
    let leaves : PlaysToFault q c.args.most old new had has = record {
      whole = n + 1;
      within = omega (arith, c.loop-count-test.true);
      tells = telling-those (rounds_of q n ++ round q []) (rounds_of q (n + 1)) f true old new had has (rounds-more q n) c.in-Ok-true.field-0-test
          (telling-join (rounds_of q n) (round q []) false f old c.loop-count.session new had c.loop-count.output has
          (telling-nothing (rounds_of q n) old c.loop-count.session had c.loop-count.output c.loop-count.invariant) c.in-Ok-true.ensures.played);
    } in
    subst (λ (s : Stop). RoundsLeave g.P.Patience.may_end q c.args.most s old new had has) (sym c.arrived-in-Ok-true.ensures.stop) leaves

pub returns-in-Err-clause-played : goal.returns-in-Err-clause-played
returns-in-Err-clause-played g c =
    let q = c.args.quantum in
    let n = c.loop-count.count in
    let old = c.args.session.now in
    let new = c.play_round.new.session in
    let had = c.args.output.now in
    let has = c.play_round.new.output in
    let within : n + 1 ≤ c.args.most = omega (arith, c.loop-count-test.true) in
    let leaves : PlaysPart (rounds_of q c.args.most) old new had has =
    rounds-part q (n + 1) c.args.most old new had has within
    (part-those (rounds_of q n ++ round q []) (rounds_of q (n + 1)) old new had has (rounds-more q n)
    (part-of-all (rounds_of q n) (round q []) old c.loop-count.session new had c.loop-count.output has c.loop-count.invariant c.in-Err.ensures.part)) in
    subst (λ (s : Stop). RoundsLeave g.P.Patience.may_end q c.args.most s old new had has) (sym c.arrived-in-Err.ensures.stop) leaves

pub loop-count-preserved : goal.loop-count-preserved
loop-count-preserved g c =
    let q = c.args.quantum in
    let n = c.loop-count.count in
    plays-those (rounds_of q n ++ round q []) (rounds_of q (n + 1)) c.args.session.now c.play_round.new.session c.args.output.now c.play_round.new.output (rounds-more q n)
    (plays-join (rounds_of q n) (round q []) c.args.session.now c.loop-count.session c.play_round.new.session c.args.output.now c.loop-count.output
    c.play_round.new.output c.loop-count.invariant c.in-Ok-false.ensures.played.plays)

use Rattle.std.proofs.Common.{◌+◌, ◌++◌, arith, drop, get_or, rules, sym, take}
use Rattle.xv_machine.specs.RoundParts.{events_of_part, events_of_parts}
use Rattle.xv_machine.specs.declared.event.Event.TheVariants.{Run}
use Rattle.xv_machine.specs.declared.parts.RoundPart.{RoundPart}
use Rattle.xv_machine.proofs.Joins.{none-played, played-join, broke-early, broke-later}
use Rattle.xv_machine.proofs.PlayedParts.{parts-more, parts-all, parts-around, played-of, broke-of, played-those, broke-those}
use Rattle.xv_machine.proofs.Refused.{if-err, first-those, first-early, first-later}
use Rattle.xv_machine.proofs.driving.play_parts.Goals as goal

pub loop-part-init : goal.loop-part-init
loop-part-init g c = record { played = none-played _ _ c.requires; failures = search rules }

pub play_times-requires : goal.play_times-requires
play_times-requires g c = c.loop-part.invariant.played.goes.sound

pub loop-part-preserved : goal.loop-part-preserved
loop-part-preserved g c =
    let parts = c.args.parts.now in
    let i = c.loop-part.part-index in
    let none : RoundPart = record { event = Run; count = 0 } in
    let before = events_of_parts (take i parts) in
    let now = events_of_part (get_or parts i none) in
    record {
      played = played-those (before ++ now) (events_of_parts (take (i + 1) parts)) _ _ _ _ (sym (parts-more parts i none c.loop-part-test.true))
          (played-join before now _ _ _ _ _ _ c.loop-part.invariant.played (played-of now _ _ _ _ c.in_ok-written.written _ c.in-Ok.is c.in_ok-written.ensures.plays));
      failures = search rules;
    }

pub returns-in_default-clause-plays : goal.returns-in_default-clause-plays
returns-in_default-clause-plays g c =
    let parts = c.args.parts.now in
    let i = c.loop-part.part-index in
    let none : RoundPart = record { event = Run; count = 0 } in
    let before = events_of_parts (take i parts) in
    let now = events_of_part (get_or parts i none) in
    let later = events_of_parts (drop (i + 1) parts) in
    broke-those ((before ++ now) ++ later) (events_of_parts parts) _ _ _ _ (parts-around parts i none c.loop-part-test.true)
    (broke-early (before ++ now) later _ _ _ _
    (broke-later before now _ _ _ _ _ _ c.loop-part.invariant.played (broke-of now _ _ _ _ c.in_ok-written.written _ c.in_default.is c.in_ok-written.ensures.plays)))

pub returns-clause-plays : goal.returns-clause-plays
returns-clause-plays g c =
    let parts = c.args.parts.now in
    let i = c.loop-part.part-index in
    played-those (events_of_parts (take i parts)) (events_of_parts parts) _ _ _ _ (parts-all parts i (omega arith)) c.loop-part.invariant.played

pub returns-in_err-written-clause-refused : goal.returns-in_err-written-clause-refused
returns-in_err-written-clause-refused g c =
    let parts = c.args.parts.now in
    let i = c.loop-part.part-index in
    let none : RoundPart = record { event = Run; count = 0 } in
    let before = events_of_parts (take i parts) in
    let now = events_of_part (get_or parts i none) in
    let later = events_of_parts (drop (i + 1) parts) in
    if-err c.from_residual.result
    (first-those ((before ++ now) ++ later) (events_of_parts parts) _ _ _ _ (parts-around parts i none c.loop-part-test.true)
    (first-early (before ++ now) later _ _ _ _ (first-later before now _ _ _ _ _ _ c.loop-part.invariant.played c.in_err-written.ensures.refused)))

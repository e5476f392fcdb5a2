use Rattle.std.proofs.Common.{◌+◌, ◌++◌, ◌||◌, arith, drop, get_or, refl, sym, take}
use Rattle.xv_machine.specs.RoundParts.{events_of_part, events_of_parts}
use Rattle.xv_machine.specs.declared.event.Event.TheVariants.{Run}
use Rattle.xv_machine.specs.declared.parts.RoundPart.{RoundPart}
use Rattle.xv_machine.proofs.PlayedParts.{parts-more, parts-all, parts-around}
use Rattle.xv_debug.proofs.Played.{part-more, part-of-all, part-those, telling-join, telling-those}
use Rattle.xv_debug.proofs.motion.rounds.play_parts.Goals as goal

pub returns-in-Err-clause-part : goal.returns-in-Err-clause-part
returns-in-Err-clause-part c =
    let parts = c.args.parts.now in
    let i = c.loop-part.part-index in
    let none : RoundPart = record { event = Run; count = 0 } in
    let before = events_of_parts (take i parts) in
    let now = events_of_part (get_or parts i none) in
    let later = events_of_parts (drop (i + 1) parts) in
    let old = c.args.session.now in
    let new = c.play_part.new.session in
    let had = c.args.output.now in
    let has = c.play_part.new.output in
    part-those ((before ++ now) ++ later) (events_of_parts parts) old new had has (parts-around parts i none c.loop-part-test.true)
    (part-more (before ++ now) later old new had has
    (part-of-all before now old c.loop-part.session new had c.loop-part.output has c.loop-part.invariant.plays c.in-Err.ensures.part))

pub loop-part-preserved : goal.loop-part-preserved
loop-part-preserved c =
    let parts = c.args.parts.now in
    let i = c.loop-part.part-index in
    let none : RoundPart = record { event = Run; count = 0 } in
    let before = events_of_parts (take i parts) in
    let now = events_of_part (get_or parts i none) in
    let f = c.loop-part.faulted || c.in-Ok.now in
    telling-those (before ++ now) (events_of_parts (take (i + 1) parts)) f f c.args.session.now c.play_part.new.session c.args.output.now c.play_part.new.output
    (sym (parts-more parts i none c.loop-part-test.true)) refl
    (telling-join before now c.loop-part.faulted c.in-Ok.now c.args.session.now c.loop-part.session c.play_part.new.session c.args.output.now
    c.loop-part.output c.play_part.new.output c.loop-part.invariant c.in-Ok.ensures.played)

pub returns-clause-played : goal.returns-clause-played
returns-clause-played c =
    let parts = c.args.parts.now in
    let i = c.loop-part.part-index in
    let f = c.loop-part.faulted in
    telling-those (events_of_parts (take i parts)) (events_of_parts parts) f f c.args.session.now c.loop-part.session c.args.output.now c.loop-part.output
    (parts-all parts i (omega arith)) refl c.loop-part.invariant

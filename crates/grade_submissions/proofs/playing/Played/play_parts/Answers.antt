use Rattle.std.proofs.Common.{◌∙◌, ◌+◌, ◌++◌, arith, [], take, drop, get_or, sym}
use Rattle.xv_machine.specs.RoundParts.{events_of_part, events_of_parts}
use Rattle.xv_machine.specs.declared.event.Event.TheVariants.{Run}
use Rattle.xv_machine.specs.declared.parts.RoundPart.{RoundPart}
use Rattle.xv_machine.proofs.PlayedParts.{parts-more, parts-all}
use Rattle.grade_submissions.proofs.Counting.{runs-more, runs-within, runs-all, runs-first, parts-split}
use Rattle.grade_submissions.proofs.Going.{plays-none, first-all, first-full, first-more, first-those}
use Rattle.grade_submissions.proofs.playing.Played.play_parts.Goals as goal

pub loop-part-init : goal.loop-part-init
loop-part-init c = record { plays = first-all [] c.args.self.now c.args.self.now (plays-none c.args.self.now); few = omega arith }

pub play_part-requires : goal.play_part-requires
play_part-requires c =
    let none : RoundPart = record { event = Run; count = 0 } in
    let within = runs-within c.args.parts.now c.loop-part.part-index none c.loop-part-test.true in
    omega (arith, within, c.loop-part.invariant.few, c.requires)

pub loop-part-preserved : goal.loop-part-preserved
loop-part-preserved c =
    let none : RoundPart = record { event = Run; count = 0 } in
    let parts = c.args.parts.now in
    let place = c.loop-part.part-index in
    let now = events_of_part (get_or parts place none) in
    let more = runs-more parts place none c.loop-part-test.true in
    record {
      plays = first-those (events_of_parts (take place parts) ++ now) (events_of_parts (take (place + 1) parts)) c.args.self.now c.play_part.new.self
          (sym (parts-more parts place none c.loop-part-test.true))
          (first-more (events_of_parts (take place parts)) now c.args.self.now c.loop-part.self c.play_part.new.self
          c.loop-part.invariant.plays (sym c.is_full.ensures ∙ c.if-is_full.false) c.in_ok-play_part.ensures.plays);
      few = omega (arith, more, c.loop-part.invariant.few, c.in_ok-play_part.ensures.runs);
    }

pub returns-then-is_full-clause-plays : goal.returns-then-is_full-clause-plays
returns-then-is_full-clause-plays c =
    let parts = c.args.parts.now in
    let place = c.loop-part.part-index in
    first-those (events_of_parts (take place parts) ++ events_of_parts (drop place parts)) (events_of_parts parts) c.args.self.now c.loop-part.self (parts-split parts place)
    (first-full (events_of_parts (take place parts)) (events_of_parts (drop place parts)) c.args.self.now c.loop-part.self c.loop-part.invariant.plays (sym c.is_full.ensures ∙ c.if-is_full.true))

pub returns-then-is_full-clause-runs : goal.returns-then-is_full-clause-runs
returns-then-is_full-clause-runs c =
    let first = runs-first c.args.parts.now c.loop-part.part-index in
    omega (arith, first, c.loop-part.invariant.few)

pub returns-clause-plays : goal.returns-clause-plays
returns-clause-plays c =
    first-those (events_of_parts (take c.loop-part.part-index c.args.parts.now)) (events_of_parts c.args.parts.now) c.args.self.now c.loop-part.self
    (parts-all c.args.parts.now c.loop-part.part-index (omega (arith, c.loop-part-test.false))) c.loop-part.invariant.plays

pub returns-clause-runs : goal.returns-clause-runs
returns-clause-runs c =
    let all = runs-all c.args.parts.now c.loop-part.part-index (omega (arith, c.loop-part-test.false)) in
    omega (arith, all, c.loop-part.invariant.few)

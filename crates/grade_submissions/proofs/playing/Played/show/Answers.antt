use Rattle.std.proofs.Common.{◌≡◌, ◌∙◌, ◌-◌, arith, length}
use Rattle.xv_machine.specs.Events.{event_of, outcome_of}
use Rattle.grade_submissions.proofs.Going.{plays-event}
use Rattle.grade_submissions.proofs.playing.Played.show.Goals as goal

pub returns-clause-plays : goal.returns-clause-plays
returns-clause-plays c =
    let last : c.saturating_sub-place.result ≡ length c.send.new.self.events - 1 = omega arith in
    plays-event (event_of c.args.event) (outcome_of c.in_ok-outcome.outcome) c.args.self.now
    (record { session = c.send.new.self; kept = c.add_work.new.self }) c.in_ok-outcome.ensures.sent c.saturating_sub-place.result c.requires.other last
    (c.add_work.ensures.notes ∙ c.keep.ensures.notes) (c.add_work.ensures.fault ∙ c.in_ok-keep.ensures.fault)
    (c.add_work.ensures.pipes ∙ c.keep.ensures.pipes)
    (c.add_work.ensures.told ∙ c.in_ok-keep.ensures.told) (c.add_work.ensures.budget ∙ c.in_ok-keep.ensures.budget)

use Rattle.std.proofs.Common.{Some}
use Rattle.xv_machine.specs.Events.{event_of}
use Rattle.xv_session.specs.Answers.{AreEqualFrom}
use Rattle.debug_views.proofs.history.joined.Given as goal

abbrev pub invariant-loop-joins : goal.invariant-loop-joins
invariant-loop-joins l = AreEqualFrom l.session.events l.place (Some (event_of l.equal.event, l.count))

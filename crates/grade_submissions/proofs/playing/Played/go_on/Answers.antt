use Rattle.std.proofs.Common.{ℕ, List, refl, arith, subst}
use Rattle.kernel_spec.specs.runs.Run.{Event, Outcome}
use Rattle.kernel_spec.specs.waking.Wakes.{IsPromised}
use Rattle.grade_submissions.specs.Plays.{AreInstructions}
use Rattle.grade_submissions.proofs.Going.{plays-still, plays-done}
use Rattle.grade_submissions.proofs.playing.Played.go_on.Goals as goal

pub returns-then-sent-eq0-clause-plays : goal.returns-then-sent-eq0-clause-plays
returns-then-sent-eq0-clause-plays c =
    plays-still c.in_ok-sent.sent c.args.self.now (record { session = c.instructions.new.self; kept = c.args.self.now.kept }) c.in_ok-sent.ensures.sent c.if-sent-eq0.true refl

pub returns-clause-plays : goal.returns-clause-plays
returns-clause-plays c =
    plays-done c.in_ok-sent.sent c.args.self.now (record { session = c.instructions.new.self; kept = c.keep_done.new.self }) c.in_ok-sent.ensures.sent
    (omega (arith, c.if-sent-eq0.false)) c.keep_done.ensures.notes c.keep_done.ensures.fault c.keep_done.ensures.pipes c.keep_done.ensures.told c.keep_done.ensures.budget

pub returns-then-sent-eq0-clause-done : goal.returns-then-sent-eq0-clause-done
returns-then-sent-eq0-clause-done c =
    let w = c.args.self.now.session.machine.world in
    let t = c.instructions.new.self.machine.world in
    let are = c.in_ok-sent.ensures.sent.0 in
    subst (λ (n : ℕ). AreInstructions n w t) c.if-sent-eq0.true (subst (λ (es : List (Event × Outcome)). IsPromised w es t) are.runs_are are.goes.run)

pub returns-clause-done : goal.returns-clause-done
returns-clause-done c =
    let w = c.args.self.now.session.machine.world in
    let t = c.instructions.new.self.machine.world in
    let are = c.in_ok-sent.ensures.sent.0 in
    subst (λ (es : List (Event × Outcome)). IsPromised w es t) are.runs_are are.goes.run

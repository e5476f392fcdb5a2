use Rattle.std.proofs.Common.{◌≡◌, ◌∙◌, ◌+◌, ◌-◌, ◌++◌, ℕ, Some, ap, arith, length}
use Rattle.grade_rules.specs.declared.given.Given.{Given}
use Rattle.xv_machine.specs.Events.{outcome_of}
use Rattle.xv_machine.specs.Meaning.{Meaning}
use Rattle.grade_submissions.specs.Givens.{given_in}
use Rattle.grade_submissions.specs.Pipes.{Made, made_of, pipes_after}
use Rattle.grade_submissions.specs.Plays.{note_with, all_of}
use Rattle.grade_submissions.proofs.Going.{plays-run}
use Rattle.run_work.specs.Work.{cost, with_more}
use Rattle.kcall_core.specs.Observers.{size_of}
use Rattle.grade_submissions.proofs.playing.Played.step.Goals as goal

pub returns-clause-plays : goal.returns-clause-plays
returns-clause-plays c =
    let o = outcome_of c.in_ok-outcome.outcome in
    let w = c.args.self.now.session.machine.world in
    let t = c.send.new.self.machine.world in
    let before = made_of c.args.self.now.kept.pipes in
    let given : c.given_now-given.result ≡ given_in before w = c.given_now-given.ensures ∙ ap (λ (m : Meaning). given_in before m.world) c.machine.ensures.machine in
    let last : c.saturating_sub-place.result ≡ length c.send.new.self.events - 1 = omega arith in
    let kept : made_of c.keep_noted.new.self.pipes ≡ before = c.keep_noted.ensures.pipes in
    plays-run o c.saturating_sub-place.result c.args.self.now (record { session = c.send.new.self; kept = c.add_work.new.self }) c.in_ok-outcome.ensures.sent last
    (c.add_work.ensures.notes ∙ c.in_ok-keep_pipe.ensures.notes ∙ c.in_ok-keep_noted.ensures.notes ∙ ap (λ (g : Given). c.args.self.now.kept.notes.items ++ all_of (note_with g o)) given)
    (c.add_work.ensures.fault ∙ c.in_ok-keep_pipe.ensures.fault ∙ c.in_ok-keep_noted.ensures.fault)
    (c.add_work.ensures.pipes ∙ c.in_ok-keep_pipe.ensures.pipes ∙ ap (λ (m : Meaning). pipes_after c.given_now-given.result m.world o (made_of c.keep_noted.new.self.pipes)) c.machine-2.ensures.machine
    ∙ ap (λ (made : Made). pipes_after c.given_now-given.result t o made) kept ∙ ap (λ (g : Given). pipes_after g t o before) given)
    (c.add_work.ensures.told ∙ c.in_ok-keep_pipe.ensures.told ∙ c.in_ok-keep_noted.ensures.told) (c.add_work.ensures.budget ∙ c.in_ok-keep_pipe.ensures.budget ∙ c.in_ok-keep_noted.ensures.budget)

pub returns-clause-work : goal.returns-clause-work
returns-clause-work c =
    let o = outcome_of c.in_ok-outcome.outcome in
    let k = c.args.self.now.kept in
    let priced = c.cost_of-cost.ensures
    ∙ ap (λ (m : Meaning). cost c.args.before.now (c.args.sent + 1) m.world.state.free (size_of m.world.state) (Some o)) c.machine-3.ensures.machine in
    record {
      outcome = o;
      came = c.in_ok-outcome.ensures.sent.0.event.promised;
      work = c.add_work.ensures.work ∙ ap (λ (n : ℕ). with_more n c.cost_of-cost.result) (c.in_ok-keep_pipe.ensures.work ∙ c.in_ok-keep_noted.ensures.work) ∙ ap (λ (n : ℕ). with_more k.work n) priced;
    }

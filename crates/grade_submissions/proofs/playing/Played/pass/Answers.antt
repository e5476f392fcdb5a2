use Rattle.std.proofs.Common.{◌≡◌, ◌∙◌, ◌-◌, ℕ, ap, arith, length}
use Rattle.run_work.specs.Work.{cost, size_now, with_more}
use Rattle.kcall_core.specs.Observers.{size_of}
use Rattle.xv_machine.specs.Meaning.{Meaning}
use Rattle.std.specs.Prelude.{option_map}
use Rattle.xv_machine.specs.Events.{outcome_of}
use Rattle.grade_submissions.proofs.Going.{plays-passed}
use Rattle.grade_submissions.proofs.Working.{runs-cost}
use Rattle.grade_submissions.proofs.playing.Played.pass.Goals as goal

pub returns-clause-plays : goal.returns-clause-plays
returns-clause-plays c =
    let last : c.saturating_sub-place.result ≡ length c.run.new.self.events - 1 = omega arith in
    (plays-passed c.args.most c.in_ok-runs.runs.sent c.saturating_sub-place.result (option_map outcome_of c.in_ok-runs.runs.last) c.args.self.now
    (record { session = c.run.new.self; kept = c.add_work.new.self }) c.requires.some c.requires.nobody c.in_ok-runs.ensures.sent last
    (c.add_work.ensures.notes ∙ c.in_ok-keep_runs.ensures.notes) (c.add_work.ensures.fault ∙ c.in_ok-keep_runs.ensures.fault)
    (c.add_work.ensures.pipes ∙ c.keep_runs.ensures.pipes)
    (c.add_work.ensures.told ∙ c.in_ok-keep_runs.ensures.told) (c.add_work.ensures.budget ∙ c.in_ok-keep_runs.ensures.budget)).0

pub returns-clause-work : goal.returns-clause-work
returns-clause-work c =
    let b = c.of-before.result in
    let made = c.in_ok-runs.ensures.sent.0 in
    let t = c.run.new.self.machine.world in
    let o = option_map outcome_of c.in_ok-runs.runs.last in
    let priced = c.cost_of-cost.ensures
    ∙ ap (λ (m : Meaning). cost b c.in_ok-runs.runs.sent m.world.state.free (size_of m.world.state) o) c.machine-2.ensures.machine
    ∙ runs-cost b c.in_ok-runs.runs.sent t.state.free (size_of t.state) c.args.most _ o made.list c.requires.some made.runs_are in
    record {
      list = made.list;
      came = made.goes.run;
      those = made.those;
      before = b;
      free = c.of-before.ensures.free ∙ ap (λ (m : Meaning). m.world.state.free) c.machine.ensures.machine;
      size = c.of-before.ensures.size ∙ ap (λ (m : Meaning). size_now (size_of m.world.state) m.world.turns.current) c.machine.ensures.machine;
      work = c.add_work.ensures.work ∙ ap (λ (n : ℕ). with_more n c.cost_of-cost.result) c.in_ok-keep_runs.ensures.work ∙ ap (λ (n : ℕ). with_more c.args.self.now.kept.work n) priced;
    }

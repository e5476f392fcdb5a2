use Rattle.std.proofs.Common.{◌∙◌, ◌+◌, ◌++◌, ◌∷◌, [], ℕ, Option, Some, None, ap, sym, refl, replicate}
use Rattle.kcall_core.specs.Observers.{size_of}
use Rattle.kernel_spec.specs.runs.Run.{Run, Outcome}
use Rattle.kernel_spec.specs.views.Words.{or_zero}
use Rattle.kernel_spec.proofs.runs.Boot.{promised_runs_join}
use Rattle.run_work.specs.Work.{cost, size_now, with_more}
use Rattle.xv_machine.specs.Drives.{done_by}
use Rattle.xv_machine.specs.Meaning.{Meaning}
use Rattle.xv_session.proofs.RunsMade.{one-more}
use Rattle.grade_submissions.proofs.Going.{plays-more}
use Rattle.grade_submissions.proofs.Working.{last-of, events-done, done-cost}
use Rattle.grade_submissions.proofs.playing.Played.run_process.Goals as goal

pub returns-then-sent-most-clause-plays : goal.returns-then-sent-most-clause-plays
returns-then-sent-most-clause-plays c =
    plays-more c.in_ok-sent.sent c.args.self.now c.go_on.new.self c.step.new.self c.in_ok-sent.ensures.plays c.in_ok-step.ensures.plays

pub returns-then-sent-most-clause-work : goal.returns-then-sent-most-clause-work
returns-then-sent-most-clause-work c =
    let b = c.of-before.result in
    let sent = c.in_ok-sent.sent in
    let w = c.args.self.now.session.machine.world in
    let mid = c.go_on.new.self.session.machine.world in
    let t = c.step.new.self.session.machine.world in
    let p = or_zero w.turns.current in
    let done = replicate sent (done_by p) in
    let last = c.in_ok-step.ensures.work in
    let is = last-of done Run last.outcome in
    record {
      list = done ++ (Run, last.outcome) ∷ [];
      came = promised_runs_join w mid t done ((Run, last.outcome) ∷ []) c.in_ok-sent.ensures.done (t, last.came, refl);
      those = one-more sent p last.outcome;
      before = b;
      free = c.of-before.ensures.free ∙ ap (λ (m : Meaning). m.world.state.free) c.machine.ensures.machine;
      size = c.of-before.ensures.size ∙ ap (λ (m : Meaning). size_now (size_of m.world.state) m.world.turns.current) c.machine.ensures.machine;
      work = last.work ∙ ap (λ (n : ℕ). with_more n (cost b (sent + 1) t.state.free (size_of t.state) (Some last.outcome))) c.in_ok-sent.ensures.work
          ∙ ap (λ (o : Option Outcome). with_more c.args.self.now.kept.work (cost b (sent + 1) t.state.free (size_of t.state) o)) (sym is);
    }

pub returns-clause-work : goal.returns-clause-work
returns-clause-work c =
    let b = c.of-before.result in
    let sent = c.in_ok-sent.sent in
    let w = c.args.self.now.session.machine.world in
    let t = c.go_on.new.self.session.machine.world in
    let p = or_zero w.turns.current in
    let priced = c.cost_of-cost.ensures
    ∙ ap (λ (m : Meaning). cost b sent m.world.state.free (size_of m.world.state) None) c.machine-2.ensures.machine
    ∙ done-cost b sent t.state.free (size_of t.state) sent p in
    record {
      list = replicate sent (done_by p);
      came = c.in_ok-sent.ensures.done;
      those = events-done sent p;
      before = b;
      free = c.of-before.ensures.free ∙ ap (λ (m : Meaning). m.world.state.free) c.machine.ensures.machine;
      size = c.of-before.ensures.size ∙ ap (λ (m : Meaning). size_now (size_of m.world.state) m.world.turns.current) c.machine.ensures.machine;
      work = c.add_work.ensures.work ∙ ap (λ (n : ℕ). with_more n c.cost_of-cost.result) c.in_ok-sent.ensures.work ∙ ap (λ (n : ℕ). with_more c.args.self.now.kept.work n) priced;
    }

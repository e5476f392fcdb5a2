use Rattle.std.proofs.Common.{ap, subst, sym}
use Rattle.std.specs.Prelude.{option_map}
use Rattle.std.proofs.Math.Logic.{∥∥₁_map}
use Rattle.xv_machine.specs.Events.{outcome_of}
use Rattle.xv_session.specs.Recorded.{Recorded, running_of}
use Rattle.xv_machine.proofs.Refused.{if-err}
use Rattle.reported_run.specs.Known.{IsKnown, known_of}
use Rattle.reported_run.proofs.Learned.{known-runs}
use Rattle.reported_run.proofs.Stretches.{ran, within, some}
use Rattle.reported_run.proofs.watching.WatchedRoundPlayer.play_runs.Goals as goal

pub invariant_of-self-in-Break-1 : goal.invariant_of-self-in-Break-1
invariant_of-self-in-Break-1 g c =
    let before = c.args.self.now in
    record {
      known = ∥∥₁_map before.known (λ k whole. subst (λ (s : Recorded). IsKnown s (known_of before.teller.ends)) (sym c.in_err-made.ensures.refused) (k whole));
    }

pub invariant_of-self-2 : goal.invariant_of-self-2
invariant_of-self-2 g c =
    let before = c.args.self.now in
    let made = c.in_ok-made.made in
    let after = c.tell_runs.new.self.ends in
    record {
      known = ∥∥₁_map before.known (known-runs c.args.most made.sent (option_map outcome_of made.last) before.session c.run.new.self c.running_now-runner.result.program
          before.teller.ends.complete after.complete (known_of before.teller.ends) (known_of after)
          c.in_ok-made.ensures.sent c.running_now-runner.ensures c.tell_runs.ensures.complete c.tell_runs.ensures.ends);
    }

pub returns-clause-ran : goal.returns-clause-ran
returns-clause-ran g c =
    ran c.args.most c.in_ok-made.made.sent (option_map outcome_of c.in_ok-made.made.last) (running_of c.args.self.now.session) (running_of c.run.new.self) c.in_ok-made.ensures.sent.0

pub returns-clause-within : goal.returns-clause-within
returns-clause-within g c =
    within c.args.most c.in_ok-made.made.sent (option_map outcome_of c.in_ok-made.made.last) (running_of c.args.self.now.session) (running_of c.run.new.self) c.in_ok-made.ensures.sent.0

pub returns-clause-some : goal.returns-clause-some
returns-clause-some g c =
    some c.args.most c.in_ok-made.made.sent (option_map outcome_of c.in_ok-made.made.last) (running_of c.args.self.now.session) (running_of c.run.new.self) c.in_ok-made.ensures.sent.0

pub returns-in_err-made-clause-refused : goal.returns-in_err-made-clause-refused
returns-in_err-made-clause-refused g c = if-err c.from_residual.result (ap (λ (s : Recorded). s.machine) c.in_err-made.ensures.refused)

use Rattle.std.proofs.Common.{ℕ, Option, ap, ◌∙◌}
use Rattle.std.specs.Prelude.{option_map}
use Rattle.xv_machine.specs.Events.{outcome_of}
use Rattle.xv_session.specs.Follows.{last_after}
use Rattle.xv_session.proofs.LastRuns.{follows-runs}
use Rattle.xv_session.proofs.followed.Followed.run.Goals as goal

pub returns-clause-follows : goal.returns-clause-follows
returns-clause-follows c =
    let made = c.run-made.result in
    follows-runs c.args.most made.sent (option_map outcome_of made.last) c.args.self.now (record { running = c.run-made.new.self; last = c.last_after-self.result })
    c.requires.sound.machine c.run-made.ensures.made (c.last_after-self.ensures ∙ ap (λ (o : Option ℕ). last_after made.sent o c.args.self.now.last) c.current-current.ensures.pid)

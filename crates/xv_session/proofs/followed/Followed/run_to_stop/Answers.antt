use Rattle.std.proofs.Common.{ℕ, Option, ap, ◌∙◌}
use Rattle.std.specs.Prelude.{option_map}
use Rattle.xv_machine.specs.Events.{outcome_of}
use Rattle.xv_session.specs.Follows.{last_after}
use Rattle.xv_session.proofs.LastRuns.{follows-stop}
use Rattle.xv_session.proofs.followed.Followed.run_to_stop.Goals as goal

pub returns-clause-follows : goal.returns-clause-follows
returns-clause-follows c =
    let found = c.run_to_stop-found.result in
    follows-stop c.args.addresses.now c.args.bytes.now c.args.most found.met (option_map outcome_of found.last) found.sent c.args.self.now
    (record { running = c.run_to_stop-found.new.running; last = c.last_after-self.result }) c.requires.sound c.run_to_stop-found.ensures
    (c.last_after-self.ensures ∙ ap (λ (o : Option ℕ). last_after found.sent o c.args.self.now.last) c.current-current.ensures.pid)

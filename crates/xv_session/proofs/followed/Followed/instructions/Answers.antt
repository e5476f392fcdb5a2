use Rattle.std.proofs.Common.{ℕ, Option, None, ap, ◌∙◌}
use Rattle.xv_session.specs.Follows.{last_after}
use Rattle.xv_session.proofs.LastRuns.{follows-runs}
use Rattle.xv_session.proofs.followed.Followed.instructions.Goals as goal

pub returns-clause-follows : goal.returns-clause-follows
returns-clause-follows c =
    let made = c.instructions-made.result in
    follows-runs made made None c.args.self.now (record { running = c.instructions-made.new.self; last = c.last_after-self.result })
    c.requires.sound.machine c.instructions-made.ensures.made (c.last_after-self.ensures ∙ ap (λ (o : Option ℕ). last_after made o c.args.self.now.last) c.current-current.ensures.pid)

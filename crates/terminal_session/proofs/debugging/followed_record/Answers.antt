use Rattle.terminal_session.proofs.debugging.followed_record.Goals as goal

pub returns : goal.returns
returns c =
    record { whole = c.in_ok-whole.whole; text = c.in_ok-whole.ensures.taken; cut = c.in_ok-kept.ensures.cut; events = c.in_ok-events.ensures.events }

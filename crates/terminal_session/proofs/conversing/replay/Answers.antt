use Rattle.terminal_session.proofs.conversing.replay.Goals as goal

pub returns : goal.returns
returns g c =
    let outcome = c.play_to_end-outcome in
    record { outcome = outcome.result; status_is = c.tell_outcome.ensures; end = outcome.ensures.end; came = outcome.ensures.shown }

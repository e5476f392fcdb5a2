use Rattle.std.proofs.Common.{inr, option_map, replicate}
use Rattle.xv_machine.specs.Events.{event_of, outcome_of}
use Rattle.xv_debug.specs.Effects.{SendsFirst}
use Rattle.xv_debug.proofs.Results.{if-ok, if-err}
use Rattle.std.proofs.lemmas.Result.{on_ok_weaker}
use Rattle.xv_debug.proofs.debugger.Debugger.send_often.Goals as goal

pub returns-clause-done : goal.returns-clause-done
returns-clause-done g c =
    let j = c.send_often-journey in
    let p : SendsFirst g.P.Patience.may_end (λ n. replicate n (event_of c.args.event)) c.args.count c.args.session.now j.new.session =
    record {
      sent = j.result.sent;
      stop = j.result.stop;
      last = option_map outcome_of j.result.last;
      had = c.in_ok-output.output;
      has = j.new.output;
      sends = j.ensures.sent;
      within = j.ensures.within;
      whole = j.ensures.all;
      broken = j.ensures.broken;
      fewer = j.ensures.fewer;
      refused = j.ensures.refused;
      reason = j.ensures.reason;
    } in
    if-ok c.tell_shown.result p

pub returns-clause-failed : goal.returns-clause-failed
returns-clause-failed g c =
    let j = c.send_often-journey in
    let p : SendsFirst g.P.Patience.may_end (λ n. replicate n (event_of c.args.event)) c.args.count c.args.session.now j.new.session =
    record {
      sent = j.result.sent;
      stop = j.result.stop;
      last = option_map outcome_of j.result.last;
      had = c.in_ok-output.output;
      has = j.new.output;
      sends = j.ensures.sent;
      within = j.ensures.within;
      whole = j.ensures.all;
      broken = j.ensures.broken;
      fewer = j.ensures.fewer;
      refused = j.ensures.refused;
      reason = j.ensures.reason;
    } in
    if-err c.tell_shown.result (inr p)

pub returns-clause-told : goal.returns-clause-told
returns-clause-told g c =
    let j = c.send_often-journey in
    let p : SendsFirst g.P.Patience.may_end (λ n. replicate n (event_of c.args.event)) c.args.count c.args.session.now j.new.session =
    record {
      sent = j.result.sent;
      stop = j.result.stop;
      last = option_map outcome_of j.result.last;
      had = c.in_ok-output.output;
      has = j.new.output;
      sends = j.ensures.sent;
      within = j.ensures.within;
      whole = j.ensures.all;
      broken = j.ensures.broken;
      fewer = j.ensures.fewer;
      refused = j.ensures.refused;
      reason = j.ensures.reason;
    } in
    on_ok_weaker c.tell_shown.result (λ wrote. (p, (c.in_ok-output.ensures.kept, c.in_ok-output.ensures.none), wrote)) c.tell_shown.ensures

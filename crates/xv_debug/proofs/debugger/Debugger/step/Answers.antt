use Rattle.std.proofs.Common.{option_map}
use Rattle.xv_machine.specs.Events.{outcome_of}
use Rattle.std.proofs.lemmas.Result.{on_ok_weaker}
use Rattle.xv_debug.specs.Effects.{Steps}
use Rattle.xv_debug.proofs.debugger.Debugger.step.Goals as goal

pub returns-clause-done : goal.returns-clause-done
returns-clause-done g c =
    let j = c.step-journey in
    record {
      stop = j.result.stop;
      sent = j.result.sent;
      last = option_map outcome_of j.result.last;
      ran = j.ensures.ran;
      within = j.ensures.within;
      all = j.ensures.all;
      broken = j.ensures.broken;
      fewer = j.ensures.fewer;
      unmet = j.ensures.unmet;
      rests = j.ensures.rests;
      reason = j.ensures.refused;
    }

pub returns-clause-told : goal.returns-clause-told
returns-clause-told g c =
    let j = c.step-journey in
    let d : Steps g.P.Patience.may_end c.args.count c.args.session.now j.new.session = record {
      stop = j.result.stop;
      sent = j.result.sent;
      last = option_map outcome_of j.result.last;
      ran = j.ensures.ran;
      within = j.ensures.within;
      all = j.ensures.all;
      broken = j.ensures.broken;
      fewer = j.ensures.fewer;
      unmet = j.ensures.unmet;
      rests = j.ensures.rests;
      reason = j.ensures.refused;
    } in
    on_ok_weaker c.tell.result (λ wrote. (d, wrote)) c.tell.ensures

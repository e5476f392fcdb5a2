use Rattle.std.proofs.Common.{inr, option_map}
use Rattle.std.proofs.lemmas.Result.{on_ok_weaker}
use Rattle.xv_machine.specs.Events.{outcome_of}
use Rattle.xv_debug.specs.Effects.{SearchesWithin}
use Rattle.xv_debug.specs.motion.Reaching.{met_from}
use Rattle.xv_debug.proofs.Results.{if-ok, if-err}
use Rattle.xv_debug.proofs.debugger.Debugger.search_within.Goals as goal

pub returns-clause-done : goal.returns-clause-done
returns-clause-done g c =
    let j = c.search-journey in
    let d : SearchesWithin g.P.Patience.may_end c.args.self.now.plan (met_from c.args.session.now c.args.aim.now c.args.marks.now) c.args.most c.args.session.now j.new.session =
    record { stop = j.result.stop; sent = j.result.sent; last = option_map outcome_of j.result.last; had = c.in_ok-output.output; has = j.new.output; reaches = j.ensures } in
    if-ok c.tell_shown.result d

pub returns-clause-failed : goal.returns-clause-failed
returns-clause-failed g c =
    let j = c.search-journey in
    let d : SearchesWithin g.P.Patience.may_end c.args.self.now.plan (met_from c.args.session.now c.args.aim.now c.args.marks.now) c.args.most c.args.session.now j.new.session =
    record { stop = j.result.stop; sent = j.result.sent; last = option_map outcome_of j.result.last; had = c.in_ok-output.output; has = j.new.output; reaches = j.ensures } in
    if-err c.tell_shown.result (inr d)

pub returns-clause-told : goal.returns-clause-told
returns-clause-told g c =
    let j = c.search-journey in
    let d : SearchesWithin g.P.Patience.may_end c.args.self.now.plan (met_from c.args.session.now c.args.aim.now c.args.marks.now) c.args.most c.args.session.now j.new.session =
    record { stop = j.result.stop; sent = j.result.sent; last = option_map outcome_of j.result.last; had = c.in_ok-output.output; has = j.new.output; reaches = j.ensures } in
    on_ok_weaker c.tell_shown.result (λ wrote. (d, (c.in_ok-output.ensures.kept, c.in_ok-output.ensures.none), wrote)) c.tell_shown.ensures

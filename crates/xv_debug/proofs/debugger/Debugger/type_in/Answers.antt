use Rattle.std.proofs.Common.{ℕ, false, List, OnOk, inr, option_map, map, take, length, string_bytes, subst}
use Rattle.kernel_spec.specs.runs.Run.{Key}
use Rattle.xv_machine.specs.Events.{outcome_of}
use Rattle.xv_debug.specs.Effects.{SendsFirst}
use Rattle.xv_debug.proofs.Results.{if-ok, if-err}
use Rattle.std.proofs.lemmas.Result.{on_ok_weaker}
use Rattle.xv_debug.specs.AnswerText.{SendsTell}
use Rattle.xv_debug.proofs.debugger.Debugger.type_in.Goals as goal

pub returns-clause-done : goal.returns-clause-done
returns-clause-done c =
    let j = c.type_keys-journey in
    let keys = c.as_slice.result.now in
    let p : SendsFirst false (λ n. map Key (take n keys)) (length keys) c.args.session.now j.new.session =
    record {
      sent = j.result.sent;
      stop = j.result.stop;
      last = option_map outcome_of j.result.last;
      had = c.in_ok-output.output;
      has = j.new.output;
      sends = j.ensures.sent;
      within = j.ensures.within;
      whole = j.ensures.all;
      broken = λ is. absurd (j.ensures.unbroken is);
      fewer = λ is. absurd (j.ensures.unbroken is);
      refused = j.ensures.refused;
      reason = j.ensures.reason;
    } in
    if-ok c.tell_shown.result (subst (λ (ks : List ℕ). SendsFirst false (λ n. map Key (take n ks)) (length ks) c.args.session.now j.new.session) c.as_slice.ensures.value p)

pub returns-clause-failed : goal.returns-clause-failed
returns-clause-failed c =
    let j = c.type_keys-journey in
    let keys = c.as_slice.result.now in
    let p : SendsFirst false (λ n. map Key (take n keys)) (length keys) c.args.session.now j.new.session =
    record {
      sent = j.result.sent;
      stop = j.result.stop;
      last = option_map outcome_of j.result.last;
      had = c.in_ok-output.output;
      has = j.new.output;
      sends = j.ensures.sent;
      within = j.ensures.within;
      whole = j.ensures.all;
      broken = λ is. absurd (j.ensures.unbroken is);
      fewer = λ is. absurd (j.ensures.unbroken is);
      refused = j.ensures.refused;
      reason = j.ensures.reason;
    } in
    if-err c.tell_shown.result (inr (subst (λ (ks : List ℕ). SendsFirst false (λ n. map Key (take n ks)) (length ks) c.args.session.now j.new.session) c.as_slice.ensures.value p))

pub returns-clause-told : goal.returns-clause-told
returns-clause-told c =
    let j = c.type_keys-journey in
    let keys = c.as_slice.result.now in
    let old = c.args.session.now in
    let new = j.new.session in
    let p : SendsFirst false (λ n. map Key (take n keys)) (length keys) old new =
    record {
      sent = j.result.sent;
      stop = j.result.stop;
      last = option_map outcome_of j.result.last;
      had = c.in_ok-output.output;
      has = j.new.output;
      sends = j.ensures.sent;
      within = j.ensures.within;
      whole = j.ensures.all;
      broken = λ is. absurd (j.ensures.unbroken is);
      fewer = λ is. absurd (j.ensures.unbroken is);
      refused = j.ensures.refused;
      reason = j.ensures.reason;
    } in
    let before = string_bytes c.args.answer.now in
    let after = string_bytes c.tell_shown.new.answer in
    subst (λ (ks : List ℕ). OnOk c.tell_shown.result (SendsTell false c.args.word.now (λ n. map Key (take n ks)) (length ks) old new before after)) c.as_slice.ensures.value
    (on_ok_weaker c.tell_shown.result (λ wrote. (p, (c.in_ok-output.ensures.kept, c.in_ok-output.ensures.none), wrote)) c.tell_shown.ensures)

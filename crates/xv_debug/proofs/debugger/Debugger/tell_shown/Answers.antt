use Rattle.std.proofs.Common.{◌++◌, ◌∙◌, None, option_map, append_assoc, string_bytes}
use Rattle.xv_machine.specs.Events.{outcome_of}
use Rattle.debug_views.proofs.Shown.{shows-behind}
use Rattle.debug_views.proofs.Texts.{two_behind}
use Rattle.xv_debug.specs.AnswerText.{IsSentText}
use Rattle.xv_debug.specs.OutputText.{output_text}
use Rattle.xv_debug.specs.StopText.{told_journey}
use Rattle.xv_debug.specs.WhereText.{IsWhereOf}
use Rattle.xv_debug.proofs.debugger.Debugger.tell_shown.Goals as goal

pub returns : goal.returns
returns c =
    let s = c.args.session.now in
    let j = c.args.journey.now in
    let sent = told_journey c.args.word.now j in
    let why = c.in_ok-show_reason.ensures in
    let shown = output_text c.args.output.now in
    let old = string_bytes c.args.answer.now in
    let mid = string_bytes c.show_sent.new.answer in
    let next = string_bytes c.show_reason.new.answer in
    let last = string_bytes c.show_output.new.answer in
    let front = sent ++ why.0 in
    shows-behind c.show_focus.result (IsWhereOf s None) (IsSentText c.args.word.now s j.sent j.stop (option_map outcome_of j.last) shown) old last _
    (front ++ shown)
    (two_behind old next last front shown (two_behind old mid next sent why.0 c.in_ok-show_sent.ensures why.2) c.in_ok-show_output.ensures)
    (λ rest is. (why.0, why.1, (rest, is, append_assoc front shown rest ∙ append_assoc sent why.0 (shown ++ rest)))) c.show_focus.ensures

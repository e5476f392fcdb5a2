use Rattle.std.proofs.Common.{◌∙◌, ◌++◌, true, ap, string_bytes}
use Rattle.std.proofs.lemmas.Result.{on_ok_weaker}
use Rattle.debug_views.proofs.Texts.{shown_behind}
use Rattle.xv_debug.specs.OutputText.{behind_bars, output_head}
use Rattle.xv_debug.proofs.ToldOutput.{some-output}
use Rattle.xv_debug.proofs.shown_output.show_output.Goals as goal

pub returns : goal.returns
returns c =
    let o = c.args.output.now in
    let old = string_bytes c.args.answer.now in
    on_ok_weaker c.show_bytes.result (λ wrote. wrote ∙ ap (λ t. old ++ t) (some-output o c.if-count-eq0.false))
    (shown_behind c.show_bytes.result old (string_bytes c.writeln.new.self) (string_bytes c.show_bytes.new.answer) (output_head o.count) (behind_bars true o.last.items) c.in_ok-writeln.ensures.bytes c.show_bytes.ensures)

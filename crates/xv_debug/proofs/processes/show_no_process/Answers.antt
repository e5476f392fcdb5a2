use Rattle.std.proofs.Common.{◌∙◌, ◌++◌, string_bytes}
use Rattle.std.proofs.lemmas.Result.{on_ok_weaker}
use Rattle.xv_debug.specs.WhereText.{no_process}
use Rattle.xv_debug.proofs.processes.show_no_process.Goals as goal

pub returns : goal.returns
returns c =
    on_ok_weaker c.writeln.result (λ written. written ∙ (λ i. string_bytes c.args.answer.now ++ no_process (c.number-number.ensures.value i))) c.writeln.ensures.bytes

use Rattle.std.proofs.Common.{◌∙◌, ◌++◌, ℕ, Option, Some, ap, string_bytes, sym}
use Rattle.std.proofs.lemmas.Result.{on_ok_weaker}
use Rattle.xv_debug.specs.ProcessText.{more_text}
use Rattle.xv_debug.proofs.processes.show_more.Goals as goal

pub returns : goal.returns
returns c =
    let old = string_bytes c.args.answer.now in
    on_ok_weaker c.writeln.result (λ written. written ∙ (λ i. old ++ more_text (Some (c.number-number.ensures.value i))) ∙ ap (λ (o : Option ℕ). old ++ more_text o) (sym c.in-Some.is)) c.writeln.ensures.bytes

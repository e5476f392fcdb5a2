use Rattle.std.proofs.Common.{◌∙◌, ◌++◌, ap, string_bytes}
use Rattle.std.proofs.lemmas.Result.{on_ok_weaker}
use Rattle.xv_debug.proofs.ToldPipes.{oldest-told}
use Rattle.xv_debug.proofs.pipes.show_oldest.Goals as goal

pub returns : goal.returns
returns c =
    let old = string_bytes c.args.answer.now in
    on_ok_weaker c.writeln.result (λ written. written ∙ ap (λ t. old ++ t) (oldest-told c.args.bytes.now c.is_empty.result c.is_empty.ensures c.if-is_empty.false)) c.writeln.ensures.bytes

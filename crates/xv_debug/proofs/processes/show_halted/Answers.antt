use Rattle.std.proofs.Common.{◌∙◌, ◌++◌, ℤ, ap, string_bytes}
use Rattle.std.proofs.lemmas.Int.{to_z-of_z}
use Rattle.std.proofs.lemmas.Result.{on_ok_weaker}
use Rattle.std.specs.Int.{w32}
use Rattle.xv_debug.specs.WhereText.{halted_text}
use Rattle.xv_debug.proofs.processes.show_halted.Goals as goal

pub returns : goal.returns
returns c =
    on_ok_weaker c.writeln.result (λ written. written ∙ ap (λ (n : ℤ). string_bytes c.args.answer.now ++ halted_text n) (to_z-of_z w32 c.args.status c.ranges.status)) c.writeln.ensures.bytes

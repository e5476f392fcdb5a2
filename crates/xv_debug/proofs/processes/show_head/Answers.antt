use Rattle.std.proofs.Common.{◌∙◌, [], ◌∷◌, ◌++◌, codes, decimal, string_bytes}
use Rattle.std.proofs.lemmas.Result.{on_ok_weaker}
use Rattle.std.specs.List.{concat}
use Rattle.debug_words.specs.Texts.{named}
use Rattle.xv_debug.specs.ProcessText.{doing_text}
use Rattle.xv_debug.specs.WhereText.{process_head}
use Rattle.xv_debug.proofs.processes.show_head.Goals as goal

pub returns : goal.returns
unfolding process_head
returns c = on_ok_weaker c.writeln.result (λ written. written ∙ (λ i. string_bytes c.args.answer.now ++ concat (
    codes "process " ∷ decimal (c.number-number.ensures.value i) ∷ named (c.program_name.ensures i) ∷ codes " " ∷ doing_text (c.machine-machine.ensures.machine i).world c.args.pid
    ∷ codes "\n" ∷ []))) c.writeln.ensures.bytes

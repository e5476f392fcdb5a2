use Rattle.std.proofs.Common.{string_bytes, OnOk, subst}
use Rattle.xv_machine.specs.Meaning.{Meaning}
use Rattle.debug_views.specs.Written.{Writes}
use Rattle.xv_debug.specs.PipeText.{IsPipesText}
use Rattle.xv_debug.proofs.ToldPipes.{pipes-told}
use Rattle.xv_debug.proofs.pipes.show_pipes.Goals as goal

pub returns : goal.returns
returns c =
    let old = string_bytes c.args.answer.now in
    let new = string_bytes c.show_count.new.answer in
    subst (λ (m : Meaning). OnOk c.show_count.result (Writes old new (IsPipesText m.world))) c.machine.ensures.machine
    (pipes-told c.show_count.result c.machine.result.now.world c.in_ok-count.count old (string_bytes c.show_first.new.answer) new c.in_ok-count.ensures c.show_count.ensures)

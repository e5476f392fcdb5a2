use Rattle.std.proofs.Common.{◌≡◌, ◌∙◌, Option, OnOk, ap, refl, string_bytes, subst, sym}
use Rattle.kcall_core.specs.Observers.{process_at}
use Rattle.kcall_core.specs.declared.kernel.observers.ProcessState.{ProcessState}
use Rattle.xv_machine.specs.Meaning.{Meaning}
use Rattle.debug_views.specs.Written.{Writes}
use Rattle.debug_views.proofs.Shown.{shows-text}
use Rattle.xv_debug.specs.WhereText.{IsProcessText, no_process}
use Rattle.xv_debug.proofs.processes.show_process.Goals as goal

pub returns-in-Some : goal.returns-in-Some
returns-in-Some c =
    let s = c.args.session.now in
    let p = c.args.pid in
    subst (λ (o : Option ProcessState). OnOk c.show_there.result (Writes (string_bytes c.args.answer.now) (string_bytes c.show_there.new.answer) (IsProcessText s p o)))
    (sym c.in-Some.is ∙ c.process.ensures ∙ ap (λ (m : Meaning). process_at m.world p) c.machine.ensures.machine) c.show_there.ensures

pub returns-in-None : goal.returns-in-None
returns-in-None c =
    let s = c.args.session.now in
    let p = c.args.pid in
    let old = string_bytes c.args.answer.now in
    let new = string_bytes c.show_no_process.new.answer in
    subst (λ (o : Option ProcessState). OnOk c.show_no_process.result (Writes old new (IsProcessText s p o)))
    (sym c.in-None.is ∙ c.process.ensures ∙ ap (λ (m : Meaning). process_at m.world p) c.machine.ensures.machine)
    (shows-text c.show_no_process.result (λ t. t ≡ no_process p) old new (no_process p) refl c.show_no_process.ensures)

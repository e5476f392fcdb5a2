use Rattle.std.proofs.Common.{◌≡◌, ◌∙◌, ◌/◌, [], ◌∷◌, ◌++◌, ap, codes, string_bytes}
use Rattle.std.proofs.lemmas.Result.{on_ok_weaker}
use Rattle.std.specs.Fmt.{styled_decimal, styled_text}
use Rattle.std.specs.List.{concat}
use Rattle.kernel_spec.specs.views.Words.{or_zero}
use Rattle.kcall_core.specs.Observers.{process_at, size_of}
use Rattle.xv_machine.specs.Meaning.{Meaning}
use Rattle.debug_words.specs.Texts.{grouped, name_shown}
use Rattle.xv_debug.specs.ProcessText.{doing_text, line_text, marked_text, parent_in}
use Rattle.xv_debug.proofs.processes.show_line.Goals as goal

pub returns : goal.returns
unfolding line_text
returns c =
    let p = c.args.pid in
    let s = c.args.session.now in
    let parent : c.parent_number-parent.result ≡ parent_in (process_at s.machine.world p) =
    c.parent_number-parent.ensures ∙ ap (λ (m : Meaning). parent_in (process_at m.world p)) c.machine-machine.ensures.machine in
    let size : c.size_of.result ≡ or_zero (size_of s.machine.world.state p) = c.size_of.ensures ∙ ap (λ (m : Meaning). or_zero (size_of m.world.state p)) c.machine-machine.ensures.machine in
    let marked : c.marked_text-marked.result.now ≡ marked_text (process_at s.machine.world p) =
    c.marked_text-marked.ensures ∙ ap (λ (m : Meaning). marked_text (process_at m.world p)) c.machine-machine.ensures.machine in
    on_ok_weaker c.writeln.result (λ written. written ∙ (λ i. string_bytes c.args.answer.now ++ concat (
    styled_decimal (c.laid_out.ensures i) (c.number-number.ensures.value i) ∷ codes " " ∷ styled_decimal (c.laid_out-2.ensures i) (parent i)
    ∷ codes " " ∷ styled_text (c.laid_out-3.ensures i) (grouped (size i / 1024)) ∷ codes "  " ∷ styled_text (c.laid_out-4.ensures i) (name_shown (c.name_or_stroke.ensures i))
    ∷ codes " " ∷ doing_text (c.machine-machine.ensures.machine i).world p ∷ marked i ∷ codes "\n" ∷ []))) c.writeln.ensures.bytes

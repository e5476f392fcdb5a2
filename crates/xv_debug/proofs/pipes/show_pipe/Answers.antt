use Rattle.std.proofs.Common.{◌≡◌, ◌∙◌, ◌++◌, take, string_bytes, OnOk, refl}
use Rattle.std.proofs.lemmas.Result.{on_ok_weaker}
use Rattle.debug_views.proofs.Shown.{shows-text}
use Rattle.debug_views.proofs.Texts.{two_behind, shown_behind}
use Rattle.xv_debug.specs.Pipes.{pipe_bytes}
use Rattle.xv_debug.specs.PipeText.{IsPipeText, oldest_text, pipe_text, read_end_text, write_end_text}
use Rattle.xv_debug.specs.declared.pipes.TheConstants.{SHOWN_MOST}
use Rattle.xv_debug.proofs.pipes.show_pipe.Goals as goal

pub returns : goal.returns
returns c =
    let w = c.args.machine.now.world in
    let f = c.args.pipe in
    let counts = c.args.counts.now in
    let readers = c.holders-readers.result.items in
    let writers = c.holders-writers.result.items in
    let bytes = take SHOWN_MOST (pipe_bytes w.state f) in
    let old = string_bytes c.args.answer.now in
    let mid = string_bytes c.show_read_end.new.answer in
    let next = string_bytes c.show_write_end.new.answer in
    let new = string_bytes c.show_oldest.new.answer in
    let first : mid ≡ old ++ read_end_text f counts readers = c.in_ok-show_read_end.ensures ∙ (λ i. old ++ read_end_text f counts (c.as_slice.ensures.value i)) in
    let second : next ≡ mid ++ write_end_text counts writers = c.in_ok-show_write_end.ensures ∙ (λ i. mid ++ write_end_text counts (c.as_slice-2.ensures.value i)) in
    let third : OnOk c.show_oldest.result (new ≡ next ++ oldest_text bytes) =
    on_ok_weaker c.show_oldest.result (λ wrote. wrote ∙ (λ i. next ++ oldest_text ((c.as_slice-3.ensures.value ∙ c.oldest-bytes.ensures) i))) c.show_oldest.ensures in
    shows-text c.show_oldest.result (IsPipeText w f counts) old new (pipe_text f counts readers writers bytes) (readers, writers, c.holders-readers.ensures, c.holders-writers.ensures, refl)
    (shown_behind c.show_oldest.result old next new (read_end_text f counts readers ++ write_end_text counts writers) (oldest_text bytes)
    (two_behind old mid next (read_end_text f counts readers) (write_end_text counts writers) first second) third)

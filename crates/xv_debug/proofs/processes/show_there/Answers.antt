use Rattle.std.proofs.Common.{◌++◌, refl, string_bytes}
use Rattle.debug_views.proofs.Shown.{shows-text}
use Rattle.debug_views.proofs.Texts.{pushed, shown_behind}
use Rattle.xv_debug.specs.WhereText.{IsThereText, process_head}
use Rattle.xv_debug.proofs.processes.show_there.Goals as goal

pub returns : goal.returns
returns c =
    let s = c.args.session.now in
    let p = c.args.pid in
    let old = string_bytes c.args.answer.now in
    let mid = string_bytes c.show_head.new.answer in
    let new = string_bytes c.push_str.new.self in
    let instructions = c.args.told.now in
    shows-text c.push_str.result (IsThereText s p) old new (process_head s p ++ instructions) (instructions, refl)
    (shown_behind c.push_str.result old mid new (process_head s p) instructions c.in_ok-show_head.ensures
    (pushed c.push_str.result new (mid ++ instructions) mid c.push_str.ensures.bytes))

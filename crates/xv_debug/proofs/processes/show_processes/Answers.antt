use Rattle.std.proofs.Common.{refl}
use Rattle.debug_views.proofs.Shown.{shows-behind}
use Rattle.xv_debug.specs.ProcessText.{AreLines, IsProcessesText, lines_head}
use Rattle.xv_debug.proofs.processes.show_processes.Goals as goal

pub returns : goal.returns
returns c =
    let s = c.args.session.now in
    shows-behind c.show_from.result (AreLines s 20 c.args.from) (IsProcessesText s c.args.from) _ _ _ lines_head c.in_ok-push_str.ensures.bytes (λ rest are. (rest, are, refl)) c.show_from.ensures

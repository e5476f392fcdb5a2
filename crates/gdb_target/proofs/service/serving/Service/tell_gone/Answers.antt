use Rattle.std.proofs.Common.{◌∙◌, List, ℕ, subst}
use Rattle.std.proofs.lemmas.Result.{on_ok_weaker}
use Rattle.gdb_target.specs.Sent.{Sends}
use Rattle.gdb_target.proofs.Telling.{gone}
use Rattle.gdb_target.proofs.service.serving.Service.tell_gone.Goals as goal

pub returns-clause-gone : goal.returns-clause-gone
returns-clause-gone g c =
    let stopped = c.stop_here-stopped.result in
    let before = g.W.Write.contents c.args.output.now in
    let after = g.W.Write.contents c.send.new.output in
    let old = c.args.self.now.target in
    let over = c.in_ok-address in
    on_ok_weaker c.send.result
    (λ sent. gone c.args.let_run old c.stop_at.new.self over.address stopped.reason stopped.pid before after over.ensures c.stop_here-stopped.ensures c.stop_at.ensures
    (subst (λ (bytes : List ℕ). Sends before after bytes) (c.as_slice.ensures.value ∙ c.in_ok-payload.ensures) sent)) c.send.ensures.sent

use Rattle.std.proofs.Common.{◌∙◌, ◌∷◌, List, ℕ, ap}
use Rattle.hex.specs.Hex.{encode_lower}
use Rattle.std.proofs.lemmas.Result.{on_ok_weaker}
use Rattle.gdb_target.proofs.Serving.{sent_later}
use Rattle.gdb_target.proofs.Telling.{over}
use Rattle.gdb_target.proofs.service.serving.Service.tell_over.Goals as goal

pub returns-clause-over : goal.returns-clause-over
returns-clause-over g c =
    let stopped = c.stop_of_run-stopped.result in
    on_ok_weaker c.tell_stop.result
    (λ sent. over c.args.let_run c.args.self.now.target c.stop_at.new.self c.tell_stop.new.self.target stopped.reason stopped.pid c.as_slice.result.now _ _ _
    (c.as_slice.ensures.value ∙ c.in_ok-payload.ensures ∙ ap (λ (bytes : List ℕ). 79 ∷ encode_lower bytes) (c.as_bytes.ensures.value ∙ c.in_ok-note.ensures))
    c.stop_of_run-stopped.ensures.reason c.stop_of_run-stopped.ensures.lets c.stop_at.ensures
    c.tell_stop.ensures.target c.in_ok-send.ensures.sent sent) c.tell_stop.ensures.sent

pub returns-clause-kept : goal.returns-clause-kept
returns-clause-kept g c =
    on_ok_weaker c.tell_stop.result
    (λ kept. sent_later (g.W.Write.contents c.args.output.now) (g.W.Write.contents c.send.new.output) (g.W.Write.contents c.tell_stop.new.output) _ _ c.in_ok-send.ensures.sent kept)
    c.tell_stop.ensures.kept

use Rattle.std.proofs.lemmas.Result.{on_ok_weaker}
use Rattle.gdb_target.proofs.Telling.{reversed}
use Rattle.gdb_target.proofs.service.serving.Service.reverse.Goals as goal

pub returns-clause-reversed : goal.returns-clause-reversed
returns-clause-reversed g c =
    let stopped = c.in_ok-stopped.stopped in
    on_ok_weaker c.tell_stop.result
    (λ sent. reversed c.args.back.now c.args.self.now.target c.go_back.new.self c.stop_at.new.self c.tell_stop.new.self.target stopped.reason stopped.pid _ _ c.in_ok-stopped.ensures.last
    c.in_ok-stopped.ensures.stands c.stop_at.ensures c.tell_stop.ensures.target sent) c.tell_stop.ensures.sent

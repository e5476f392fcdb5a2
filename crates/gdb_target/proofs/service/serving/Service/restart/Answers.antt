use Rattle.std.proofs.lemmas.Result.{on_ok_weaker}
use Rattle.gdb_target.proofs.Telling.{restarted}
use Rattle.gdb_target.proofs.service.serving.Service.restart.Goals as goal

pub returns-clause-restarts : goal.returns-clause-restarts
returns-clause-restarts g c =
    on_ok_weaker c.tell_stop.result
    (λ sent. restarted c.args.self.now.target c.reboot.new.self c.stop_at.new.self c.tell_stop.new.self.target _ _ _ c.in_ok-reboot.ensures.boot c.in_ok-reboot.ensures.same
    c.in_ok-reboot.ensures.choices c.new.ensures c.stop_at.ensures c.tell_stop.ensures.target sent) c.tell_stop.ensures.sent

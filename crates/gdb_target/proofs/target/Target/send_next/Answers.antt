use Rattle.std.proofs.lemmas.Result.{IfOk-weaker}
use Rattle.gdb_target.proofs.Ways.{goes-once}
use Rattle.gdb_target.proofs.target.Target.send_next.Goals as goal

pub returns-then-not-is_run-clause-goes : goal.returns-then-not-is_run-clause-goes
returns-then-not-is_run-clause-goes c =
    IfOk-weaker c.send_other.result _ _ (λ p goes. goes-once c.args.going.now.way c.args.self.now c.send_other.new.self p goes) c.send_other.ensures.goes

pub returns-clause-goes : goal.returns-clause-goes
returns-clause-goes c = IfOk-weaker c.send_runs.result _ _ (λ p goes. goes-once c.args.going.now.way c.args.self.now c.send_runs.new.self p goes) c.send_runs.ensures.goes

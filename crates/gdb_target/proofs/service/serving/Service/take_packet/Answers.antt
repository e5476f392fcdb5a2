use Rattle.std.proofs.Common.{subst}
use Rattle.std.proofs.lemmas.Result.{on_ok_weaker}
use Rattle.gdb_packets.specs.declared.command.Command.{Command}
use Rattle.gdb_target.specs.Serving.{IsKept, sends}
use Rattle.gdb_target.proofs.Serving.{kept_later}
use Rattle.gdb_target.proofs.service.serving.Service.take_packet.Goals as goal

pub returns-clause-kept : goal.returns-clause-kept
returns-clause-kept g c =
    let before = g.W.Write.contents c.args.output.now in
    let told = g.W.Write.contents c.acknowledge.new.output in
    let after = g.W.Write.contents c.perform.new.output in
    let old = c.args.self.now.link.last.items in
    let new = c.perform.new.self.link.last.items in
    on_ok_weaker c.perform.result
    (λ kept. subst (λ (k : Command). IsKept k old new before after) c.parse.ensures (kept_later (sends c.parse.result) old new before told after _ c.in_ok-acknowledge.ensures kept))
    c.perform.ensures.kept

use Rattle.std.proofs.Common.{◌∙◌, string_bytes}
use Rattle.std.proofs.Math.Logic.{∥∥₁_map}
use Rattle.xv_machine.specs.Events.{outcome_of}
use Rattle.explained_run.proofs.Ends.{handed-same}
use Rattle.explained_run.proofs.Joined.{send-made}
use Rattle.explained_run.proofs.watching.WatchedRoundPlayer.play_sends.Goals as goal

pub returns-clause-made : goal.returns-clause-made
returns-clause-made g c =
    send-made (outcome_of c.send-outcome.result) c.byte_of.result c.args.self.now.explained.running.machine c.send-outcome.new.self.running.machine c.send-outcome.ensures.event c.byte_of.ensures

pub invariant_of-self : goal.invariant_of-self
invariant_of-self g c = record {
  handed = ∥∥₁_map c.args.self.now.handed (λ h. (
    c.send-outcome.ensures.choice ∙ h.0,
    handed-same (g.L.Lines.handed c.args.self.now.lines) c.args.self.now.explained.complete c.send-outcome.new.self.complete
        (string_bytes c.args.self.now.explained.text) (string_bytes c.send-outcome.new.self.text) c.send-outcome.ensures.complete c.send-outcome.ensures.text h.1,
  ));
}

use Rattle.std.proofs.Common.{◌∙◌, string_bytes}
use Rattle.std.proofs.Math.Logic.{∥∥₁_map}
use Rattle.explained_run.proofs.Ends.{handed-same}
use Rattle.explained_run.proofs.watching.WatchedRoundPlayer.play_tick.Goals as goal

pub invariant_of-self : goal.invariant_of-self
invariant_of-self g c = record {
  handed = ∥∥₁_map c.args.self.now.handed (λ h. (
    c.send.ensures.choice ∙ h.0,
    handed-same (g.L.Lines.handed c.args.self.now.lines) c.args.self.now.explained.complete c.send.new.self.complete
        (string_bytes c.args.self.now.explained.text) (string_bytes c.send.new.self.text) c.send.ensures.complete c.send.ensures.text h.1,
  ));
}

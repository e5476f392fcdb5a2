use Rattle.std.proofs.Common.{◌≡◌, ◌∙◌, ap, drop, length, rules, string_bytes}
use Rattle.std.proofs.Math.Logic.{∥∥₁_map}
use Rattle.std.specs.Io.KnownBytes.{append_known}
use Rattle.explained_run.proofs.Ends.{handed-more}
use Rattle.explained_run.proofs.watching.WatchedRoundPlayer.play_runs.Goals as goal

pub invariant_of-self-5 : goal.invariant_of-self-5
invariant_of-self-5 g c =
    let x = c.args.self.now in
    let after = c.run-made.new.self in
    let rest : c.rest_from.result.now ≡ drop (length (string_bytes x.explained.text)) (string_bytes after.text) = search rules in
    let handed = ∥∥₁_map x.handed (λ h. (
      c.run-made.ensures.choice ∙ h.0,
      handed-more (g.L.Lines.handed x.lines) (g.L.Lines.handed c.hand_on.new.self) x.explained.complete after.complete
          (string_bytes x.explained.text) (string_bytes after.text) c.run-made.ensures.text (c.hand_on.ensures ∙ ap (append_known (g.L.Lines.handed x.lines)) rest) h.1,
    )) in
    ((after.live, (after.told, tt)), (handed, tt))

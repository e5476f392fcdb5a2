use Rattle.std.proofs.Common.{List, ℕ, ◌∙◌, ap, subst, sym}
use Rattle.gdb_target.specs.Chosen.{Chooses}
use Rattle.gdb_target.specs.Kept.{IsSentLast}
use Rattle.gdb_target.specs.Sent.{Sends}
use Rattle.gdb_target.specs.declared.target.Target.{Target}
use Rattle.gdb_target.proofs.service.serving.Service.answer.Goals as goal

pub returns-clause-answered : goal.returns-clause-answered
returns-clause-answered g c =
    let text = c.in_ok-payload.payload.items in
    record {
      text = text;
      told = c.in_ok-payload.ensures.told;
      chosen = subst (λ (t : Target). Chooses c.args.self.now.target c.args.command t text) (sym c.note_acks.ensures.target) c.in_ok-payload.ensures.chosen;
      run = ap (λ (t : Target). t.run) c.note_acks.ensures.target ∙ c.answer.ensures.run;
      sent = subst (λ (bs : List ℕ). Sends (g.W.Write.contents c.args.output.now) (g.W.Write.contents c.send.new.output) bs) c.as_slice.ensures.value c.in_ok-send.ensures.sent;
    }

pub returns-clause-kept : goal.returns-clause-kept
returns-clause-kept g c =
    subst (λ (bs : List ℕ). IsSentLast bs (g.W.Write.contents c.args.output.now) (g.W.Write.contents c.send.new.output)) (ap (λ v. v.items) (sym c.note_acks.ensures.last)) c.in_ok-send.ensures.last

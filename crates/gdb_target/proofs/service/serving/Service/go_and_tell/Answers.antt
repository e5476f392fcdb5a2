use Rattle.std.proofs.lemmas.Result.{on_ok_weaker}
use Rattle.gdb_target.proofs.Serving.{paused_later, sent_later}
use Rattle.gdb_target.proofs.service.serving.Service.go_and_tell.Goals as goal

pub returns-clause-goes : goal.returns-clause-goes
returns-clause-goes g c =
    on_ok_weaker c.tell.result (λ told. record {
      pause = c.in_ok-pause.pause;
      there = c.go_until.new.self.target;
      sent = g.W.Write.contents c.go_until.new.output;
      pauses = c.in_ok-pause.ensures.pauses;
      shown = c.show.new.self.target;
      shown_is = c.in_ok-show.ensures.told;
      told = g.W.Write.contents c.show.new.output;
      shows = c.in_ok-show.ensures.sent;
      tells = told;
    }) c.tell.ensures.told

pub returns-clause-kept : goal.returns-clause-kept
returns-clause-kept g c =
    let before = g.W.Write.contents c.args.output.now in
    let paused = g.W.Write.contents c.go_until.new.output in
    let shown = g.W.Write.contents c.show.new.output in
    let after = g.W.Write.contents c.tell.new.output in
    on_ok_weaker c.tell.result
    (λ kept. paused_later c.args.way.now c.args.self.now.target c.in_ok-pause.pause c.go_until.new.self.target before paused after _ c.in_ok-pause.ensures.pauses
    (sent_later paused shown after _ _ c.in_ok-show.ensures.sent kept)) c.tell.ensures.kept

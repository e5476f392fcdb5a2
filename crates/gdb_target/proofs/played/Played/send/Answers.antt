use Rattle.std.proofs.Common.{ap}
use Rattle.xv_session.specs.Recorded.{Recorded}
use Rattle.gdb_target.proofs.Coming.{comes_sent}
use Rattle.gdb_target.proofs.PlayedOn.{after_result, played_send, played_still}
use Rattle.gdb_target.proofs.played.Played.send.Goals as goal

pub invariant_of-self : goal.invariant_of-self
invariant_of-self c =
    let s = c.args.self.now in
    record {
      played =
          after_result c.send.result _ c.send.ensures.sent c.send.ensures.refused
          (λ o sent. played_send s.plan s.session.events c.send.new.self.events _ s.played c.next-next.ensures.event (ap (λ (r : Recorded). r.events) sent.1))
          (λ e same. played_still s.plan s.session.events c.send.new.self.events s.played (ap (λ (r : Recorded). r.events) same));
    }

pub returns-clause-comes : goal.returns-clause-comes
returns-clause-comes c = comes_sent _ _ _ _ c.in_ok-outcome.ensures.sent

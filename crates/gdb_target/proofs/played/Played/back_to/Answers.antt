use Rattle.std.proofs.Common.{ap}
use Rattle.xv_session.specs.Recorded.{Recorded}
use Rattle.gdb_target.proofs.PlayedOn.{after_result, played_back, played_still}
use Rattle.gdb_target.proofs.played.Played.back_to.Goals as goal

pub invariant_of-self : goal.invariant_of-self
invariant_of-self c =
    let s = c.args.self.now in
    record {
      played =
          after_result c.back_to.result _ c.back_to.ensures.back c.back_to.ensures.refused
          (λ o went. played_back s.plan s.session.events c.back_to.new.self.events c.args.place s.played (ap (λ (r : Recorded). r.events) went))
          (λ e same. played_still s.plan s.session.events c.back_to.new.self.events s.played (ap (λ (r : Recorded). r.events) same));
    }

use Rattle.std.proofs.Common.{◌≡◌, ◌∙◌, ◌<◌, true, ap, arith, option_map, sym}
use Rattle.kernel_spec.specs.runs.Run.{Run}
use Rattle.xv_machine.specs.Events.{event_of, outcome_of}
use Rattle.xv_machine.specs.Meaning.{Meaning}
use Rattle.gdb_target.specs.PlayedBy.{is_run}
use Rattle.gdb_target.proofs.Coming.{comes_last, more_events, somebody_ran}
use Rattle.gdb_target.proofs.Sending.{runs_count}
use Rattle.xv_session.specs.Recorded.{Recorded}
use Rattle.gdb_target.proofs.PlayedOn.{after_result, played_runs, played_still, run_of_true}
use Rattle.gdb_target.proofs.played.Played.run.Goals as goal

pub invariant_of-self : goal.invariant_of-self
invariant_of-self c =
    let s = c.args.self.now in
    let n = c.next-next in
    let test : is_run (event_of n.result.event) ≡ true = cc in
    let runs_next : event_of n.result.event ≡ Run = run_of_true (event_of n.result.event) test in
    record {
      played =
          after_result c.run.result _ c.run.ensures.sent c.run.ensures.refused
          (λ r sent.
          let count = runs_count _ _ _ _ _ sent.0 in
          let few = count.within in
          played_runs s.plan s.session.events c.run.new.self.events r.sent n.result.count s.played (omega (arith, c.min.ensures)) (λ k h. n.ensures.equal k h ∙ runs_next)
          (ap (λ (x : Recorded). x.events) sent.1))
          (λ e same. played_still s.plan s.session.events c.run.new.self.events s.played (ap (λ (x : Recorded). x.events) same));
    }

pub unreachable-requires : goal.unreachable-requires
unreachable-requires c =
    let some : 0 < c.min.result = omega (arith, c.min.ensures, c.if-most-eq0.false, c.next-next.ensures.some) in
    somebody_ran c.min.result c.in_ok-runs.runs.sent (option_map outcome_of c.in_ok-runs.runs.last) c.args.self.now.session c.run.new.self some c.in_ok-runs.ensures.sent c.in_default.ensures.none.0
    (ap (λ (m : Meaning). m.world.turns.current) (sym c.machine.ensures) ∙ (sym c.current-current.ensures.pid ∙ c.in_default.ensures.none.1))

pub returns-clause-comes : goal.returns-clause-comes
returns-clause-comes c =
    let some : 0 < c.min.result = omega (arith, c.min.ensures, c.if-most-eq0.false, c.next-next.ensures.some) in
    comes_last _ _ c.min.result c.in_ok-runs.runs.sent (option_map outcome_of c.in_ok-runs.runs.last) c.current-current.result (outcome_of c.in-Some.outcome) some c.in_ok-runs.ensures.sent
    (c.current-current.ensures.pid ∙ ap (λ (m : Meaning). m.world.turns.current) c.machine.ensures) c.in-Some.ensures.some

pub returns-clause-more : goal.returns-clause-more
returns-clause-more c =
    let some : 0 < c.min.result = omega (arith, c.min.ensures, c.if-most-eq0.false, c.next-next.ensures.some) in
    more_events c.min.result c.in_ok-runs.runs.sent (option_map outcome_of c.in_ok-runs.runs.last) c.args.self.now.session c.run.new.self some c.in_ok-runs.ensures.sent

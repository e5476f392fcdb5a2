use Rattle.std.proofs.Common.{◌≡◌, ◌∙◌, ◌+◌, ◌<◌, ◌≤◌, ℕ, Option, None, Some, ap, arith, length, length-append, option_map, replicate, subst, sym}
use Rattle.std.proofs.lemmas.List.{length-replicate}
use Rattle.kernel_spec.specs.runs.Run.{Outcome, Run}
use Rattle.xv_machine.specs.Events.{event_of, outcome_of}
use Rattle.xv_session.specs.Answers.{Stopped}
use Rattle.xv_session.specs.Recorded.{Recorded, running_of}
use Rattle.gdb_target.specs.Came.{came}
use Rattle.gdb_target.proofs.PlayedOn.{after_result, played_runs, played_still}
use Rattle.gdb_target.proofs.Rows.{something-came, went-some, went-within}
use Rattle.gdb_target.proofs.played.Played.run_to_stop.Goals as goal

pub invariant_of-self : goal.invariant_of-self
invariant_of-self c =
    let s = c.args.self.now in
    let n = c.next-next in
    let runs_next : event_of n.result.event ≡ Run = sym n.ensures.event ∙ c.requires.runs in
    record {
      played =
          after_result c.run_to_stop.result _ c.run_to_stop.ensures.stopped c.run_to_stop.ensures.refused
          (λ f sent.
          let few : f.sent ≤ c.min.result = went-within _ _ c.min.result f.met (option_map outcome_of f.last) (running_of s.session) (running_of c.run_to_stop.new.self) f.sent sent.0 in
          played_runs s.plan s.session.events c.run_to_stop.new.self.events f.sent n.result.count s.played
          (omega (arith, few, c.min.ensures)) (λ k h. n.ensures.equal k h ∙ runs_next)
          (ap (λ (x : Recorded). x.events) sent.1))
          (λ e same. played_still s.plan s.session.events c.run_to_stop.new.self.events s.played (ap (λ (x : Recorded). x.events) same));
    }

pub unreachable-requires : goal.unreachable-requires
unreachable-requires c =
    let f = c.in_ok-found.found in
    let some : 0 < c.min.result = omega (arith, c.min.ensures, c.requires.some, c.next-next.ensures.some) in
    let (o, is) = something-came c.args.addresses.now c.args.bytes.now c.min.result f.met (option_map outcome_of f.last) (running_of c.args.self.now.session) (running_of c.run_to_stop.new.self) f.sent
    c.in_ok-found.ensures.stopped.0 some in
    let bad : Some o ≡ None = sym is ∙ c.in_default.ensures.none.0 in
    let none : ⊥ = cc in
    none

pub returns-clause-row : goal.returns-clause-row
returns-clause-row c =
    let s = c.args.self.now in
    let n = c.next-next in
    let f = c.in_ok-found.found in
    let runs_next : event_of n.result.event ≡ Run = sym n.ensures.event ∙ c.requires.runs in
    let few : f.sent ≤ c.min.result =
    went-within c.args.addresses.now c.args.bytes.now c.min.result f.met (option_map outcome_of f.last) (running_of s.session)
    (running_of c.run_to_stop.new.self) f.sent c.in_ok-found.ensures.stopped.0 in
    let some : 0 < c.min.result = omega (arith, c.min.ensures, c.requires.some, c.next-next.ensures.some) in
    let (o, is) = something-came c.args.addresses.now c.args.bytes.now c.min.result f.met (option_map outcome_of f.last) (running_of s.session) (running_of c.run_to_stop.new.self) f.sent
    c.in_ok-found.ensures.stopped.0 some in
    let same : outcome_of c.in-Some.outcome ≡ o = c.in-Some.ensures.some ∙ ap (λ (t : Option Outcome). came t None) is in
    record {
      most = c.min.result;
      sent = f.sent;
      met = f.met;
      stopped = subst (λ (o : Option Outcome). Stopped c.args.addresses.now c.args.bytes.now c.min.result f.sent f.met o s.session c.run_to_stop.new.self)
          (is ∙ ap Some (sym same)) c.in_ok-found.ensures.stopped;
      runs = λ k h. n.ensures.equal k (omega (arith, h, few, c.min.ensures)) ∙ runs_next;
    }

pub returns-clause-more : goal.returns-clause-more
returns-clause-more c =
    let s = c.args.self.now.session in
    let f = c.in_ok-found.found in
    let some : 0 < c.min.result = omega (arith, c.min.ensures, c.requires.some, c.next-next.ensures.some) in
    let sent : 0 < f.sent =
    went-some c.args.addresses.now c.args.bytes.now c.min.result f.met (option_map outcome_of f.last) (running_of s) (running_of c.run_to_stop.new.self) f.sent c.in_ok-found.ensures.stopped.0 some in
    let far : length c.run_to_stop.new.self.events ≡ length s.events + f.sent =
    ap (λ (r : Recorded). length r.events) c.in_ok-found.ensures.stopped.1 ∙ length-append s.events (replicate f.sent Run) ∙ ap (λ (n : ℕ). length s.events + n) (length-replicate f.sent Run) in
    omega (arith, far, sent)

pub returns-clause-within : goal.returns-clause-within
returns-clause-within c =
    let s = c.args.self.now.session in
    let f = c.in_ok-found.found in
    let few : f.sent ≤ c.min.result =
    went-within c.args.addresses.now c.args.bytes.now c.min.result f.met (option_map outcome_of f.last) (running_of s) (running_of c.run_to_stop.new.self) f.sent c.in_ok-found.ensures.stopped.0 in
    let far : length c.run_to_stop.new.self.events ≡ length s.events + f.sent =
    ap (λ (r : Recorded). length r.events) c.in_ok-found.ensures.stopped.1 ∙ length-append s.events (replicate f.sent Run) ∙ ap (λ (n : ℕ). length s.events + n) (length-replicate f.sent Run) in
    omega (arith, far, few, c.min.ensures)

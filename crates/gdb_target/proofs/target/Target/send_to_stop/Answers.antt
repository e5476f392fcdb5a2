use Rattle.std.proofs.Common.{List, ℕ, subst}
use Rattle.xv_machine.specs.Events.{outcome_of}
use Rattle.gdb_target.specs.Rows.{RunsToStop}
use Rattle.gdb_target.proofs.target.Target.send_to_stop.Goals as goal

pub returns-clause-row : goal.returns-clause-row
returns-clause-row c =
    let t = c.args.self.now in
    let o = outcome_of c.in_ok-outcome.outcome in
    subst (λ (bytes : List ℕ). RunsToStop t.points.breakpoints.items bytes t.run o c.run_to_stop.new.self) c.requires.watched
    (subst (λ (addresses : List ℕ). RunsToStop addresses c.args.bytes.now t.run o c.run_to_stop.new.self) c.as_slice.ensures.value c.in_ok-outcome.ensures.row)

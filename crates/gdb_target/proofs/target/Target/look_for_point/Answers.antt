use Rattle.std.proofs.Common.{◌≡◌, ◌∙◌, ℕ, Option, ap, subst, sym, true}
use Rattle.std.specs.Prelude.{IfSome}
use Rattle.xv_machine.specs.Events.{outcome_of}
use Rattle.gdb_target.specs.Choices.{Choices}
use Rattle.gdb_target.specs.LastHit.{IsPointHit}
use Rattle.gdb_target.specs.LetRun.{lets}
use Rattle.gdb_target.specs.Standing.{stander}
use Rattle.gdb_target.specs.Touches.{told_of, touched}
use Rattle.gdb_target.specs.declared.points.Points.{Points}
use Rattle.gdb_target.specs.declared.touches.Ahead.{Ahead}
use Rattle.gdb_target.specs.declared.touches.Touch.{Touch}
use Rattle.gdb_target.proofs.Ways.{hit-of, told-lets}
use Rattle.gdb_target.proofs.target.Target.look_for_point.Goals as goal

pub point_hit-requires-clause-touch : goal.point_hit-requires-clause-touch
point_hit-requires-clause-touch c =
    subst (λ (x : Option Touch). IfSome x (λ (it : Touch). lets c.args.let_run it.pid ≡ true)) (sym c.told_of-touch.ensures)
    (told-lets c.args.let_run c.send_one.new.self.points c.ahead-ahead.result (outcome_of c.in_ok-outcome.outcome) c.ahead-ahead.ensures.touch c.ahead-ahead.ensures.caller)

pub returns-clause-hit : goal.returns-clause-hit
returns-clause-hit c = hit-of c.args.let_run c.point_hit.result c.args.place _ _ c.point_hit.ensures

pub returns-clause-looks : goal.returns-clause-looks
returns-clause-looks c =
    let here = c.args.self.now in
    let o = outcome_of c.in_ok-outcome.outcome in
    let r = c.args.let_run in
    let stood : c.at_breakpoint-stood.result ≡ stander here.run here.program here.points.breakpoints.items = c.at_breakpoint-stood.ensures.exact in
    let points : c.send_one.new.self.points ≡ here.points = ap (λ (x : Choices). x.points) c.in_ok-outcome.ensures.choices in
    let touch : c.told_of-touch.result ≡ touched r here o =
    c.told_of-touch.ensures ∙ ap (λ (x : Points). told_of x c.ahead-ahead.result o) points ∙ ap (λ (x : Ahead). told_of here.points x o) c.ahead-ahead.ensures.is in
    record {
      outcome = o;
      told = subst (λ (x : Option Touch). IsPointHit r c.args.place (stander here.run here.program here.points.breakpoints.items) x c.point_hit.result) touch
          (subst (λ (x : Option ℕ). IsPointHit r c.args.place x c.told_of-touch.result c.point_hit.result) stood c.point_hit.ensures);
      forth = c.in_ok-outcome.ensures.forth;
    }

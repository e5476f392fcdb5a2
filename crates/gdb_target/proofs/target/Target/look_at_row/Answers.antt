use Rattle.std.proofs.Common.{◌≡◌, ◌+◌, ℕ, None, arith, length, subst, sym}
use Rattle.xv_machine.specs.Events.{outcome_of}
use Rattle.gdb_target.specs.LastHit.{IsPointHit, Looked, let_run_of}
use Rattle.gdb_target.specs.declared.let_run.LetRun.{LetRun}
use Rattle.gdb_target.specs.declared.reverse.Back.{Back}
use Rattle.gdb_target.proofs.Rows.{looks-free, row-of}
use Rattle.gdb_target.proofs.Ways.{hit-within, row-looked}
use Rattle.gdb_target.proofs.target.Target.look_at_row.Goals as goal

pub send_to_stop-requires-clause-runs : goal.send_to_stop-requires-clause-runs
send_to_stop-requires-clause-runs c = (looks-free c.args.back.now c.args.bytes.now c.args.self.now c.requires.looks).2

pub returns-clause-hit : goal.returns-clause-hit
returns-clause-hit c =
    hit-within c.args.back.now (let_run_of c.args.back.now) c.point_hit.result c.saturating_sub-place.result c.args.end None None
    (looks-free c.args.back.now c.args.bytes.now c.args.self.now c.requires.looks).0
    (subst (λ (r : LetRun). IsPointHit r c.saturating_sub-place.result None None c.point_hit.result) c.let_run.ensures c.point_hit.ensures)
    (omega (arith, c.in_ok-row.ensures.more, c.at.ensures, c.saturating_sub-place.ensures, c.send_to_stop.ensures.within))

pub returns-clause-looked : goal.returns-clause-looked
returns-clause-looked c =
    let t = c.args.self.now in
    let mid = c.send_to_stop.new.self in
    let looks = looks-free c.args.back.now c.args.bytes.now t c.requires.looks in
    let o = outcome_of c.in_ok-row.row.outcome in
    let r = let_run_of c.args.back.now in
    let row = row-of r t mid c.args.bytes.now o c.requires.watched looks.1 c.in_ok-row.ensures.row in
    let count : length mid.run.session.events ≡ c.saturating_sub-place.result + 1 = omega (arith, row.single, c.at.ensures, c.saturating_sub-place.ensures) in
    let told = subst (λ (x : LetRun). IsPointHit x c.saturating_sub-place.result None None c.point_hit.result) c.let_run.ensures c.point_hit.ensures in
    subst (λ (b : Back). (n : ℕ) × Looked b n t mid c.point_hit.result) (sym looks.0) (row-looked r r t mid o c.point_hit.result c.saturating_sub-place.result row count told)

use Rattle.std.proofs.Common.{◌≡◌, ℕ, None, Option, Some, subst, sym, true}
use Rattle.std.specs.Prelude.{IfOk, IfSome, IsSome}
use Rattle.std.proofs.lemmas.Result.{IfOk-weaker}
use Rattle.xv_machine.specs.Events.{outcome_of}
use Rattle.gdb_target.specs.Before.{told_before}
use Rattle.gdb_target.specs.Forth.{GoesBy, IsJudged, halted_of}
use Rattle.gdb_target.specs.LetRun.{lets}
use Rattle.gdb_target.specs.Told.{state_of}
use Rattle.gdb_target.specs.Touches.{IsByChange}
use Rattle.kernel_spec.specs.views.State as state
use Rattle.gdb_target.specs.declared.target.Pause.TheVariants.{Stopped}
use Rattle.gdb_target.specs.declared.target.Until.{Until}
use Rattle.gdb_target.specs.declared.touches.Touch.{Touch}
use Rattle.gdb_target.proofs.Rows.{row-of, starts-free}
use Rattle.gdb_target.proofs.Ways.{row-changed, row-goes}
use Rattle.gdb_target.proofs.target.Target.send_row.Goals as goal

pub returns-in-Some-clause-goes : goal.returns-in-Some-clause-goes
returns-in-Some-clause-goes c =
    let t = c.args.self.now in
    let mid = c.send_to_stop.new.self in
    let way = c.args.going.now.way in
    let r = way.let_run in
    let starts = starts-free way.until c.args.bytes.now t c.requires.starts in
    let o = outcome_of c.in_ok-row.row.outcome in
    let row = row-of r t mid c.args.bytes.now o c.requires.watched starts.1 c.in_ok-row.ensures.row in
    let told : c.in_ok-row.row.change ≡ Some c.in-Some.change =
    subst (λ (change : Option Touch). IfSome change (λ (it : Touch). c.in_ok-row.row.change ≡ Some it)) c.in-Some.is c.if_told.ensures.same in
    let live : halted_of mid ≡ None = subst (λ (change : Option Touch). IfSome change (λ (_ : Touch). halted_of mid ≡ None)) told c.in_ok-row.ensures.goes_on in
    let lives = subst (λ (change : Option Touch). IfSome change (λ (it : Touch). IsSome (state.live (state_of mid) it.pid))) told c.in_ok-row.ensures.lives in
    let may = subst (λ (change : Option Touch). IfSome change (λ (it : Touch). IsByChange it.how)) told c.in_ok-row.ensures.may in
    let lets_it = subst (λ (change : Option Touch). IfSome change (λ (it : Touch). lets r it.pid ≡ true)) c.in-Some.is c.if_told.ensures.lets in
    let of = c.stopped.ensures.pid in
    subst (λ (u : Until). GoesBy (record { until = u; let_run = r }) t (Some (Stopped c.stopped.result)) mid) (sym starts.0)
    (row-changed r t mid o c.stopped.result c.in-Some.change.how row c.stopped.ensures.reason may (live, subst (λ (p : ℕ). IsSome (state.live (state_of mid) p)) (sym of) lives)
    (subst (λ (p : ℕ). lets r p ≡ true) (sym of) lets_it))

pub returns-clause-goes : goal.returns-clause-goes
returns-clause-goes c =
    let t = c.args.self.now in
    let mid = c.send_to_stop.new.self in
    let way = c.args.going.now.way in
    let r = way.let_run in
    let starts = starts-free way.until c.args.bytes.now t c.requires.starts in
    let o = outcome_of c.in_ok-row.row.outcome in
    let row = row-of r t mid c.args.bytes.now o c.requires.watched starts.1 c.in_ok-row.ensures.row in
    subst (λ (u : Until). IfOk c.judged.result (λ p. GoesBy (record { until = u; let_run = r }) t p c.judged.new.self)) (sym starts.0)
    (IfOk-weaker c.judged.result _ _ (λ p judged.
    row-goes r t mid c.judged.new.self o p row
    (subst (λ (u : Until). IsJudged (record { until = u; let_run = r }) (told_before r o) o mid p c.judged.new.self) starts.0 judged)) c.judged.ensures.judged)

use Rattle.std.proofs.Common.{◌≡◌, ◌<◌, ◌∙◌, Option, None, Some, ap, length, subst, sym, true}
use Rattle.std.specs.Prelude.{IfSome, IsSome}
use Rattle.std.proofs.lemmas.Result.{IfOk-weaker}
use Rattle.kernel_spec.specs.views.State as state
use Rattle.xv_machine.specs.Events.{outcome_of}
use Rattle.xv_machine.specs.declared.event.Outcome.{Outcome}
use Rattle.gdb_target.specs.Came.{Comes}
use Rattle.gdb_target.specs.Forth.{halted_of}
use Rattle.gdb_target.specs.LetRun.{lets}
use Rattle.gdb_target.specs.Told.{state_of}
use Rattle.gdb_target.specs.Touches.{IsByChange, IsByInstruction, told_of, touched}
use Rattle.gdb_target.specs.declared.target.Target.{Target}
use Rattle.gdb_target.specs.declared.touches.Ahead.{Ahead}
use Rattle.gdb_target.specs.declared.touches.Touch.{Touch}
use Rattle.gdb_target.proofs.Ways.{changed-goes, one-or, told-lets, told-may, used-goes}
use Rattle.gdb_target.proofs.target.Target.send_runs.Goals as goal

pub returns-in-Some-if_told-clause-goes : goal.returns-in-Some-if_told-clause-goes
returns-in-Some-if_told-clause-goes c =
    let t = c.args.self.now in
    let to = c.run.new.self in
    let new : Target = record t { run = to } in
    let r = c.args.going.now.way.let_run in
    let o = outcome_of c.in-Some.outcome in
    let came : Comes t.run to o = subst (λ (x : Option Outcome). IfSome x (λ (y : Outcome). Comes t.run to (outcome_of y))) c.in-Some.is c.in_ok-outcome.ensures.comes in
    let more : length t.run.session.events < length to.session.events =
    subst (λ (x : Option Outcome). IfSome x (λ (y : Outcome). length t.run.session.events < length to.session.events)) c.in-Some.is c.in_ok-outcome.ensures.more in
    let single = one-or c.args.most (length t.run.session.events) (length to.session.events) c.requires.single more c.run.ensures.within in
    let change = c.in-Some-if_told.change in
    let told : c.changed-change.result ≡ Some change =
    subst (λ (x : Option Touch). IfSome x (λ (it : Touch). c.changed-change.result ≡ Some it)) c.in-Some-if_told.is c.if_told.ensures.same in
    let live = subst (λ (x : Option Touch). IfSome x (λ (_ : Touch). halted_of new ≡ None)) told c.changed-change.ensures.goes_on in
    let lives = subst (λ (x : Option Touch). IfSome x (λ (it : Touch). IsSome (state.live (state_of new) it.pid))) told c.changed-change.ensures.lives in
    let may = subst (λ (x : Option Touch). IfSome x (λ (it : Touch). IsByChange it.how)) told c.changed-change.ensures.may in
    let lets_it = subst (λ (x : Option Touch). IfSome x (λ (it : Touch). lets r it.pid ≡ true)) c.in-Some-if_told.is c.if_told.ensures.lets in
    let of = c.stopped.ensures.pid in
    changed-goes c.args.going.now.way t new o c.stopped.result change.how (record { came = came; single = single }) c.stopped.ensures.reason may
    (live, subst (λ p. IsSome (state.live (state_of new) p)) (sym of) lives) (subst (λ p. lets r p ≡ true) (sym of) lets_it)

pub returns-clause-goes : goal.returns-clause-goes
returns-clause-goes c =
    let t = c.args.self.now in
    let to = c.run.new.self in
    let r = c.args.going.now.way.let_run in
    let o = outcome_of c.in-Some.outcome in
    let came : Comes t.run to o = subst (λ (x : Option Outcome). IfSome x (λ (y : Outcome). Comes t.run to (outcome_of y))) c.in-Some.is c.in_ok-outcome.ensures.comes in
    let more : length t.run.session.events < length to.session.events =
    subst (λ (x : Option Outcome). IfSome x (λ (y : Outcome). length t.run.session.events < length to.session.events)) c.in-Some.is c.in_ok-outcome.ensures.more in
    let single = one-or c.args.most (length t.run.session.events) (length to.session.events) c.requires.single more c.run.ensures.within in
    let next = c.ahead-ahead in
    let used = c.told_of-used in
    let is : touched r t o ≡ used.result = sym (used.ensures ∙ ap (λ (x : Ahead). told_of t.points x o) next.ensures.is) in
    let may = subst (λ (x : Option Touch). IfSome x (λ (it : Touch). IsByInstruction it.how)) (sym used.ensures) (told-may t.points next.result o next.ensures.may) in
    let lets_it = subst (λ (x : Option Touch). IfSome x (λ (it : Touch). lets r it.pid ≡ true)) (sym used.ensures)
    (told-lets r t.points next.result o next.ensures.touch next.ensures.caller) in
    IfOk-weaker c.used_or_judged.result _ _
    (λ p judged. used-goes c.args.going.now.way t _ _ o p used.result (record { came = came; single = single }) is may lets_it judged) c.used_or_judged.ensures.judged

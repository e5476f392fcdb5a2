use Rattle.kcall_core.proofs.Prelude.{◌∙◌, ap, IsSome, refl, rules, Some, subst, sym, to_z-of_z, w32}
use Rattle.kcall_core.proofs.table.Observed.{slot-found, pid-missing}
use Rattle.kcall_core.proofs.table.Told.{zombie-told, alive-told, process-missing}
use Rattle.kcall_core.specs.declared.kernel.observers.ProcessState.TheVariants as state
use Rattle.kcall_core.proofs.kernel.Kernel.process.Goals as goal

pub returns-in_err-slot : goal.returns-in_err-slot
returns-in_err-slot c =
    rw c.from_residual.ensures
    (λ hart halted. sym
    (process-missing c.args.self.now hart halted c.args.pid
    (pid-missing c.args.self.now hart c.requires.1.table c.args.pid (sym c.in_err-slot.ensures.value))))

pub parent-parent-requires-clause-held : goal.parent-parent-requires-clause-held
parent-parent-requires-clause-held c = subst (λ o. IsSome o) (sym (slot-found c.args.self.now.table c.args.pid c.in_ok-slot.slot (sym c.in_ok-slot.ensures.value)).1) refl

pub returns-in-Some : goal.returns-in-Some
returns-in-Some c = λ hart halted.
    let k = c.args.self.now in
    let f = slot-found k.table c.args.pid c.in_ok-slot.slot (sym c.in_ok-slot.ensures.value) in
    ap (λ z. Some (state.Zombie c.parent-parent.result z)) (to_z-of_z w32 c.in-Some.status (record { sfits = search rules }))
    ∙ sym (zombie-told k hart halted c.requires.1.table c.args.pid c.in_ok-slot.slot f.0 f.1 f.2 c.parent-parent.result c.parent-parent.ensures
    c.in-Some.status (c.status.ensures ∙ ap Some c.in-Some.is))

pub returns : goal.returns
returns c = λ hart halted.
    let k = c.args.self.now in
    let f = slot-found k.table c.args.pid c.in_ok-slot.slot (sym c.in_ok-slot.ensures.value) in
    sym (alive-told k hart halted c.requires.1.table c.args.pid c.in_ok-slot.slot f.0 f.1 f.2 c.parent-parent.result c.parent-parent.ensures
    c.marked.result c.asleep.result c.progress.result (c.status.ensures ∙ ap Some c.in_default.is) c.marked.ensures
    c.progress.ensures c.asleep.ensures)

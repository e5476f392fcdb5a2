use Rattle.kcall_core.proofs.Prelude.{◌∙◌, ap, child_of, child_seen, cond, get, if_live, IsSome, None, option_map, refl, Some, state_of, status_of, subst, sym}
use Rattle.kcall_core.proofs.table.Observed.{slot-found, child-told, child-missing, child-held}
use Rattle.kcall_core.proofs.kernel.Kernel.child_state.Goals as goal

pub parent-requires-clause-held : goal.parent-requires-clause-held
parent-requires-clause-held c = subst (λ o. IsSome o) (sym (slot-found c.args.self.now.table c.args.child c.in_ok-slot.slot (sym c.in_ok-slot.ensures.value)).1) refl

pub returns-then-not-is_parent : goal.returns-then-not-is_parent
returns-then-not-is_parent c = λ hart.
    let k = c.args.self.now in
    sym (child-told k hart c.requires.1.table c.args.pid c.in_ok-find_live.field-0 c.in_ok-find_live.ensures.found c.args.child
    ∙ child-held k hart c.requires.1.table c.args.pid c.args.child c.in_ok-slot.slot c.parent.result
    (status_of (slot-found k.table c.args.child c.in_ok-slot.slot (sym c.in_ok-slot.ensures.value)).0) (sym c.in_ok-slot.ensures.value)
    c.parent.ensures (ap (option_map status_of) (slot-found k.table c.args.child c.in_ok-slot.slot (sym c.in_ok-slot.ensures.value)).1)
    ∙ ap (λ b. cond b (Some (child_seen (status_of (slot-found k.table c.args.child c.in_ok-slot.slot (sym c.in_ok-slot.ensures.value)).0))) None) (sym c.is_parent.ensures ∙ c.if-not-is_parent.true))

pub returns : goal.returns
returns c = λ hart.
    let k = c.args.self.now in
    ap Some c.of.ensures
    ∙ sym (child-told k hart c.requires.1.table c.args.pid c.in_ok-find_live.field-0 c.in_ok-find_live.ensures.found c.args.child
    ∙ child-held k hart c.requires.1.table c.args.pid c.args.child c.in_ok-slot.slot c.parent.result c.status.result (sym c.in_ok-slot.ensures.value) c.parent.ensures c.status.ensures
    ∙ ap (λ b. cond b (Some (child_seen c.status.result)) None) (sym c.is_parent.ensures ∙ c.if-not-is_parent.false))

pub returns-in_err-slot : goal.returns-in_err-slot
returns-in_err-slot c =
    rw c.from_residual-in_err-slot.ensures
    (λ hart. sym (child-told c.args.self.now hart c.requires.1.table c.args.pid c.in_ok-find_live.field-0 c.in_ok-find_live.ensures.found c.args.child
    ∙ child-missing c.args.self.now hart c.requires.1.table c.args.pid c.args.child (sym c.in_err-slot.ensures.value)))

pub returns-in_err-find_live : goal.returns-in_err-find_live
returns-in_err-find_live c =
    rw c.from_residual.ensures
    (λ hart. sym
    (ap (λ o. if_live o (child_of c.args.pid (get (state_of c.args.self.now hart).processes c.args.child))) (c.in_err-find_live.ensures.none hart)))

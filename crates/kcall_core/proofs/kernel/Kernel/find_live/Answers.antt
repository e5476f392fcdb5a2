use Rattle.kcall_core.proofs.Prelude.{◌∙◌, IsSome, none_from_is_some, refl, subst, sym}
use Rattle.kcall_core.proofs.table.Observed.{slot-found, status-told, missing-live, ended-live}
use Rattle.kcall_core.proofs.kernel.Kernel.find_live.Goals as goal

pub status-requires-clause-held : goal.status-requires-clause-held
status-requires-clause-held c = subst (λ o. IsSome o) (sym (slot-found c.args.self.now.table c.args.pid c.in_ok-slot.slot (sym c.in_ok-slot.ensures.value)).1) refl

pub returns-then-is_some-clause-none : goal.returns-then-is_some-clause-none
returns-then-is_some-clause-none c = λ hart. ended-live c.args.self.now hart c.requires c.args.pid c.in_ok-slot.slot c.status.result
    (sym c.in_ok-slot.ensures.value) c.status.ensures (sym c.is_some.ensures ∙ c.if-is_some.true)

pub returns-clause-found : goal.returns-clause-found
returns-clause-found c =
    let f = slot-found c.args.self.now.table c.args.pid c.in_ok-slot.slot (sym c.in_ok-slot.ensures.value) in
    (f.0, f.1, status-told c.args.self.now.table c.in_ok-slot.slot f.0 c.status.result f.1 c.status.ensures ∙ none_from_is_some c.status.result (sym c.is_some.ensures ∙ c.if-is_some.false), f.2)

pub returns-in_err-slot-clause-none : goal.returns-in_err-slot-clause-none
returns-in_err-slot-clause-none c = rw c.from_residual.ensures (λ hart. missing-live c.args.self.now hart c.requires c.args.pid (sym c.in_err-slot.ensures.value))

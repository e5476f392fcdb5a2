use Rattle.kcall_core.proofs.Prelude.{◌∙◌, ap, IsSome, option_map, pid_now, refl, Some, subst, sym, turns_of}
use Rattle.kcall_core.proofs.table.States.{slot-inside}
use Rattle.kcall_core.proofs.table.Stops.{now-slot}
use Rattle.kcall_core.proofs.turns.Chosen.{pid-told}
use Rattle.kcall_core.proofs.kernel.Kernel.current.Goals as goal

pub pid-requires-clause-within : goal.pid-requires-clause-within
pid-requires-clause-within c =
    let now = c.requires.1.current c.in_ok-slot.slot (c.in_ok-slot.was {u = tt}) in
    slot-inside c.args.self.now c.requires.0 c.requires.1 c.in_ok-slot.slot now.process now.is

pub pid-requires-clause-held : goal.pid-requires-clause-held
pid-requires-clause-held c = subst (λ o. IsSome o) (sym (c.requires.1.current c.in_ok-slot.slot (c.in_ok-slot.was {u = tt})).is) refl

pub returns : goal.returns
unfolding turns_of
returns c halted =
    ap Some (sym (pid-told c.args.self.now c.in_ok-slot.slot c.pid.result (sym (now-slot c.in_ok-slot.slot c.requires.1 (c.in_ok-slot.was {u = tt}))) c.pid.ensures))
    ∙ sym (ap (option_map (λ _. pid_now c.args.self.now)) (c.in_ok-slot.was {u = tt}))

pub returns-in_err-slot : goal.returns-in_err-slot
unfolding turns_of
returns-in_err-slot c = rw c.from_residual.ensures (λ halted. sym (ap (option_map (λ _. pid_now c.args.self.now)) (c.in_err-slot.was {u = tt})))

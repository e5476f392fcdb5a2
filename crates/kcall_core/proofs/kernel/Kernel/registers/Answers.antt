use Rattle.kcall_core.proofs.Prelude.{◌∙◌, ◌≡◌, ap, cond, each_of, held_at, regs_at, Some, sym}
use Rattle.kcall_core.proofs.table.Observed.{registers-told, live-has}
use Rattle.kcall_core.proofs.kernel.Kernel.registers.Goals as goal

pub registers-requires-clause-there : goal.registers-requires-clause-there
registers-requires-clause-there c = live-has c.args.self.now c.args.hart.now c.requires c.args.pid c.in_ok-slot.slot c.in_ok-slot.ensures.found

pub returns-then-runs_in : goal.returns-then-runs_in
returns-then-runs_in c =
    let k = c.args.self.now in
    let i = c.in_ok-slot.slot in
    let now : regs_at k c.args.hart.now i ≡ c.regs.result.now =
    ap (λ b. cond b c.args.hart.now.regs (held_at (each_of k.memories) i).saved) (sym c.runs_in.ensures ∙ c.if-runs_in.true) ∙ sym c.regs.ensures in
    ap Some (sym now) ∙ sym (registers-told k c.args.hart.now c.requires.table c.args.pid i c.in_ok-slot.ensures.found)

pub returns : goal.returns
returns c =
    let k = c.args.self.now in
    let i = c.in_ok-slot.slot in
    let now : regs_at k c.args.hart.now i ≡ c.registers.result =
    ap (λ b. cond b c.args.hart.now.regs (held_at (each_of k.memories) i).saved) (sym c.runs_in.ensures ∙ c.if-runs_in.false)
    ∙ sym c.registers.ensures in
    ap Some (sym now) ∙ sym (registers-told k c.args.hart.now c.requires.table c.args.pid i c.in_ok-slot.ensures.found)

use Rattle.kcall_core.proofs.Prelude.{◌∙◌, ap, false≢true, FitsHart, Hart, Held, Some, subst, sym}
use Rattle.kcall_core.proofs.memory.Changes.{trapframe-inside, held-seen}
use Rattle.kcall_core.proofs.memory.Registers.{aligned-saved}
use Rattle.kcall_core.proofs.memory.Runs.{runs-root, runs-there}
use Rattle.kcall_core.proofs.memories.Memories.restore.Goals as goal

pub restore-requires-clause-frame_in : goal.restore-requires-clause-frame_in
restore-requires-clause-frame_in c = trapframe-inside c.memory-memory.ensures

pub restore-requires-clause-aligned : goal.restore-requires-clause-aligned
restore-requires-clause-aligned c =
    let s = c.memory-memory.ensures in
    aligned-saved c.args.self.now.ram c.memory-memory.result.now.trapframe (c.requires.sound.memories c.args.slot c.memory-memory.result.now s.is).aligned

pub returns-then-uses_tables-clause-regs : goal.returns-then-uses_tables-clause-regs
returns-then-uses_tables-clause-regs c = ap (λ (h : Hart). h.regs) c.restore.ensures ∙ ap (λ (h : Held). h.saved) (sym (held-seen c.memory-memory.ensures))

pub returns-then-uses_tables-clause-runs : goal.returns-then-uses_tables-clause-runs
returns-then-uses_tables-clause-runs c =
    let root = c.uses_tables.ensures.same c.if-uses_tables.true ∙ ap Some c.root-root.ensures in
    let fits = subst (λ (h : Hart). FitsHart c.args.self.now.ram h.root h.cache) (sym c.restore.ensures) c.requires.fits in
    runs-there c.memory-memory.ensures c.restore.new.self root fits

pub returns-then-uses_tables-clause-kept : goal.returns-then-uses_tables-clause-kept
returns-then-uses_tables-clause-kept c = λ runs. ap (λ (h : Hart). h.cache) c.restore.ensures

pub returns-clause-regs : goal.returns-clause-regs
returns-clause-regs c =
    let s = c.memory-memory.ensures in
    ap (λ (h : Hart). h.regs) c.switch.ensures.value ∙ ap (λ (h : Hart). h.regs) c.restore.ensures ∙ ap (λ (h : Held). h.saved) (sym (held-seen s))

pub returns-clause-runs : goal.returns-clause-runs
returns-clause-runs c =
    let root = ap (λ (h : Hart). h.root) c.switch.ensures.value ∙ ap Some c.root-root.ensures in
    runs-there c.memory-memory.ensures c.switch.new.self root (c.switch.ensures.fits c.args.self.now.ram)

pub returns-clause-kept : goal.returns-clause-kept
returns-clause-kept c = λ runs.
    let root = ap (λ (h : Hart). h.root) c.restore.ensures ∙ runs-root c.memory-memory.ensures runs ∙ ap Some (sym c.root-root.ensures) in
    absurd (false≢true (sym c.if-uses_tables.false ∙ c.uses_tables.ensures.found root))

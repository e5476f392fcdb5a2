use Rattle.kcall_core.proofs.Prelude.{◌∙◌, HasSlot, IsFreeSlot, sym, turns_of}
use Rattle.kcall_core.proofs.table.Told.{slot-held, slot-free, slot-past, if-some, if-none}
use Rattle.kcall_core.proofs.kernel.Kernel.pid_in.Goals as goal

pub returns-then-slot-ge-NPROC-clause-free : goal.returns-then-slot-ge-NPROC-clause-free
returns-then-slot-ge-NPROC-clause-free c = λ halted. slot-past c.args.self.now c.requires.0 halted c.requires.1.table c.args.slot c.if-slot-ge-NPROC.true

pub returns-clause-held : goal.returns-clause-held
returns-clause-held c = λ halted.
    if-some c.pid_in.result (λ pid. HasSlot (turns_of c.args.self.now halted) pid c.args.slot)
    (λ pid is. slot-held c.args.self.now c.requires.0 halted c.requires.1.table c.args.slot pid (sym c.pid_in.ensures ∙ is))

pub returns-clause-free : goal.returns-clause-free
returns-clause-free c = λ halted.
    if-none c.pid_in.result (IsFreeSlot (turns_of c.args.self.now halted) c.args.slot)
    (λ is. slot-free c.args.self.now c.requires.0 halted c.requires.1.table c.args.slot (sym c.pid_in.ensures ∙ is))

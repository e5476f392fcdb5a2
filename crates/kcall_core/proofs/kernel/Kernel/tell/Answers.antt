use Rattle.kcall_core.proofs.Prelude.{rules}
use Rattle.kcall_core.proofs.table.Stops.{now-has}
use Rattle.kcall_core.proofs.processes.WaitRows.{told-nothing, told-status}
use Rattle.kcall_core.proofs.kernel.Kernel.tell.Goals as goal

pub returns-then-address-eq0 : goal.returns-then-address-eq0
returns-then-address-eq0 c = λ hart sound. told-nothing c.args.self.now hart c.args.address c.args.status sound c.args.slot c.requires.current c.if-address-eq0.true

pub copy_out-requires-clause-there : goal.copy_out-requires-clause-there
copy_out-requires-clause-there c = now-has c.args.slot c.requires.sound.1 c.requires.current

pub returns : goal.returns
returns c = λ hart sound.
    told-status c.args.self.now hart c.args.address c.args.status sound c.args.slot c.requires.current c.if-address-eq0.false c.copy_out.new.self _ (search rules)
    c.in-Ok.ensures.written c.in-Ok.ensures.runs

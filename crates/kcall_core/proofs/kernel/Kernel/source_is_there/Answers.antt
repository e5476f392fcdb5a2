use Rattle.kcall_core.proofs.Prelude.{arith, sym}
use Rattle.kcall_core.proofs.files.KnownBuffers.{source-known}
use Rattle.kcall_core.proofs.kernel.Kernel.source_is_there.Goals as goal

pub returns-then-call-gt0 : goal.returns-then-call-gt0
returns-then-call-gt0 c = sym (source-known c.requires.whole.1 c.requires.slot c.requires.in_call c.args.n c.requires.asked (omega (arith, c.if-call-gt0.true)) c.requires.row)

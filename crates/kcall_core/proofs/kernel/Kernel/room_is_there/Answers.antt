use Rattle.kcall_core.proofs.Prelude.{arith}
use Rattle.kcall_core.proofs.files.KnownBuffers.{room-known}
use Rattle.kcall_core.proofs.making.Touching as making
use Rattle.kcall_core.proofs.kernel.Kernel.room_is_there.Goals as goal

pub returns-then-call-gt0-clause-ready : goal.returns-then-call-gt0-clause-ready
returns-then-call-gt0-clause-ready c e h whole =
    making.ready-at whole c.requires.slot c.args.call.now.a1 c.args.n 0
    (room-known whole c.requires.slot c.requires.in_call c.args.n c.requires.asked (omega (arith, c.if-call-gt0.true)) c.requires.row) (omega arith)

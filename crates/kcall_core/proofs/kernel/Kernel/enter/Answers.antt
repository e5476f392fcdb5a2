use Rattle.kcall_core.proofs.Prelude.{refl}
use Rattle.kcall_core.proofs.table.Stops.{rests-fit, entered-state}
use Rattle.kcall_core.proofs.kernel.Kernel.enter.Goals as goal

pub restore-requires-clause-fits : goal.restore-requires-clause-fits
restore-requires-clause-fits c = rests-fit c.args.self.now.memories c.args.hart.now (c.requires.sound.idle c.requires.stopped)

pub returns-clause-state : goal.returns-clause-state
returns-clause-state c =
    entered-state c.args.self.now _ c.args.hart.now c.restore.new.hart c.args.slot c.requires.live.0 c.requires.sound c.requires.stopped
    c.requires.live.1 c.restore.ensures.regs refl refl refl (record { files = refl; console = refl; programs = refl; clock = refl })

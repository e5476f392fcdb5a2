use Rattle.xv_machine.proofs.Rounds.{ends-somehow}
use Rattle.xv_machine.proofs.driving.drive.Goals as goal

pub returns-clause-sound : goal.returns-clause-sound
returns-clause-sound g c = (ends-somehow c.in-Ok.end c.args.plan _ _ _ _ _ _ c.in-Ok.ensures.done c.in-Ok.ensures.read c.in-Ok.ensures.write).1.sound

pub returns-clause-frames : goal.returns-clause-frames
returns-clause-frames g c = (ends-somehow c.in-Ok.end c.args.plan _ _ _ _ _ _ c.in-Ok.ensures.done c.in-Ok.ensures.read c.in-Ok.ensures.write).1.frames

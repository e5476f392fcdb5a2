use Rattle.kcall_core.proofs.turns.Rests.{rests-whole, rests-world}
use Rattle.kcall_core.proofs.kernel.Kernel.rest.Goals as goal

pub returns-clause-whole : goal.returns-clause-whole
returns-clause-whole c = rests-whole c.requires.whole c.pause.ensures.sound c.pause.ensures.rest c.pause.ensures.state c.pause.ensures.frames

pub returns-clause-world : goal.returns-clause-world
returns-clause-world c = rests-world c.requires.whole c.pause.ensures.sound c.pause.ensures.rest c.pause.ensures.state c.pause.ensures.frames

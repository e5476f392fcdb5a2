use Rattle.std.proofs.Common.{rules}
use Rattle.dwarf.proofs.Frames.{taken_back_pop}
use Rattle.dwarf.proofs.frame_program.take_back.Goals as goal

pub returns : goal.returns
returns c = taken_back_pop _ _ _ c.pop.ensures.items _ _ c.pop.ensures.cases (search rules)

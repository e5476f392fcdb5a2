use Rattle.kcall_core.proofs.laws.bounds.Goals as goal
use Rattle.kcall_core.proofs.files.OpenRoom as law

pub returns : goal.returns
returns c = law.whole_has_room

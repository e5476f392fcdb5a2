use Rattle.std.proofs.Common.{◌≡◌, take}
use Rattle.xv_debug.specs.motion.Places.{all_of}
use Rattle.xv_debug.proofs.motion.places.all_of.Given as goal

abbrev pub invariant-loop-mark : goal.invariant-loop-mark
invariant-loop-mark l = l.addresses.items ≡ all_of l.kind l.aim (take l.mark-index l.marks)

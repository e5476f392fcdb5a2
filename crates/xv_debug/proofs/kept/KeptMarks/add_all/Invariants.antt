use Rattle.std.proofs.Common.{◌≡◌, ◌++◌, take}
use Rattle.xv_debug.specs.Kept.{numbered_from}
use Rattle.xv_debug.proofs.AllKept.{made_after}
use Rattle.xv_debug.proofs.kept.KeptMarks.add_all.Given as goal

abbrev pub invariant-loop-mark : goal.invariant-loop-mark
invariant-loop-mark l = record {
  those : l.self.kept.items ≡ l.initial.self.kept.items ++ numbered_from l.initial.self.made (take l.mark-index l.marks) l.once;
  made : l.self.made ≡ made_after l.initial.self.made (take l.mark-index l.marks);
}

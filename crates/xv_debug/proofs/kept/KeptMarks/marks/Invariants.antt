use Rattle.std.proofs.Common.{◌≡◌, length, take}
use Rattle.xv_debug.specs.Kept.{marks_of}
use Rattle.xv_debug.proofs.kept.KeptMarks.marks.Given as goal

abbrev pub invariant-loop-kept : goal.invariant-loop-kept
invariant-loop-kept l = record {
  those : l.marks.items ≡ marks_of (take l.kept-index l.kept-items);
  as_many : length l.marks.items ≡ l.kept-index;
}

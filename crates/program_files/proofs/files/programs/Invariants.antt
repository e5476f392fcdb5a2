use Rattle.std.proofs.Common.{◌≡◌, length, take}
use Rattle.program_files.specs.Programs.{AreProgramsIn}
use Rattle.program_files.proofs.files.programs.Given as goal

abbrev pub invariant-loop-path : goal.invariant-loop-path
invariant-loop-path g l = record {
  programs : length l.programs.items ≡ l.path-index;
  lines : length l.lines.items ≡ l.path-index;
  made : AreProgramsIn (take l.path-index l.paths) l.programs.items;
}

use Rattle.std.proofs.Common.{take}
use Rattle.grade_submissions.specs.Files.{AreFoundIn}
use Rattle.grade_submissions.proofs.submission.programs_of_files.Given as goal

abbrev pub invariant-loop-file : goal.invariant-loop-file
invariant-loop-file g l = AreFoundIn (g.D.Disk.reads l.disk) l.folder (take l.file-index l.files) l.programs.items

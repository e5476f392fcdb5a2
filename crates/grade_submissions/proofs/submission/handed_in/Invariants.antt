use Rattle.std.proofs.Common.{take, map}
use Rattle.grade_submissions.specs.Files.{IsNoneThere}
use Rattle.grade_submissions.proofs.submission.handed_in.Given as goal

abbrev pub invariant-loop-file : goal.invariant-loop-file
invariant-loop-file g l = IsNoneThere (g.D.Disk.reads l.disk) (record { folder = l.folder; refused = map (λ line. line.now) l.refused }) (take l.file-index l.files)

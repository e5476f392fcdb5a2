use Rattle.std.proofs.Common.{◌≡◌, drop, map}
use Rattle.std.specs.Prelude.{eqb}
use Rattle.std.specs.List.{find, starts_with}
use Rattle.grade_submissions.proofs.submission.first_line.Given as goal

abbrev pub invariant-loop-line : goal.invariant-loop-line
invariant-loop-line l =
    find (λ line. starts_with eqb line l.begin) (map (λ line. line.now) (drop l.line-index l.lines))
    ≡ find (λ line. starts_with eqb line l.begin) (map (λ line. line.now) l.lines)

use Rattle.std.proofs.Common.{ℕ, List, map, Option, Some, None, inl, subst}
use Rattle.std.specs.Prelude.{string_bytes}
use Rattle.grade_submissions.specs.Files.{Handing, IsUnder}
use Rattle.grade_submissions.specs.declared.submission.HandedIn.{HandedIn}
use Rattle.grade_submissions.proofs.Handed.{none_more, first_at}
use Rattle.grade_submissions.proofs.submission.handed_in.Goals as goal

-- the first that is there
pub returns-in-Some : goal.returns-in-Some
returns-in-Some g c =
    let reads = g.D.Disk.reads c.args.disk.now in
    let handing : Handing = record { folder = c.args.folder.now; refused = map (λ line. line.now) c.args.refused.now } in
    let here : IsUnder reads handing (string_bytes c.file-item.result) (Some c.in-Some.given) =
    subst (λ (name : List ℕ). IsUnder reads handing name (Some c.in-Some.given)) c.as_str.ensures.value
    (subst (λ (o : Option HandedIn). IsUnder reads handing c.as_str.result.now o) c.in-Some.is c.in_ok-given.ensures) in
    inl (first_at reads handing c.args.files.now c.loop-file.file-index c.file-item.result c.in-Some.given c.loop-file-test.true c.file-item.is c.loop-file.invariant here)

-- a file more that isn't there
pub loop-file-preserved : goal.loop-file-preserved
loop-file-preserved g c =
    let reads = g.D.Disk.reads c.args.disk.now in
    let handing : Handing = record { folder = c.args.folder.now; refused = map (λ line. line.now) c.args.refused.now } in
    let here : IsUnder reads handing (string_bytes c.file-item.result) None =
    subst (λ (name : List ℕ). IsUnder reads handing name None) c.as_str.ensures.value
    (subst (λ (o : Option HandedIn). IsUnder reads handing c.as_str.result.now o) c.in_default.is c.in_ok-given.ensures) in
    none_more reads handing c.args.files.now c.loop-file.file-index c.file-item.result c.loop-file-test.true c.file-item.is c.loop-file.invariant here

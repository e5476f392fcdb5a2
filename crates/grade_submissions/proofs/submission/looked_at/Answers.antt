use Rattle.std.proofs.Common.{◌≡◌, ◌∙◌, ℕ, List, subst}
use Rattle.std.proofs.lemmas.Result.{IfOk-weaker}
use Rattle.grade_submissions.specs.Files.{path_in, IsFoundAs, IsLookedAt}
use Rattle.grade_submissions.proofs.submission.looked_at.Goals as goal

pub returns : goal.returns
returns g c =
    let reads = g.D.Disk.reads c.args.disk.now in
    let found = c.in_ok-found.found in
    let there : c.as_str.result.now ≡ path_in c.args.folder.now c.args.file.now = c.as_str.ensures.value ∙ c.in_ok-path.ensures in
    IfOk-weaker c.given.result (IsFoundAs c.args.file.now found) (IsLookedAt reads c.args.folder.now c.args.file.now)
    (λ o is. record { there = found; read = subst (λ (path : List ℕ). reads.found path found) there c.in_ok-found.ensures; is = is }) c.given.ensures

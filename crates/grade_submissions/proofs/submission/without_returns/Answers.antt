use Rattle.std.proofs.Common.{◌≡◌, ◌∙◌, map, ap}
use Rattle.std.proofs.lemmas.Result.{IfOk-weaker}
use Rattle.std.specs.Prelude.{string_bytes}
use Rattle.std.specs.List.{concat}
use Rattle.grade_submissions.specs.Files.{without_returns}
use Rattle.grade_submissions.proofs.Handed.{parts_joined}
use Rattle.grade_submissions.proofs.submission.without_returns.Goals as goal

pub returns : goal.returns
returns c =
    IfOk-weaker c.joined.result (λ text. string_bytes text ≡ concat (map (λ part. part.now) c.as_slice.result.now)) (λ text. string_bytes text ≡ without_returns c.args.text.now)
    (λ text is. is ∙ ap (λ parts. concat (map (λ part. part.now) parts)) c.as_slice.ensures.value ∙ ap concat c.in_ok-parts.ensures ∙ parts_joined c.args.text.now) c.joined.ensures

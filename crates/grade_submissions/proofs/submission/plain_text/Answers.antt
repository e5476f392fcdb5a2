use Rattle.std.proofs.Common.{◌≡◌, ◌∙◌, ap}
use Rattle.std.proofs.lemmas.Result.{IfOk-weaker}
use Rattle.std.specs.Prelude.{string_bytes}
use Rattle.grade_submissions.specs.Files.{without_returns, IsTextOf}
use Rattle.grade_submissions.proofs.submission.plain_text.Goals as goal

pub returns-in-Ok : goal.returns-in-Ok
returns-in-Ok c =
    let cases = c.in-Ok.ensures.cases in
    IfOk-weaker c.without_returns.result (λ plain. string_bytes plain ≡ without_returns c.in-Ok.text.now) (λ text. IsTextOf c.args.bytes.now (string_bytes text))
    (λ plain is. record { of_text = λ _. is ∙ ap without_returns cases.0; of_other = λ none. absurd (none cases.1) }) c.without_returns.ensures

pub returns-in-Err : goal.returns-in-Err
returns-in-Err c = record { of_text = λ utf8. absurd (c.in-Err.ensures.cases.0 utf8); of_other = λ _. c.new.ensures.bytes }

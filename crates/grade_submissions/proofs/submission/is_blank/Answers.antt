use Rattle.std.proofs.Common.{◌∙◌, ℕ, List, length, refl, ap}
use Rattle.std.proofs.lemmas.Str.Ascii.{trim_ascii_is}
use Rattle.std.specs.Prelude.{◌==◌}
use Rattle.grade_submissions.proofs.submission.is_blank.Goals as goal

pub returns : goal.returns
returns c = c.is_empty.ensures ∙ ap (λ (bytes : List ℕ). length bytes == 0) (trim_ascii_is _ _ _ refl c.trim_ascii.ensures.value)

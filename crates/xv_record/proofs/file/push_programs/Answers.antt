use Rattle.std.proofs.Common.{List, ℕ, ◌++◌, ◌∙◌, ap}
use Rattle.std.specs.String.{string_bytes}
use Rattle.xv_record.proofs.Whole.{programs_text_is}
use Rattle.xv_record.proofs.file.push_programs.Goals as goal

pub returns : goal.returns
returns c = c.in_ok-push_lines.ensures ∙ ap (λ (ts : List ℕ). string_bytes c.args.text.now ++ ts) (programs_text_is c.args.programs.now)

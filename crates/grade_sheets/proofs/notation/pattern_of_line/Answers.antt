use Rattle.std.proofs.Common.{Bor, List, ℕ, arith}
use Rattle.std.proofs.lemmas.List.{length-map}
use Rattle.grade_sheets.proofs.Patterns.{few-words, many-words}
use Rattle.grade_sheets.proofs.notation.pattern_of_line.Goals as goal

pub returns-in_default : goal.returns-in_default
returns-in_default c = few-words _ (omega (arith, length-map c.args.words.now (λ (w : Bor (List ℕ)). w.now), c.in_default.len_below))

pub returns-in_default-2 : goal.returns-in_default-2
returns-in_default-2 c = many-words _ (omega (arith, length-map c.args.words.now (λ (w : Bor (List ℕ)). w.now), c.in_default.len_at_least))

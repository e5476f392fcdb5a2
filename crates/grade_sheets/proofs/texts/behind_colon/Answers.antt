use Rattle.grade_sheets.proofs.Prelude.{◌+◌, ◌==◌, ◌≡◌, arith, drop_all, length, lit<, position_or_len, rules, sym}
use Rattle.std.proofs.lemmas.Str.Pattern.{split_once_first}
use Rattle.grade_sheets.proofs.texts.behind_colon.Goals as goal

-- a line without a colon has nothing behind it
pub returns-in-None : goal.returns-in-None
returns-in-None c =
    let line = c.args.line.now in
    let told = split_once_first 58 line c.split_once.result c.split_once.ensures.cases (lit< tt) in
    let whole : position_or_len (λ b. b == 58) line ≡ length line = search rules in
    sym (drop_all (position_or_len (λ b. b == 58) line + 1) line (omega (arith, whole)))

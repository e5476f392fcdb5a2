use Rattle.std.proofs.Common.{◌≡◌, ◌∙◌, Bor, ℕ, true, false, List, [], get_or, sym}
use Rattle.std.proofs.lemmas.Str.Pattern.{starts_text}
use Rattle.grade_submissions.proofs.Handed.{begins, line_here, line_later}
use Rattle.grade_submissions.proofs.submission.first_line.Goals as goal

-- it is the first that begins so
pub returns-then-starts_with : goal.returns-then-starts_with
returns-then-starts_with c =
    let begin = c.args.begin.now in
    let lines = c.args.lines.now in
    let place = c.loop-line.line-index in
    let other : Bor (List ℕ) = record { ref_ptr = (0, 0); now = [] } in
    let so : begins begin (get_or lines place other).now ≡ true = sym (starts_text c.starts_with.result begin (get_or lines place other).now c.starts_with.ensures.cases) ∙ c.if-starts_with.true in
    sym (line_here begin lines place other c.loop-line-test.true so) ∙ c.loop-line.invariant

-- the first comes later
pub loop-line-preserved : goal.loop-line-preserved
loop-line-preserved c =
    let begin = c.args.begin.now in
    let lines = c.args.lines.now in
    let place = c.loop-line.line-index in
    let other : Bor (List ℕ) = record { ref_ptr = (0, 0); now = [] } in
    let so : begins begin (get_or lines place other).now ≡ false = sym (starts_text c.starts_with.result begin (get_or lines place other).now c.starts_with.ensures.cases) ∙ c.if-starts_with.false in
    line_later begin lines place other c.loop-line-test.true so ∙ c.loop-line.invariant

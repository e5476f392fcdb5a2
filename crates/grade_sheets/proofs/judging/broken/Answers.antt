use Rattle.grade_sheets.proofs.Prelude.{◌∙◌, false≢true, refl, sym}
use Rattle.grade_rules.proofs.Judgements.{told_by}
use Rattle.grade_sheets.proofs.judging.broken.Goals as goal

pub returns-then-holds : goal.returns-then-holds
returns-then-holds c =
    let told = told_by c.args.rule.now c.args.notes.now c.in_ok-judgement.judgement c.in_ok-judgement.ensures in
    (λ _. told.0 (sym c.holds.ensures ∙ c.if-holds.true), λ _. refl)

pub returns : goal.returns
returns c =
    let told = told_by c.args.rule.now c.args.notes.now c.in_ok-judgement.judgement c.in_ok-judgement.ensures in
    (λ none. absurd (false≢true none), λ held. absurd (false≢true (sym c.if-holds.false ∙ c.holds.ensures ∙ told.1 held)))

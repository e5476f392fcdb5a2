use Rattle.std.proofs.Common.{◌≡◌, ◌∙◌, true, inl, inr, subst, sym, arith}
use Rattle.grade_rules.specs.declared.rule.Judgement.{Judgement}
use Rattle.grade_rules.specs.Choices.{is_choice}
use Rattle.grade_rules.specs.Judged.{IsOfAChoice}
use Rattle.grade_rules.proofs.Judgements.{fails_by}
use Rattle.grade_rules.proofs.rule.with_choice.Goals as goal

-- the better one is one of the two
pub returns-clause-of : goal.returns-clause-of
returns-clause-of c =
    let is = λ (j : Judgement). IsOfAChoice c.args.rule.now c.args.notes.now j in
    let yes : c.is_choice.result ≡ true = grind (arith, c.if-not-is_choice.false) in
    let may : is_choice c.args.choice.now ≡ true = sym c.is_choice.ensures ∙ yes in
    elim c.better.ensures.which [
      | inl one ↦ subst is (sym one) c.requires
      | inr other ↦ subst is (sym other) (c.args.choice.now, may, c.in_ok-judge_by.ensures)
    ]

-- if it doesn't say that the rule holds, the second doesn't
pub returns-clause-tried : goal.returns-clause-tried
returns-clause-tried c =
    λ fails may. fails_by c.args.choice.now c.args.rule.now c.args.notes.now c.in_ok-judge_by.field-0 c.in_ok-judge_by.ensures (c.better.ensures.holds fails)

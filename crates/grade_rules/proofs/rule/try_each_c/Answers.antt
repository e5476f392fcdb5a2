use Rattle.std.proofs.Common.{◌≡◌, ◌∙◌, ◌+◌, ◌≤◌, ◌<◌, ℕ, false, true, inl, inr, sym, subst, arith}
use Rattle.std.proofs.lemmas.Bool.{cases_lt}
use Rattle.grade_rules.specs.Choices.{is_choice}
use Rattle.grade_rules.specs.Judged.{HoldsBy, is_holding}
use Rattle.grade_rules.proofs.rule.try_each_c.Goals as goal

-- one more was tried
pub loop-place-preserved : goal.loop-place-preserved
loop-place-preserved c =
    let place = c.loop-place.place in
    let fails : is_holding c.in_ok-best.best ≡ false = sym c.holds.ensures ∙ c.if-holds.false in
    record {
      of = c.in_ok-best.ensures.of;
      tried = λ n within. elim (cases_lt place n) [
        | inl last ↦
            let is : n ≡ place + 1 = omega (arith, last, within) in
            subst (λ (k : ℕ). is_choice (record { a = c.args.a; b = c.args.b; c = k }) ≡ true → ¬ (HoldsBy (record { a = c.args.a; b = c.args.b; c = k }) c.args.rule.now c.args.notes.now)) (sym is)
            (c.in_ok-best.ensures.tried fails)
        | inr before ↦ c.loop-place.invariant.tried n before
      ];
    }

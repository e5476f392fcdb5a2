use Rattle.std.proofs.Common.{◌≡◌, ◌∙◌, false, refl, sym, arith}
use Rattle.grade_rules.specs.declared.pipes.Choice.{Choice}
use Rattle.grade_rules.specs.Choices.{names_letters}
use Rattle.grade_rules.proofs.Judgements.{holds_by_one, fails_by_all, without_letters}
use Rattle.grade_rules.proofs.rule.judge.Goals as goal

-- the first three pipes
first : Choice
first = record { a = 1; b = 2; c = 3 }

pub returns-then-holds : goal.returns-then-holds
unfolding first
returns-then-holds c =
    holds_by_one c.args.rule.now c.args.notes.now c.in_ok-first.first (first, refl, c.in_ok-first.ensures) (sym c.holds.ensures ∙ c.if-holds.true)

pub returns-then-not-names_letters : goal.returns-then-not-names_letters
unfolding first
returns-then-not-names_letters c =
    let no_letter : c.names_letters.result ≡ false = grind (arith, c.if-not-names_letters.true) in
    without_letters first c.args.rule.now c.args.notes.now c.in_ok-first.first refl c.in_ok-first.ensures (sym c.names_letters.ensures ∙ no_letter)

pub returns : goal.returns
returns c = fails_by_all c.args.rule.now c.args.notes.now c.in_ok-best.best c.in_ok-best.ensures.of c.in_ok-best.ensures.tried

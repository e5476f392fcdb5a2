use Rattle.grade_sheets.proofs.Prelude.{ℕ, ◌<◌, ◌∙◌, ◌≡◌, arith, drop, eqb, false, length, refl, starts_with, sym}
use Rattle.grade_sheets.proofs.Inside.{stands_here, stands_or_empty}
use Rattle.grade_sheets.proofs.texts.stands_in.Goals as goal

-- they begin here
pub returns-then-begins_at : goal.returns-then-begins_at
returns-then-begins_at c = (λ _. stands_here c.args.shown.now c.args.part.now c.loop-place.place (sym c.begins_at.ensures ∙ c.if-begins_at.true), λ _. refl)

-- they begin nowhere before the end
pub returns : goal.returns
returns c =
    let none : (k : ℕ) → k < length c.args.shown.now → starts_with eqb (drop k c.args.shown.now) c.args.part.now ≡ false =
    λ k within. c.loop-place.invariant k (omega (arith, within, c.loop-place-test.false, c.loop-place.auto.place-end)) in
    stands_or_empty c.args.shown.now c.args.part.now none c.is_empty.result c.is_empty.ensures

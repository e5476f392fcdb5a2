use Rattle.std.proofs.Common.{◌≡◌, ◌∙◌, ◌<◌, true, List, [], length, drop, take, filter, sym, ap, subst, arith}
use Rattle.std.proofs.lemmas.List.{drop_all}
use Rattle.grade_rules.specs.declared.note.Note.{Note}
use Rattle.grade_rules.specs.Patterns.{fits, fits_one_of}
use Rattle.grade_rules.specs.Rules.{are_these, note_at, step_at}
use Rattle.grade_rules.proofs.Sequences.{one_less, one_more, one_beside, left_more, left_beside}
use Rattle.grade_rules.proofs.sequence.first_other.Goals as goal
use Rattle.grade_rules.proofs.sequence.first_other.Goals.{then-fits_any+else-done-wanted+else-not-fits, else-fits_any}

-- a note more: the next that is wanted, or one that isn't meant
pub loop-place-preserved : goal.loop-place-preserved
loop-place-preserved c =
    let of = c.args.of.now in
    let wanted = c.args.wanted.now in
    let notes = c.args.notes.now in
    let place = c.loop-place.place in
    let done = c.loop-place.done in
    let within : place < length notes = omega (arith, c.loop-place-test.true) in
    elim c.if-fits_any.branch [
      | then-fits_any+else-done-wanted+else-not-fits w ↦
          let is : fits_one_of of (note_at notes place) ≡ true = sym c.fits_any.ensures ∙ w.if-fits_any.true in
          let left : done < length wanted = omega (arith, w.if-done-wanted.false) in
          let yes : w.fits.result ≡ true = grind (arith, w.if-not-fits.false) in
          let fit : fits (step_at wanted done) (note_at notes place) ≡ true = sym w.fits.ensures ∙ yes in
          record {
            told = rw w.done-is (c.loop-place.invariant.told ∙ left_more wanted notes (fits_one_of of) done place left within is fit);
            few = omega (arith, w.done-is, c.loop-place.invariant.few);
            left = omega (arith, w.done-is, left);
            before = rw w.done-is (one_more wanted notes (fits_one_of of) done place left within c.loop-place.invariant.before is fit);
          }
      | else-fits_any w ↦
          let is = sym c.fits_any.ensures ∙ w.if-fits_any.false in
          record {
            told = rw w.done-is (c.loop-place.invariant.told ∙ left_beside wanted notes (fits_one_of of) done place within is);
            few = omega (arith, w.done-is, c.loop-place.invariant.few);
            left = omega (arith, w.done-is, c.loop-place.invariant.left);
            before = rw w.done-is (one_beside wanted notes (fits_one_of of) done place within c.loop-place.invariant.before is);
          }
    ]

-- no note is left, and a pattern is
pub returns-then-done-wanted-2 : goal.returns-then-done-wanted-2
returns-then-done-wanted-2 c =
    let of = c.args.of.now in
    let wanted = c.args.wanted.now in
    let notes = c.args.notes.now in
    let place = c.loop-place.place in
    let done = c.loop-place.done in
    let none : drop place notes ≡ [] = drop_all place notes (omega (arith, c.loop-place-test.false)) in
    let all : place ≡ length notes = omega (arith, c.loop-place-test.false, c.loop-place.auto.place-end) in (
      c.loop-place.invariant.told ∙ ap (λ (ns : List Note). are_these (drop done wanted) (filter (fits_one_of of) ns)) none ∙ one_less wanted done c.if-done-wanted-2.true,
      record {
        done = done;
        few = c.loop-place.invariant.left;
        within = omega arith;
        before = subst (λ n. are_these (take done wanted) (filter (fits_one_of of) (take n notes)) ≡ true) all c.loop-place.invariant.before;
        there = λ less. absurd (omega (arith, less));
        not_next = λ less. absurd (omega (arith, less));
        too_few = λ _. c.if-done-wanted-2.true;
      },
    )

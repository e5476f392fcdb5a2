use Rattle.std.proofs.Common.{◌≡◌, ◌∙◌, ◌<◌, true, length, sym, arith, below_more}
use Rattle.std.proofs.lemmas.Bool.{false≢true}
use Rattle.grade_rules.proofs.counting.first_alone.Goals as goal
use Rattle.grade_rules.proofs.counting.first_alone.Goals.{then-seen, else-seen, else-not-seen-via-then-not-seen+else-fits, else-not-seen-via-else-not-seen}

-- a note more
pub loop-place-preserved : goal.loop-place-preserved
loop-place-preserved c =
    let place = c.loop-place.place in
    let within : place < length c.args.notes.now = omega (arith, c.loop-place-test.true) in
    record {
      seen = λ now. elim c.if-seen.branch [
        | then-seen w ↦
            let earlier = c.loop-place.invariant.seen w.if-seen.true in
            (earlier.0, omega (arith, earlier.1), earlier.2)
        | else-seen w ↦ (place, omega arith, record { within = within; meant = sym w.fits-seen.ensures ∙ sym w.seen-is ∙ now })
      ];
      not_seen = λ now. elim c.if-seen.branch [
        | then-seen w ↦ λ k under stands. absurd (false≢true (sym now ∙ w.seen-is ∙ w.if-seen.true))
        | else-seen w ↦
            below_more _ _ (c.loop-place.invariant.not_seen w.if-seen.false)
            (λ stands. absurd (false≢true (sym now ∙ w.seen-is ∙ w.fits-seen.ensures ∙ stands.meant)))
      ];
      behind = below_more _ _ c.loop-place.invariant.behind
          (λ stands. elim c.else-not-seen.branch [
            | else-not-seen-via-then-not-seen+else-fits w ↦ absurd (false≢true (sym w.if-fits.false ∙ w.fits.ensures ∙ stands.meant))
            | else-not-seen-via-else-not-seen w ↦
                let was : c.loop-place.seen ≡ true = grind (arith, w.if-not-seen.false) in
                c.loop-place.invariant.seen was
          ]);
    }

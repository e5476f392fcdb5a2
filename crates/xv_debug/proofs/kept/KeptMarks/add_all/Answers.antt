use Rattle.std.proofs.Common.{◌≡◌, ◌≤◌, ◌∙◌, ◌++◌, ℕ, List, ap, refl, subst}
use Rattle.std.proofs.lemmas.List.{take_all}
use Rattle.debug_words.specs.declared.vocabulary.Mark.{Mark}
use Rattle.debug_words.specs.declared.vocabulary.Mark.TheVariants.{Store}
use Rattle.xv_debug.specs.Kept.{numbered_from}
use Rattle.xv_debug.specs.declared.kept.Kept.{Kept}
use Rattle.xv_debug.proofs.AllKept.{one_more, made_more, full_stays, all_stay}
use Rattle.xv_debug.proofs.kept.KeptMarks.add_all.Goals as goal

pub loop-mark-preserved : goal.loop-mark-preserved
loop-mark-preserved c =
    let old = c.args.self.now in
    let ms = c.args.marks.now in
    record {
      those = c.if-not-add.ensures.added refl
          ∙ one_more old.kept.items old.made ms c.args.once c.loop-mark.mark-index _ c.loop-mark.self.kept.items c.loop-mark.self.made c.loop-mark-test.true
          c.loop-mark.invariant.those c.loop-mark.invariant.made;
      made = c.if-not-add.ensures.made refl ∙ made_more old.made ms c.loop-mark.mark-index (Store 0) c.loop-mark.self.made c.loop-mark-test.true c.loop-mark.invariant.made;
    }

pub returns-then-not-add : goal.returns-then-not-add
returns-then-not-add c =
    let old = c.args.self.now in
    c.if-not-add.ensures.stays refl
    ∙ full_stays old.kept.items old.made c.args.marks.now c.args.once c.loop-mark.mark-index c.loop-mark.self.kept.items c.loop-mark.invariant.those (c.if-not-add.ensures.full refl)

pub returns : goal.returns
returns c =
    let old = c.args.self.now in
    let all : c.loop-mark.self.kept.items ≡ old.kept.items ++ numbered_from old.made c.args.marks.now c.args.once =
    c.loop-mark.invariant.those ∙ ap (λ (ms : List Mark). old.kept.items ++ numbered_from old.made ms c.args.once) (take_all c.loop-mark.mark-index c.args.marks.now c.loop-mark-test.false) in
    all_stay old.kept.items old.made c.args.marks.now c.args.once c.loop-mark.self.kept.items all
    (subst (λ (n : ℕ). n ≤ 16) c.len-count.ensures.value c.len-count.ensures.fits)

use Rattle.std.proofs.Common.{length, refl}
use Rattle.debug_words.specs.declared.vocabulary.Word.TheVariants.{Nothing}
use Rattle.xv_debug.proofs.Left.{if-ok, leaves, stays-left}
use Rattle.xv_debug.proofs.debugger.Debugger.obey.Goals as goal

pub returns-then-branch-clause-chosen : goal.returns-then-branch-clause-chosen
returns-then-branch-clause-chosen g c =
    if-ok c.answer_marked.result _ (leaves _ _ _ _ _ _ _ _ _ _ _ c.in_ok-tells_of_calls.ensures.told c.answer_marked.ensures.chosen)

pub returns-then-branch-2-clause-chosen : goal.returns-then-branch-2-clause-chosen
returns-then-branch-2-clause-chosen g c =
    if-ok c.answer_marked-then-branch-2.result _ (leaves _ _ _ _ _ _ _ _ _ _ _ c.in_ok-tells_of_calls.ensures.told c.answer_marked-then-branch-2.ensures.chosen)

pub returns-in-Ok-clause-chosen : goal.returns-in-Ok-clause-chosen
returns-in-Ok-clause-chosen g c =
    if-ok c.answer_displayed.result _ (leaves _ _ _ _ _ _ _ _ _ _ _ c.in_ok-tells_of_calls.ensures.told c.answer_displayed.ensures.chosen)

pub returns-in_ok-tell_nameless-in-Err-clause-done : goal.returns-in_ok-tell_nameless-in-Err-clause-done
returns-in_ok-tell_nameless-in-Err-clause-done g c = record { word = Nothing; in_range = tt; does = refl; behind = refl }

pub returns-in_ok-tell_nameless-in-Err-clause-chosen : goal.returns-in_ok-tell_nameless-in-Err-clause-chosen
returns-in_ok-tell_nameless-in-Err-clause-chosen g c =
    leaves _ _ _ _ _ _ _ _ _ _ _ c.in_ok-tells_of_calls.ensures.told (stays-left (length c.args.session.now.events) c.tells_of_calls.new.self.chosen)

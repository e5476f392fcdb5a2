use Rattle.std.proofs.Common.{◌∙◌, ◌++◌, Bor, ℕ, List, [], get_or, sym, ap}
use Rattle.grade_submissions.proofs.Handed.{joined_more}
use Rattle.grade_submissions.proofs.submission.joined.Goals as goal

-- a part more
pub loop-part-preserved : goal.loop-part-preserved
loop-part-preserved c =
    let parts = c.args.parts.now in
    let place = c.loop-part.part-index in
    let other : Bor (List ℕ) = record { ref_ptr = (0, 0); now = [] } in
    c.in_ok-push_str.ensures.bytes ∙ ap (λ (text : List ℕ). text ++ (get_or parts place other).now) c.loop-part.invariant ∙ sym (joined_more parts place other c.loop-part-test.true)

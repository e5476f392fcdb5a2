use Rattle.std.proofs.Common.{◌∙◌, ap, FitsSigned, Some, subst, sym, w64}
use Rattle.std.proofs.lemmas.Int.{to_z-of_z}
use Rattle.trace_picture.proofs.Numerals.{signed-64, no-signed-64}
use Rattle.trace_picture.proofs.note.answer_of.Goals as goal

pub returns-in-Ok : goal.returns-in-Ok
returns-in-Ok c =
    let parsed = c.in-Ok.ensures.value.0 in
    ap Some (to_z-of_z w64 c.in-Ok.answer (subst (FitsSigned w64) (sym parsed.1) parsed.0.1)) ∙ signed-64 c.args.word.now c.in-Ok.answer parsed.0.0 parsed.0.1 parsed.1

pub returns-in-Err : goal.returns-in-Err
returns-in-Err c = no-signed-64 c.args.word.now c.in-Err.ensures.value.0

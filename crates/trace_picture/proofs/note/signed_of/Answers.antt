use Rattle.std.proofs.Common.{◌∙◌, ap, FitsSigned, Some, subst, sym, w32}
use Rattle.std.proofs.lemmas.Int.{to_z-of_z}
use Rattle.trace_picture.proofs.Numerals.{signed-32, no-signed-32}
use Rattle.trace_picture.proofs.note.signed_of.Goals as goal

pub returns-in-Ok : goal.returns-in-Ok
returns-in-Ok c =
    let parsed = c.in-Ok.ensures.value.0 in
    ap Some (to_z-of_z w32 c.in-Ok.number (subst (FitsSigned w32) (sym parsed.1) parsed.0.1)) ∙ signed-32 c.args.word.now c.in-Ok.number parsed.0.0 parsed.0.1 parsed.1

pub returns-in-Err : goal.returns-in-Err
returns-in-Err c = no-signed-32 c.args.word.now c.in-Err.ensures.value.0

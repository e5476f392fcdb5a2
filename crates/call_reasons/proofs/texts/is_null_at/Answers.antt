use Rattle.std.proofs.Common.{◌∙◌, sym}
use Rattle.call_reasons.proofs.Reading.{last, no_last}
use Rattle.call_reasons.proofs.texts.is_null_at.Goals as goal

pub returns-in-Some : goal.returns-in-Some
returns-in-Some c = last _ _ c.args.address c.in-Some.pointer (sym c.pointer_at.ensures.value ∙ c.in-Some.is)

pub returns-in-None : goal.returns-in-None
returns-in-None c = no_last _ _ c.args.address (sym c.pointer_at.ensures.value ∙ c.in-None.is)

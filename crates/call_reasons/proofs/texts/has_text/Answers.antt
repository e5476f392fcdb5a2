use Rattle.std.proofs.Common.{◌∙◌}
use Rattle.call_reasons.proofs.Reading.{told_there}
use Rattle.call_reasons.proofs.texts.has_text.Goals as goal

pub returns : goal.returns
returns c = c.is_some.ensures ∙ told_there c.text_at.result (λ text. text.items) _ c.text_at.ensures.found c.text_at.ensures.none

use Rattle.std.proofs.Common.{arith, sym, ◌∙◌}
use Rattle.call_lines.proofs.Reading.{last_letter, more_letters, no_letter_there, no_letters, text_ends}
use Rattle.call_lines.proofs.memory.+push_text.Goals as goal

pub returns-then-most-eq0 : goal.returns-then-most-eq0
returns-then-most-eq0 t c = no_letters _ _ _ _ _ c.if-most-eq0.true

pub returns-in_default : goal.returns-in_default
returns-in_default t c = no_letter_there _ _ _ _ _ (sym c.read_at.ensures ∙ c.in_default.is)

pub returns-then-byte-eq0 : goal.returns-then-byte-eq0
returns-then-byte-eq0 t c = text_ends _ _ _ _ c.in-Some.byte _ (sym c.read_at.ensures ∙ c.in-Some.is) c.if-byte-eq0.true

pub returns-in-Some-checked_add : goal.returns-in-Some-checked_add
returns-in-Some-checked_add t c =
    more_letters c.push_text.result _ _ _ _ c.in-Some-checked_add.next c.in-Some.byte _ _ _ (omega (arith, c.if-most-eq0.false)) (sym c.read_at.ensures ∙ c.in-Some.is) c.if-byte-eq0.false
    (omega (arith, c.in-Some-checked_add.ensures.1)) (omega (arith, c.in-Some-checked_add.ensures.0, c.in-Some-checked_add.ensures.1)) c.in-Ok.ensures.items c.push_text.ensures

pub returns-in-None : goal.returns-in-None
returns-in-None t c =
    last_letter _ _ _ _ c.in-Some.byte _ _ (omega (arith, c.if-most-eq0.false)) (sym c.read_at.ensures ∙ c.in-Some.is) c.if-byte-eq0.false (omega (arith, c.in-None.ensures)) c.in-Ok.ensures.items

use Rattle.std.proofs.Common.{arith, sym, ◌∙◌}
use Rattle.call_lines.proofs.Reading.{last_text, more_texts, no_address, no_texts, texts_end}
use Rattle.call_lines.proofs.line.Lines.+show_texts.Goals as goal

pub returns-then-most-eq0 : goal.returns-then-most-eq0
returns-then-most-eq0 t c = no_texts _ _ _ _ _ _ _ c.if-most-eq0.true

pub returns-in_default : goal.returns-in_default
returns-in_default t c = no_address c.show_missing.result _ _ _ _ _ _ _ _ (omega (arith, c.if-most-eq0.false)) (sym c.in_ok-text.ensures ∙ c.in_default.is) c.show_missing.ensures

pub returns-then-text-eq0 : goal.returns-then-text-eq0
returns-then-text-eq0 t c = texts_end _ _ _ _ _ _ c.in-Some.text _ (sym c.in_ok-text.ensures ∙ c.in-Some.is) c.if-text-eq0.true

pub returns-in-Some-checked_add : goal.returns-in-Some-checked_add
returns-in-Some-checked_add t c =
    more_texts c.show_texts.result _ _ _ _ _ _ c.in-Some.text c.in-Some-checked_add.next _ _ _ (omega (arith, c.if-most-eq0.false)) (sym c.in_ok-text.ensures ∙ c.in-Some.is) c.if-text-eq0.false
    (omega (arith, c.in-Some-checked_add.ensures.1)) (omega (arith, c.in-Some-checked_add.ensures.0, c.in-Some-checked_add.ensures.1)) c.in_ok-show_among.ensures c.show_texts.ensures

pub returns-in-None : goal.returns-in-None
returns-in-None t c =
    last_text _ _ _ _ _ _ c.in-Some.text _ _ (omega (arith, c.if-most-eq0.false)) (sym c.in_ok-text.ensures ∙ c.in-Some.is) c.if-text-eq0.false
    (omega (arith, c.in-None.ensures)) c.in_ok-show_among.ensures

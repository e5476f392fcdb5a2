-- The first events of a record, line by line.
use Rattle.std.proofs.Common.{◌≡◌, ◌∙◌, ℕ, ◌+◌, ◌-◌, ◌<◌, List, ◌++◌, length, take, get_or, sym, ap, arith, length-append}
use Rattle.kernel_spec.specs.runs.Run.{Event}
use Rattle.xv_record.specs.declared.line.Line.{Line}
use Rattle.xv_live.specs.Plays.{events_of_line, events_of_lines}
use Rattle.xv_live.proofs.Lines.{lines-more}
use Rattle.xv_session.proofs.Spans.{take-both}

module _ (lines : List Line) (i : ℕ) (d : Line) (below : i < length lines) (most : ℕ) where
  abbrev pub before : List Event
  before = events_of_lines (take i lines)

  abbrev pub now : List Event
  now = events_of_line (get_or lines i d)

  -- one line more of the first events
  pub first-more : (kept next : List Line) (left : ℕ) → events_of_lines kept ≡ take most before → left ≡ most - length before
      → events_of_lines next ≡ events_of_lines kept ++ take left now → events_of_lines next ≡ take most (events_of_lines (take (i + 1) lines))
  first-more kept next left are is more =
      more ∙ (ap (λ (es : List Event). es ++ take left now) are ∙ (ap (λ (m : ℕ). take most before ++ take m now) is
      ∙ (sym (take-both most before now) ∙ ap (λ (es : List Event). take most es) (sym (lines-more lines i d below)))))

  -- and those that are wanted beside them
  pub left-more : (left count next : ℕ) → left ≡ most - length before → count ≡ length now → next ≡ left - count → next ≡ most - length (events_of_lines (take (i + 1) lines))
  left-more left count next is counted sub =
      let both : length (events_of_lines (take (i + 1) lines)) ≡ length before + length now = ap (λ (es : List Event). length es) (lines-more lines i d below) ∙ length-append before now in
      omega (arith, is, counted, sub, both)

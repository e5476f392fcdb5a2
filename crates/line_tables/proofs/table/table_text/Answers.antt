use Rattle.std.proofs.Common.{◌∙◌, ℕ, List, Result, ap, subst}
use Rattle.line_tables.specs.declared.error.TableError.{TableError}
use Rattle.line_tables.specs.declared.fact.Fact.TheVariants.{NoLine, NoFrame}
use Rattle.line_tables.specs.Facts.{facts_of}
use Rattle.line_tables.specs.Texts.{IsMade}
use Rattle.line_tables.proofs.Whole.{whole}
use Rattle.line_tables.proofs.table.table_text.Goals as goal

pub returns : goal.returns
returns c =
    let s = c.sections_of-sections in
    subst (λ (read : Result (List ℕ) TableError). IsMade c.write_text.result read)
    (whole c.args.file.now s.result.symbols.now s.result.names.now s.result.lines.now s.result.line_strings.now s.result.strings.now s.result.frames.now
    c.in_ok-lines.lines.items c.in_ok-frames.frames.items c.as_slice-3.result.now c.as_slice-4.result.now c.as_slice-5.result.now
    s.ensures.symbols s.ensures.names s.ensures.lines s.ensures.line_strings s.ensures.strings s.ensures.frames c.in_ok-lines.ensures c.in_ok-frames.ensures
    (c.as_slice-3.ensures.value ∙ c.in_ok-names.ensures)
    (c.as_slice-4.ensures.value ∙ c.in_ok-lines-2.ensures ∙ ap (facts_of NoLine) c.as_slice.ensures.value)
    (c.as_slice-5.ensures.value ∙ c.in_ok-frames-2.ensures ∙ ap (facts_of NoFrame) c.as_slice-2.ensures.value))
    c.write_text.ensures

use Rattle.std.proofs.Common.{◌∙◌, ap}
use Rattle.elf_symbols.specs.Sections.{section_bytes}
use Rattle.line_tables.proofs.sections.sections_of.Goals as goal

pub returns-clause-lines : goal.returns-clause-lines
returns-clause-lines c = c.section_bytes-3.ensures ∙ ap (section_bytes c.args.file.now) c.as_slice-3.ensures

pub returns-clause-line_strings : goal.returns-clause-line_strings
returns-clause-line_strings c = c.section_bytes-4.ensures ∙ ap (section_bytes c.args.file.now) c.as_slice-4.ensures

pub returns-clause-frames : goal.returns-clause-frames
returns-clause-frames c = c.section_bytes-6.ensures ∙ ap (section_bytes c.args.file.now) c.as_slice-6.ensures

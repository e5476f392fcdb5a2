use Rattle.debug_info.proofs.Prelude.{◌∙◌, ap}
use Rattle.elf_symbols.specs.Sections.{section_bytes}
use Rattle.debug_info.proofs.sections.sections_of.Goals as goal

pub returns : goal.returns
returns c = record {
  info = c.section_bytes.ensures ∙ ap (section_bytes c.args.file.now) c.as_slice.ensures;
  abbreviations = c.section_bytes-2.ensures ∙ ap (section_bytes c.args.file.now) c.as_slice-2.ensures;
  strings = c.section_bytes-3.ensures ∙ ap (section_bytes c.args.file.now) c.as_slice-3.ensures;
  line_strings = c.section_bytes-4.ensures ∙ ap (section_bytes c.args.file.now) c.as_slice-4.ensures;
  string_offsets = c.section_bytes-5.ensures ∙ ap (section_bytes c.args.file.now) c.as_slice-5.ensures;
  addresses = c.section_bytes-6.ensures ∙ ap (section_bytes c.args.file.now) c.as_slice-6.ensures;
  locations = c.section_bytes-7.ensures ∙ ap (section_bytes c.args.file.now) c.as_slice-7.ensures;
  old_locations = c.section_bytes-8.ensures ∙ ap (section_bytes c.args.file.now) c.as_slice-8.ensures;
  ranges = c.section_bytes-9.ensures ∙ ap (section_bytes c.args.file.now) c.as_slice-9.ensures;
  old_ranges = c.section_bytes-10.ensures ∙ ap (section_bytes c.args.file.now) c.as_slice-10.ensures;
}

use Rattle.debug_info.proofs.Prelude.{◌∙◌, ap}
use Rattle.elf_symbols.specs.Sections.{section_bytes}
use Rattle.debug_info.proofs.frames.frame_section.Goals as goal

pub returns : goal.returns
returns c = c.section_bytes.ensures ∙ ap (section_bytes c.args.file.now) c.as_slice.ensures

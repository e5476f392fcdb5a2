-- The sections of a file that tables stand in (DWARF 5, section 7.4, and of version 4 the same).
use Rattle.std.specs.Prelude.{ℕ, List, ◌≡◌, codes}
use Rattle.elf_symbols.specs.Sections.{section_bytes}
use Rattle.debug_info.specs.declared.sections.Sections.{Sections}

-- each is the first section of its name; one that the file doesn't have has no bytes
pub record AreSectionsOf (file : List ℕ) (s : Sections) : Type 0 where
  pub info : s.info.now ≡ section_bytes file (codes ".debug_info")
  pub abbreviations : s.abbreviations.now ≡ section_bytes file (codes ".debug_abbrev")
  pub strings : s.strings.now ≡ section_bytes file (codes ".debug_str")
  pub line_strings : s.line_strings.now ≡ section_bytes file (codes ".debug_line_str")
  pub string_offsets : s.string_offsets.now ≡ section_bytes file (codes ".debug_str_offsets")
  pub addresses : s.addresses.now ≡ section_bytes file (codes ".debug_addr")
  pub locations : s.locations.now ≡ section_bytes file (codes ".debug_loclists")
  pub old_locations : s.old_locations.now ≡ section_bytes file (codes ".debug_loc")
  pub ranges : s.ranges.now ≡ section_bytes file (codes ".debug_rnglists")
  pub old_ranges : s.old_ranges.now ≡ section_bytes file (codes ".debug_ranges")

-- What a reader of a program's source needs of the tables of a file, as a text.
use Rattle.std.specs.Prelude.{ℕ, List, [], codes, None, Result, Ok, Err}
use Rattle.dwarf.specs.declared.fault.Fault.{Fault}
use Rattle.line_tables.specs.declared.error.TableError.{TableError}
use Rattle.line_tables.specs.declared.error.TableError.TheVariants as errors
use Rattle.line_tables.specs.declared.fact.Fact.TheVariants.{NoLine, NoFrame}
use Rattle.line_tables.specs.declared.fact.Told.{Told}
use Rattle.line_tables.specs.Facts as known
use Rattle.line_tables.specs.Facts.{facts_of}
use Rattle.line_tables.specs.FactsText.{Reads, source_name, with_facts}
use Rattle.line_tables.specs.Frames.{section_frames}
use Rattle.line_tables.specs.Lines.{section_lines}
use Rattle.line_tables.specs.Names as labels
use Rattle.line_tables.specs.Names.{names_of}
use Rattle.line_tables.specs.NamesText.{with_names}
use Rattle.elf_symbols.specs.Sections.{section_bytes}
use Rattle.line_tables.specs.Texts.{◌>>=◌}

-- a fault of a table, with the table's name
abbrev pub faulted : {A : Type 0} → (Fault → TableError) → Result A Fault → Result A TableError
faulted name (Ok x) = Ok x
faulted name (Err f) = Err (name f)

abbrev pub lines_in : List ℕ → Result (List Told) TableError
lines_in section = faulted errors.Lines (section_lines section)

abbrev pub frames_in : List ℕ → Result (List Told) TableError
frames_in section = faulted errors.Frames (section_frames section)

-- functions and labels, then lines, then frames; names: their section, and how names of sources are read
unfoldable pub written : List ℕ → Reads → labels.Entries → known.Entries → known.Entries → Result (List ℕ) TableError
written section reads names lines frames =
    with_names section names [] >>= λ named. with_facts reads None lines named >>= λ lined. with_facts reads None frames lined

unfoldable pub table_text : List ℕ → Result (List ℕ) TableError
table_text file =
    let reads = source_name (section_bytes file (codes ".debug_line")) (section_bytes file (codes ".debug_line_str")) (section_bytes file (codes ".debug_str")) in
    lines_in (section_bytes file (codes ".debug_line")) >>= λ lines. frames_in (section_bytes file (codes ".debug_frame")) >>= λ frames.
    written (section_bytes file (codes ".strtab")) reads (names_of (section_bytes file (codes ".symtab"))) (facts_of NoLine lines) (facts_of NoFrame frames)

-- The whole text, of the sections and rows that were read.
use Rattle.std.proofs.Common.{◌≡◌, ℕ, ◌∙◌, List, Result, Ok, codes, sym, ap}
use Rattle.line_tables.specs.declared.error.TableError.{TableError}
use Rattle.line_tables.specs.declared.fact.Fact.TheVariants.{NoLine, NoFrame}
use Rattle.line_tables.specs.declared.fact.Told.{Told}
use Rattle.line_tables.specs.Facts as known
use Rattle.line_tables.specs.Facts.{facts_of}
use Rattle.line_tables.specs.FactsText.{source_name}
use Rattle.line_tables.specs.Names as labels
use Rattle.line_tables.specs.Names.{names_of}
use Rattle.elf_symbols.specs.Sections.{section_bytes}
use Rattle.line_tables.specs.Table.{frames_in, lines_in, table_text, written}
use Rattle.line_tables.specs.Texts.{◌>>=◌}

-- the sections of a file
abbrev in_names : List ℕ → List ℕ
in_names file = section_bytes file (codes ".strtab")

abbrev in_line_strings : List ℕ → List ℕ
in_line_strings file = section_bytes file (codes ".debug_line_str")

abbrev in_strings : List ℕ → List ℕ
in_strings file = section_bytes file (codes ".debug_str")

abbrev named : List ℕ → labels.Entries
named file = names_of (section_bytes file (codes ".symtab"))

-- what is written of rows
abbrev of_rows : List ℕ → List ℕ → List Told → List Told → Result (List ℕ) TableError
of_rows file section ls fs = written (in_names file) (source_name section (in_line_strings file) (in_strings file))
    (named file) (facts_of NoLine ls) (facts_of NoFrame fs)

-- of the rows that were read
abbrev of_read : List ℕ → List ℕ → Result (List Told) TableError → Result (List Told) TableError → Result (List ℕ) TableError
of_read file section ls fs = ls >>= λ l. fs >>= λ f. of_rows file section l f

whole_is : (file section table : List ℕ) (line_rows frame_rows : List Told) → section ≡ section_bytes file (codes ".debug_line") → table ≡ section_bytes file (codes ".debug_frame")
    → lines_in section ≡ Ok line_rows → frames_in table ≡ Ok frame_rows → of_rows file section line_rows frame_rows ≡ table_text file
unfolding table_text
whole_is file section table line_rows frame_rows section_is table_is ls fs =
    sym (ap (λ (r : Result (List Told) TableError). of_read file section r (frames_in table)) ls ∙ ap (λ (r : Result (List Told) TableError). of_read file section (Ok line_rows) r) fs)
    ∙ ap (λ (s : List ℕ). of_read file s (lines_in s) (frames_in table)) section_is
    ∙ ap (λ (t : List ℕ). of_read file (section_bytes file (codes ".debug_line")) (lines_in (section_bytes file (codes ".debug_line"))) (frames_in t)) table_is

pub whole : (file symbols names lines line_strings strings frames : List ℕ) (line_rows frame_rows : List Told) (a : labels.Entries) (l f : known.Entries)
    → symbols ≡ section_bytes file (codes ".symtab") → names ≡ section_bytes file (codes ".strtab") → lines ≡ section_bytes file (codes ".debug_line")
    → line_strings ≡ section_bytes file (codes ".debug_line_str") → strings ≡ section_bytes file (codes ".debug_str") → frames ≡ section_bytes file (codes ".debug_frame")
    → lines_in lines ≡ Ok line_rows → frames_in frames ≡ Ok frame_rows → a ≡ names_of symbols → l ≡ facts_of NoLine line_rows → f ≡ facts_of NoFrame frame_rows
    → written names (source_name lines line_strings strings) a l f ≡ table_text file
whole file symbols names lines line_strings strings frames line_rows frame_rows a l f symbols_is names_is lines_is line_strings_is strings_is frames_is read_lines read_frames a_is l_is f_is =
    ap (λ (n : List ℕ). written n (source_name lines line_strings strings) a l f) names_is
    ∙ ap (λ (t : List ℕ). written (in_names file) (source_name lines t strings) a l f) line_strings_is
    ∙ ap (λ (t : List ℕ). written (in_names file) (source_name lines (in_line_strings file) t) a l f) strings_is
    ∙ ap (λ (x : labels.Entries). written (in_names file) (source_name lines (in_line_strings file) (in_strings file)) x l f) (a_is ∙ ap names_of symbols_is)
    ∙ ap (λ (x : known.Entries). written (in_names file) (source_name lines (in_line_strings file) (in_strings file)) (named file) x f) l_is
    ∙ ap (λ (x : known.Entries). written (in_names file) (source_name lines (in_line_strings file) (in_strings file)) (named file) (facts_of NoLine line_rows) x) f_is
    ∙ whole_is file lines frames line_rows frame_rows lines_is frames_is read_lines read_frames

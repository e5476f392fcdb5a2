-- Worked cases of the rows of .debug_line that tell of a program's instructions.
use Rattle.std.proofs.Common.{◌≡◌, ℕ, List, [], ◌∷◌, ◌++◌, true, false, Some, None, refl}
use Rattle.dwarf.specs.declared.entry.Entry.{Entry}
use Rattle.dwarf.specs.declared.entry.Text.TheVariants.{Here}
use Rattle.dwarf.specs.declared.row.Row.{Row}
use Rattle.dwarf.specs.Registers.{first}
use Rattle.line_tables.specs.declared.fact.Fact.TheVariants.{Line, NoLine}
use Rattle.line_tables.specs.declared.fact.Told.{Told}
use Rattle.line_tables.specs.Lines.{is_told, sequences, told_by, with_rows}

abbrev named : ℕ → Entry
named place = record { name = Some (Here place); directory = 0; next = 0 }

abbrev files : List Entry
files = named 40 ∷ named 50 ∷ []

abbrev at : ℕ → ℕ → Row
at address line = record (first true) { address = address; line = line }

abbrev end : ℕ → Row
end address = record (first true) { address = address; line = 9; end_sequence = true }

abbrev told : ℕ → ℕ → Told
told address line = record { address = address; is_end = false; fact = Line (record { file = Here 50; line = line }) }

abbrev ended : ℕ → Told
ended address = record { address = address; is_end = true; fact = NoLine }

-- the file of number 1 is the second one of version 5, and the first one of version 4
pub file_of_version_5 : told_by 5 files (at 0x10 3) ≡ told 0x10 3
file_of_version_5 = refl

pub file_of_version_4 : told_by 4 files (at 0x10 3) ≡ record { address = 0x10; is_end = false; fact = Line (record { file = Here 40; line = 3 }) }
file_of_version_4 = refl

-- no line is known of line 0, of a file that isn't there, of one without a name, and at the end of a sequence
pub line_0 : told_by 5 files (at 0x10 0) ≡ record { address = 0x10; is_end = false; fact = NoLine }
line_0 = refl

pub no_file : told_by 5 files (record (at 0x10 3) { file = 2 }) ≡ record { address = 0x10; is_end = false; fact = NoLine }
no_file = refl

pub no_name : told_by 5 (named 40 ∷ (record { name = None; directory = 0; next = 0 }) ∷ []) (at 0x10 3) ≡ record { address = 0x10; is_end = false; fact = NoLine }
no_name = refl

pub the_end : told_by 5 files (end 0x10) ≡ ended 0x10
the_end = refl

-- two sequences, and a row after them that is of none
pub two_sequences : sequences (told 0 3 ∷ told 4 5 ∷ ended 8 ∷ told 8 6 ∷ ended 12 ∷ told 12 7 ∷ []) ≡ (told 0 3 ∷ told 4 5 ∷ ended 8 ∷ []) ∷ (told 8 6 ∷ ended 12 ∷ []) ∷ []
two_sequences = refl

-- a sequence that begins at 0 tells of instructions only if it is the first; one without instructions never does
pub first_at_0 : is_told true (told 0 3 ∷ ended 8 ∷ []) ≡ true
first_at_0 = refl

pub later_at_0 : is_told false (told 0 3 ∷ ended 8 ∷ []) ≡ false
later_at_0 = refl

pub later_above_0 : is_told false (told 4 3 ∷ ended 8 ∷ []) ≡ true
later_above_0 = refl

pub no_instructions : is_told true (told 4 3 ∷ ended 4 ∷ []) ≡ false
no_instructions = refl

-- so of these rows, which follow others, the first sequence and the third are of functions that the linker left out
pub left_out : with_rows 5 files (at 0 3 ∷ end 8 ∷ at 8 6 ∷ end 12 ∷ at 0 7 ∷ end 0 ∷ []) (told 0 2 ∷ ended 8 ∷ []) ≡ told 0 2 ∷ ended 8 ∷ told 8 6 ∷ ended 12 ∷ []
left_out = refl

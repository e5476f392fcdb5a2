-- Worked cases of the rows of the text.
use Rattle.std.proofs.Common.{◌≡◌, ℕ, List, [], ◌∷◌, ◌++◌, Ok, Err, Some, None, true, false, codes, refl}
use Rattle.dwarf.specs.declared.entry.Text.TheVariants.{Here, LineStrings, Strings}
use Rattle.dwarf.specs.Texts as strings
use Rattle.std.specs.Fmt.{digits}
use Rattle.line_tables.specs.declared.error.TableError.TheVariants as errors
use Rattle.line_tables.specs.declared.fact.FrameBase.TheVariants.{Sp, S0}
use Rattle.line_tables.specs.declared.fact.Fact.{Fact}
use Rattle.line_tables.specs.declared.fact.Fact.TheVariants.{Line, NoLine, Framed, NoFrame}
use Rattle.line_tables.specs.declared.names.Named.{Named}
use Rattle.line_tables.specs.FactsText.{fact_row, source_name, with_fact, with_facts, with_source}
use Rattle.line_tables.specs.NamesText.{with_name, with_names}
use Rattle.line_tables.specs.Texts.{name_in}

-- two names, of which the second has a blank, and one that doesn't end
abbrev names : List ℕ
names = codes "main" ++ 0 ∷ codes "a b" ++ 0 ∷ codes "no end"

pub whole_name : name_in names 0 33 ≡ Ok (codes "main")
unfolding strings.name_at
whole_name = refl

pub blank_in_name : name_in names 5 33 ≡ Err (errors.Name 5)
unfolding strings.name_at
blank_in_name = refl

-- a source's name may have blanks
pub blank_in_source : name_in names 5 32 ≡ Ok (codes "a b")
unfolding strings.name_at
blank_in_source = refl

pub empty_name : name_in names 4 33 ≡ Err (errors.Name 4)
unfolding strings.name_at
empty_name = refl

pub endless_name : name_in names 9 32 ≡ Err (errors.Name 9)
unfolding strings.name_at
endless_name = refl

-- neither the byte that ends a line nor the one that deletes is shown
pub lines_in_name : name_in (97 ∷ 10 ∷ 98 ∷ 0 ∷ []) 0 32 ≡ Err (errors.Name 0)
unfolding strings.name_at
lines_in_name = refl

pub deleted_name : name_in (97 ∷ 127 ∷ 0 ∷ []) 0 32 ≡ Err (errors.Name 0)
unfolding strings.name_at
deleted_name = refl

abbrev function : Named
function = record { is_function = true; size = 12; name = 0 }

abbrev label : Named
label = record { is_function = false; size = 0; name = 0 }

-- functions and labels: the last label, of which isn't known how far it goes, has no row
pub rows_of_names : with_names names ((4, label) ∷ (20, function) ∷ (40, label) ∷ []) (codes "?") ≡ Ok (codes "?label 4 16 main\nfunction 20 12 main\n")
unfolding with_name strings.name_at digits
rows_of_names = refl

abbrev line : ℕ → ℕ → Fact
line file n = Line (record { file = LineStrings file; line = n })

-- the name of a source stands before its first row, and again after rows of another
pub rows_of_lines : with_facts (source_name [] (codes "a.c" ++ 0 ∷ codes "b.c" ++ 0 ∷ []) []) None ((0, line 0 3) ∷ (4, line 0 5) ∷ (8, NoLine) ∷ (12, line 4 7) ∷ (16, line 0 1) ∷ []) []
    ≡ Ok (codes "file a.c\n0 3\n4 5\n8 0\nfile b.c\n12 7\nfile a.c\n16 1\n")
unfolding with_fact with_source strings.name_at digits
rows_of_lines = refl

-- names stand in the section that the table says
pub in_this_section : source_name (codes "l" ++ 0 ∷ []) (codes "s" ++ 0 ∷ []) (codes "d" ++ 0 ∷ []) (Here 0) ≡ Ok (codes "l")
unfolding strings.name_at
in_this_section = refl

pub in_strings_of_lines : source_name (codes "l" ++ 0 ∷ []) (codes "s" ++ 0 ∷ []) (codes "d" ++ 0 ∷ []) (LineStrings 0) ≡ Ok (codes "s")
unfolding strings.name_at
in_strings_of_lines = refl

pub in_strings : source_name (codes "l" ++ 0 ∷ []) (codes "s" ++ 0 ∷ []) (codes "d" ++ 0 ∷ []) (Strings 0) ≡ Ok (codes "d")
unfolding strings.name_at
in_strings = refl

pub row_of_frame : fact_row 8 (Framed (record { base = S0; size = 32; ra = 8; s0 = 16 })) ≡ codes "frame 8 s0 32 8 16"
unfolding digits
row_of_frame = refl

pub row_of_no_frame : fact_row 8 NoFrame ≡ codes "frame 8 - 0 0 0"
unfolding digits
row_of_no_frame = refl

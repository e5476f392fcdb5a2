-- Worked tables of directories and files.
use Rattle.dwarf.proofs.Prelude.{[], ℕ, ◌++◌, ◌∷◌, ◌≡◌, Err, false, items, leb_bytes, List, None, offset, Ok, refl, replicate, Some, take, true, unsigned}
use Rattle.dwarf.specs.Files.{entry_next, field, fields, file_of, new_list, new_tables, number_value, old_directory, old_file, old_tables, other_value, place_of, value, with_field}
use Rattle.dwarf.specs.Texts.{name_at, past_text}
use Rattle.dwarf.specs.declared.entry.Entry.{Entry}
use Rattle.dwarf.specs.declared.entry.Text.TheVariants.{Here, LineStrings, Strings}
use Rattle.dwarf.specs.declared.fault.Fault.TheVariants as faults

-- the directory "d", and the file "a" in it, as versions 2 to 4 write them
abbrev pub of_four : List ℕ
of_four = (100 ∷ 0 ∷ 0 ∷ []) ++ (97 ∷ 0 ∷ 1 ∷ 0 ∷ 0 ∷ []) ++ 0 ∷ []

abbrev pub a_in_d : Entry
a_in_d = record { name = Some (Here 3); directory = 1; next = 8 }

read_of_four : old_tables of_four 0 ≡ Ok ((record { name = Some (Here 0); directory = 0; next = 2 }) ∷ [], a_in_d ∷ [])
unfolding items old_directory old_file past_text unsigned leb_bytes
read_of_four = refl

-- without the last byte the list of files doesn't end
without_end : old_tables (take 8 of_four) 0 ≡ Err (faults.Short 8)
unfolding items old_directory old_file past_text unsigned leb_bytes
without_end = refl

-- without directories and files two zero bytes are left
of_none : old_tables (0 ∷ 0 ∷ []) 0 ≡ Ok ([], [])
unfolding items old_directory old_file past_text unsigned leb_bytes
of_none = refl

-- Version 5: the directory "d"; two files with their names in .debug_line_str and the number of their directory in a byte.
abbrev pub of_five : List ℕ
of_five = (1 ∷ 1 ∷ 8 ∷ 1 ∷ 100 ∷ 0 ∷ []) ++ (2 ∷ 1 ∷ 0x1F ∷ 2 ∷ 0x0B ∷ 2 ∷ []) ++ (5 ∷ 0 ∷ 0 ∷ 0 ∷ 0 ∷ []) ++ (9 ∷ 0 ∷ 0 ∷ 0 ∷ 1 ∷ [])

abbrev pub files_of_five : List Entry
files_of_five = (record { name = Some (LineStrings 5); directory = 0; next = 17 }) ∷ (record { name = Some (LineStrings 9); directory = 1; next = 22 }) ∷ []

read_of_five : new_tables of_five false 0 ≡ Ok ((record { name = Some (Here 4); directory = 0; next = 6 }) ∷ [], files_of_five)
unfolding items new_list field with_field value other_value number_value past_text unsigned leb_bytes offset
read_of_five = refl

-- in the 64-bit format an offset has 8 bytes; a sum of 16 bytes and a block are passed over; a name in .debug_str
others : new_list ((3 ∷ 5 ∷ 0x1E ∷ 3 ∷ 9 ∷ 1 ∷ 0x0E ∷ 1 ∷ []) ++ replicate 16 7 ++ (2 ∷ 7 ∷ 7 ∷ []) ++ (4 ∷ 0 ∷ 0 ∷ 0 ∷ 0 ∷ 0 ∷ 0 ∷ 0 ∷ [])) true 0
    ≡ Ok ((record { name = Some (Strings 4); directory = 0; next = 35 }) ∷ [], 35)
unfolding items new_list field with_field value other_value number_value past_text unsigned leb_bytes offset
others = refl

-- entries without fields, and a form that isn't known
without_fields : new_list (0 ∷ 1 ∷ []) false 0 ≡ Err (faults.Format 0)
unfolding items new_list unsigned leb_bytes
without_fields = refl

of_no_entries : new_list (0 ∷ 0 ∷ []) false 0 ≡ Ok ([], 2)
unfolding items new_list unsigned leb_bytes
of_no_entries = refl

unknown_form : new_list (1 ∷ 1 ∷ 0x25 ∷ 1 ∷ 0 ∷ []) false 0 ≡ Err (faults.Form 4)
unfolding items new_list field with_field value other_value number_value past_text unsigned leb_bytes offset
unknown_form = refl

-- a row's file 1 is the first of version 4, and the second of version 5
first_of_four : file_of 4 (a_in_d ∷ []) 1 ≡ Some a_in_d
first_of_four = refl

none_of_four : file_of 4 (a_in_d ∷ []) 0 ≡ None
none_of_four = refl

second_of_five : file_of 5 files_of_five 1 ≡ Some (record { name = Some (LineStrings 9); directory = 1; next = 22 })
second_of_five = refl

-- a name ends before its zero byte; one that has none isn't a name
named : name_at (7 ∷ 97 ∷ 0 ∷ 98 ∷ []) 1 ≡ Ok (97 ∷ [])
unfolding name_at
named = refl

endless : name_at (7 ∷ 97 ∷ []) 1 ≡ Err (faults.Name 1)
unfolding name_at
endless = refl

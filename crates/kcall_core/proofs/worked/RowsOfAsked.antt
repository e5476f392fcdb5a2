-- Worked cases of what an open asks for.
use Rattle.kcall_core.proofs.Prelude.{[], ℕ, ◌∷◌, ◌≡◌, asked_in, codes, false, file_asked, List, name_asked, negsuc, new_pipe, no_slashes, None, pos, ProgramFile, Reading, refl, Shown_file}
use Rattle.kcall_core.proofs.Prelude.{Shown_pipe, Shown_terminal, Some, true}
use Rattle.kcall_core.specs.declared.kernel.opening.Asked.TheVariants.{Terminal, Program}
use Rattle.file_table.specs.declared.open_file.Target.TheVariants as on

abbrev file_of : List ℕ → ProgramFile
file_of name = record { name = name; bytes = [] }

abbrev programs : List ProgramFile
programs = file_of (codes "a") ∷ file_of (codes "b") ∷ file_of (codes "a") ∷ file_of (codes "console") ∷ []

-- ---- which program

second : name_asked programs (pos 0) (codes "b") ≡ Some (Program 1)
second = refl

slashes : name_asked programs (pos 0) (no_slashes (codes "//b")) ≡ Some (Program 1)
unfolding no_slashes
slashes = refl

-- the first of two programs of one name
first_of_two : name_asked programs (pos 0) (codes "a") ≡ Some (Program 0)
first_of_two = refl

unknown : name_asked programs (pos 0) (codes "ab") ≡ None
unknown = refl

slashes_alone : name_asked programs (pos 0) (no_slashes (codes "/")) ≡ None
unfolding no_slashes
slashes_alone = refl

-- the terminal's name, which no program has
terminal_name : name_asked programs (pos 0) (no_slashes (codes "/console")) ≡ Some (Terminal true false)
unfolding no_slashes
terminal_name = refl

longer_name : name_asked programs (pos 0) (codes "consoles") ≡ None
longer_name = refl

inner_name : name_asked programs (pos 0) (no_slashes (codes "a/console")) ≡ None
unfolding no_slashes
inner_name = refl

-- ---- in which mode

terminal_read : asked_in (pos 0) Shown_terminal ≡ Some (Terminal true false)
terminal_read = refl

terminal_written : asked_in (pos 1) Shown_terminal ≡ Some (Terminal false true)
terminal_written = refl

terminal_both : asked_in (pos 2) Shown_terminal ≡ Some (Terminal true true)
terminal_both = refl

terminal_neither : asked_in (pos 3) Shown_terminal ≡ None
terminal_neither = refl

terminal_below_0 : asked_in (negsuc 0) Shown_terminal ≡ None
terminal_below_0 = refl

program_read : asked_in (pos 0) (Shown_file 5 0) ≡ Some (Program 5)
program_read = refl

program_written : asked_in (pos 1) (Shown_file 5 0) ≡ None
program_written = refl

program_both : asked_in (pos 2) (Shown_file 5 0) ≡ None
program_both = refl

program_below_0 : asked_in (negsuc 0) (Shown_file 5 0) ≡ None
program_below_0 = refl

-- no name names a pipe
no_pipe : asked_in (pos 0) (Shown_pipe 0 Reading new_pipe) ≡ None
no_pipe = refl

-- ---- the open file

terminal_opened : file_asked (Terminal false true) ≡ record { target = on.Console; read = false; write = true }
terminal_opened = refl

program_opened : file_asked (Program 5) ≡ record { target = on.Program 5 0; read = true; write = false }
program_opened = refl

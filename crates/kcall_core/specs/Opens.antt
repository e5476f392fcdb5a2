-- What a process asks to open: the terminal, or a program's file (the xv6 book, "I/O and File descriptors" and "File descriptor layer").
use Rattle.std.specs.Prelude.{ℕ, ◌==◌, ℤ, pos, negsuc, not, if◌then◌else◌, List, Option, None, Some}
use Rattle.std.specs.Option.{option_and_then}
use Rattle.xk_base.specs.declared.limits.TheConstants.{MAXPATH}
use Rattle.xk_base.specs.Image.{Image}
use Rattle.file_table.specs.OpenFiles.{console_file, program_file}
use Rattle.file_table.specs.declared.open_file.OpenFile.{OpenFile}
use Rattle.proc_table.specs.declared.process.Call.{Call}
use Rattle.kernel_spec.specs.views.Words.{c_int}
use Rattle.kernel_spec.specs.rows.Buffers.{text_at, no_slashes}
use Rattle.kernel_spec.specs.views.State.{ProgramFile}
use Rattle.kernel_spec.specs.views.View.{Shown, Shown_terminal, Shown_file, Shown_pipe}
use Rattle.kernel_spec.specs.rows.Calls.{what_is_named, has_mode}
use Rattle.kcall_core.specs.declared.kernel.opening.Asked.{Asked}
use Rattle.kcall_core.specs.declared.kernel.opening.Asked.TheVariants.{Terminal, Program}

-- what a name asks for that names this, in a mode: 0 reads, 1 writes, 2 does both. No name names a pipe
abbrev pub asked_as : Shown → (mode : ℕ) → Option Asked
asked_as Shown_terminal mode = Some (Terminal (not (mode == 1)) (not (mode == 0)))
asked_as (Shown_file program offset) mode = Some (Program program)
asked_as (Shown_pipe name end pipe) mode = None

-- the same, where it has this mode
abbrev pub asked_in : (mode : ℤ) → Shown → Option Asked
asked_in (pos mode) shown = if has_mode shown mode then asked_as shown mode else None
asked_in (negsuc k) shown = None

-- what a name and a mode ask for
abbrev pub name_asked : List ProgramFile → ℤ → List ℕ → Option Asked
name_asked programs mode name = option_and_then (asked_in mode) (what_is_named name programs)

-- What a process asks to open, by the address of its path, whose leading slashes don't count, and the mode; nothing where a byte of the path can't be read, nothing has the name, or the mode isn't allowed
abbrev pub asked : List ProgramFile → Image → Call → Option Asked
asked programs image c = option_and_then (λ path. name_asked programs (c_int c.a1) (no_slashes path)) (text_at MAXPATH image c.a0)

-- the open file that this makes
abbrev pub file_asked : Asked → OpenFile
file_asked (Terminal read write) = console_file read write
file_asked (Program place) = program_file place

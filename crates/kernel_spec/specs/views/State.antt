-- The state of the kernel. Who runs and who sleeps stands apart, in `Turns`.
use Rattle.std.specs.Prelude.{ℕ, List, Option, None, Some}
use Rattle.std.specs.FinMap.{FinMap, get}
use Rattle.std.specs.Ordering.{nat_cmp}
use Rattle.xk_base.specs.declared.program.Program.{Program}
use Rattle.pipe_core.specs.Pipe.{Pipe}
use Rattle.console_core.specs.Lists.{Console}
use Rattle.file_table.specs.declared.open_file.OpenFile.{OpenFile}
use Rattle.kernel_spec.specs.views.Processes.{Process, Live, Alive}

-- a program of the machine: its name, and its file
pub record ProgramFile : Type 0 where
  pub name : List ℕ
  pub bytes : List ℕ

-- a program that the machine was booted with
abbrev pub named_file : Program → ProgramFile
named_file p = record { name = p.name.items; bytes = p.bytes.items }

pub record State : Type 0 where
  -- by pid
  pub processes : FinMap nat_cmp Process
  -- by their places in the table of open files
  pub files : FinMap nat_cmp OpenFile
  -- by the frames that keep them
  pub pipes : FinMap nat_cmp Pipe
  pub console : Console
  -- ticks, modulo 2^32
  pub clock : ℕ
  -- the pid of the next process
  pub next_pid : ℕ
  -- how many frames are free
  pub free : ℕ
  -- the programs that the machine was booted with
  pub programs : List ProgramFile

abbrev pub live_part : Option Process → Option Live
live_part (Some (Alive l)) = Some l
live_part _ = None

-- the process of this pid, if it is live
abbrev pub live : State → ℕ → Option Live
live s p = live_part (get s.processes p)

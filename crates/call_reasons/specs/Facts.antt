-- What the tests of calls ask: facts of a process, by its view.
use Rattle.std.specs.Prelude.{ℕ, ◌+◌, ◌==◌, ◌&&◌, ◌||◌, Bool, true, false, not, nat_le, is_none, is_some, option_map, List, Option, ℤ, pos, negsuc}
use Rattle.std.specs.List.{list_any}
use Rattle.xk_base.specs.declared.access.Access.{Access}
use Rattle.xk_base.specs.declared.access.Access.TheVariants.{Load, Store}
use Rattle.xk_base.specs.declared.limits.TheConstants.{ADDRESS_END, NOFILE}
use Rattle.xk_base.specs.Bytes.{image_byte}
use Rattle.xk_base.specs.Image.{Image}
use Rattle.xk_base.specs.Words.{count_below}
use Rattle.kernel_spec.specs.rows.Buffers.{reaches_touching}
use Rattle.kernel_spec.specs.rows.Calls.{has_child}
use Rattle.kernel_spec.specs.views.Programs.{program_named}
use Rattle.kernel_spec.specs.views.State.{ProgramFile}
use Rattle.kernel_spec.specs.views.View.{View, Descriptor, Shown, Shown_file, Shown_pipe, in_use}
use Rattle.call_reasons.specs.declared.opened.Opened.{Opened}

pub record Facts : Type 0 where
  -- the descriptor of a number, if it is in use
  pub opened : ℤ → Option Opened
  -- how many descriptors are free
  pub free_descriptors : ℕ
  -- whether all of so many bytes from an address on are its memory, which it may read, or write
  pub reads : (address count : ℕ) → Bool
  pub writes : (address count : ℕ) → Bool
  -- the byte at an address of its memory, and 0 if no page is there: so the kernel reads it
  pub byte : (address : ℕ) → ℕ
  -- how many bytes its memory has
  pub size : ℕ
  -- it has a child
  pub has_child : Bool
  -- a process has this pid
  pub is_pid : ℤ → Bool
  -- a program has this name
  pub is_program : (name : List ℕ) → Bool
  -- the bytes of that program's file
  pub file : (name : List ℕ) → Option (List ℕ)
  -- how many frames are free
  pub free : ℕ

-- ---- by a view

abbrev pub is_file : Shown → Bool
is_file (Shown_file program offset) = true
is_file _ = false

-- a pipe from which nobody can read
abbrev pub is_unread : Shown → Bool
is_unread (Shown_pipe name end pipe) = pipe.readers == 0
is_unread _ = false

abbrev pub opened_of : Descriptor → Opened
opened_of d = record { reads = d.read; writes = d.write; is_file = is_file d.shown; is_unread = is_unread d.shown }

-- All of so many bytes from an address on may be accessed, now or once their absent pages are there; 0 bytes may be anywhere. (No page lies from 2^38 on)
abbrev pub can_reach : Access → Image → (address count : ℕ) → Bool
can_reach access image address count = (count == 0) || nat_le (address + count) ADDRESS_END && reaches_touching access image address count

abbrev pub names_process : View → ℤ → Bool
names_process v (pos n) = not (n == 0) && list_any (λ p. n == p) v.pids
names_process v (negsuc k) = false

-- the bytes of the file of the program that has a name
abbrev pub file_named : (name : List ℕ) → List ProgramFile → Option (List ℕ)
file_named name programs = option_map (λ (p : ProgramFile). p.bytes) (program_named name programs)

abbrev pub facts_of : View → Facts
facts_of v = record {
  opened = λ number. option_map opened_of (in_use v number);
  free_descriptors = count_below (λ d. is_none (v.descriptors d)) NOFILE;
  reads = λ address count. can_reach Load v.image address count;
  writes = λ address count. can_reach Store v.image address count;
  byte = λ address. image_byte v.image address;
  size = v.image.size;
  has_child = has_child v;
  is_pid = λ number. names_process v number;
  is_program = λ name. is_some (program_named name v.programs);
  file = λ name. file_named name v.programs;
  free = v.free;
}

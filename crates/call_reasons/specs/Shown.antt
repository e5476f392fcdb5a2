-- What a machine shows of the facts of a process.
use Rattle.std.specs.Prelude.{◌≡◌, ℕ, ◌+◌, ◌-◌, ◌*◌, ◌==◌, ◌&&◌, ◌||◌, Bool, true, false, not, if◌then◌else◌, nat_lt, is_none, is_some, option_map, Option, None, Some, ℤ, pos, negsuc}
use Rattle.std.specs.List.{list_all, list_any, range_with_len}
use Rattle.std.specs.Option.{option_and_then}
use Rattle.std.specs.FinMap.{get, keys}
use Rattle.xk_base.specs.declared.access.Access.{Access}
use Rattle.xk_base.specs.declared.access.Access.TheVariants.{Load, Store}
use Rattle.xk_base.specs.declared.limits.TheConstants.{NOFILE}
use Rattle.xk_base.specs.Words.{count_below}
use Rattle.addr_space.specs.Absent.{is_absent}
use Rattle.addr_space.specs.Changes.{perm_of_page}
use Rattle.user_copy.specs.Reach.{allows}
use Rattle.file_table.specs.declared.open_file.Target.{Target}
use Rattle.file_table.specs.declared.open_file.Target.TheVariants.{Program as File, Pipe as Pipe_end}
use Rattle.proc_table.specs.declared.process.Call.{Call}
use Rattle.kernel_spec.specs.runs.Run.{World}
use Rattle.kernel_spec.specs.waking.Turns.{HasSlot}
use Rattle.kernel_spec.specs.views.Processes.{Live}
use Rattle.kernel_spec.specs.views.Programs.{program_named}
use Rattle.kernel_spec.specs.views.State.{State, live}
use Rattle.kernel_spec.specs.views.View.{view}
use Rattle.kernel_spec.specs.views.Words.{or_zero}
use Rattle.kcall_core.specs.Observers.{byte_at, child_at, descriptor_of, size_of}
use Rattle.kcall_core.specs.ObservedPipes.{pipe_counts_of}
use Rattle.kcall_core.specs.declared.kernel.observers.Descriptor.{Descriptor}
use Rattle.kcall_core.specs.declared.memories.piping.PipeCounts.{PipeCounts}
use Rattle.call_reasons.specs.Facts.{Facts, can_reach, facts_of, file_named}
use Rattle.call_reasons.specs.Reasons.{reason_told}
use Rattle.call_reasons.specs.declared.opened.Opened.{Opened}
use Rattle.call_reasons.specs.declared.reason.Reason.{Reason}

-- ---- descriptors

abbrev pub is_program : Target → Bool
is_program (File program offset) = true
is_program _ = false

-- a pipe from which nobody can read, by its counts; so is one that isn't there
abbrev pub counts_no_reader : Option PipeCounts → Bool
counts_no_reader None = true
counts_no_reader (Some counts) = counts.readers == 0

abbrev pub is_on_unread : State → Target → Bool
is_on_unread s (Pipe_end pipe end) = counts_no_reader (pipe_counts_of s pipe)
is_on_unread s _ = false

abbrev pub shown_as : State → Descriptor → Opened
shown_as s d = record { reads = d.open_file.read; writes = d.open_file.write; is_file = is_program d.open_file.target; is_unread = is_on_unread s d.open_file.target }

-- the descriptor of a number
abbrev pub opened_in : State → (p : ℕ) → ℤ → Option Opened
opened_in s p (pos d) = if nat_lt d NOFILE then option_map (shown_as s) (descriptor_of s p d) else None
opened_in s p (negsuc k) = None

abbrev pub is_free_in : State → (p d : ℕ) → Bool
is_free_in s p d = is_none (descriptor_of s p d)

-- ---- memory

-- a page of a live process may be accessed, now or once it is there
abbrev pub page_in : Access → Option Live → (page : ℕ) → Bool
page_in access None page = false
page_in access (Some l) page = is_absent l.image page || allows access (option_map perm_of_page (get l.image.pages page))

-- a page begins below the size of a memory, if there is one
abbrev pub is_below : (page : ℕ) → (size : Option ℕ) → Bool
is_below page None = false
is_below page (Some size) = nat_lt (4096 * page) size

-- so may all pages from the first to the last
abbrev pub pages_in : Access → Option Live → (first last : ℕ) → Bool
pages_in access o first last = list_all (page_in access o) (range_with_len first (last + 1 - first))

-- so may all of so many bytes from an address on
abbrev pub reach_in : Access → Option Live → (address count : ℕ) → Bool
reach_in access None address count = false
reach_in access (Some l) address count = can_reach access l.image address count

-- ---- processes

abbrev pub has_child_in : State → (p : ℕ) → Bool
has_child_in s p = list_any (λ q. is_some (child_at s p q)) (keys s.processes)

-- the process in a slot, if there is one, is no child of p
abbrev pub HasNoChildIn : World → (p slot : ℕ) → Type 0
HasNoChildIn w p slot = (q : ℕ) → HasSlot w.turns q slot → is_some (child_at w.state p q) ≡ false

abbrev pub is_pid_in : State → ℤ → Bool
is_pid_in s (pos n) = not (n == 0) && is_some (get s.processes n)
is_pid_in s (negsuc k) = false

-- ---- all of it

abbrev pub facts_in : State → (p : ℕ) → Facts
facts_in s p = record {
  opened = λ number. opened_in s p number;
  free_descriptors = count_below (is_free_in s p) NOFILE;
  reads = λ address count. reach_in Load (live s p) address count;
  writes = λ address count. reach_in Store (live s p) address count;
  byte = λ address. or_zero (byte_at s p address);
  size = or_zero (size_of s p);
  has_child = has_child_in s p;
  is_pid = λ number. is_pid_in s number;
  is_program = λ name. is_some (program_named name s.programs);
  file = λ name. file_named name s.programs;
  free = s.free;
}

-- Why a call of process p has answered so, as the view of p tells it; nothing if p isn't live
abbrev pub reason_in : State → (p : ℕ) → Call → (value : ℤ) → Option Reason
reason_in s p c value = option_and_then (λ v. reason_told c (facts_of v) value) (view s p)

-- What a step stores into the memory of its process, bytes from an address on: an instruction what its store has, a call what its row stores (`Calls`).
-- (An exec that succeeds makes another image, and isn't told here.)
use Rattle.std.specs.Prelude.{◌≡◌, ℕ, ◌+◌, ◌-◌, ◌<◌, ◌≤◌, if◌then◌else◌, [], length, slice_index, Option, None, Some, pos, negsuc}
use Rattle.rv64i_core.specs.Memory.{Store}
use Rattle.rv64i_core.specs.Step.{Step, Next, Ecall, Fault}
use Rattle.proc_table.specs.declared.process.Call.{Call}
use Rattle.kernel_spec.specs.rows.Touches.{instruction_now}
use Rattle.kernel_spec.specs.views.Words.{c_int, or_zero}
use Rattle.kernel_spec.specs.views.Processes.{Child}
use Rattle.kernel_spec.specs.rows.Tables.{lowest_free, lowest_free_above}
use Rattle.kernel_spec.specs.views.View.{View, Descriptor, Descriptors, in_use}
use Rattle.kernel_spec.specs.rows.Lines.{natural}
use Rattle.kernel_spec.specs.steps.Own.{Answer, Called}
use Rattle.kernel_spec.specs.rows.Calls.{Row, Wait, Pipe_row, Read, row_of, status_stored, ends_stored, read_stored}
use Rattle.kernel_spec.specs.steps.Step.{own, call_begun}

abbrev pub nothing_stored : Store
nothing_stored = record { address = 0; bytes = [] }

-- by a wait that comes to this answer: the status of the child that it answers
abbrev pub stored_by_wait : Call → (ℕ → Option Child) → Answer → Store
stored_by_wait c children (Called number (pos child)) = status_stored c (children child)
stored_by_wait c children _ = nothing_stored

-- the numbers that a pipe gives its ends: the lowest free one, and the lowest free one above it
abbrev pub next_ends : Call → Descriptors → Store
next_ends c t = let r = or_zero (lowest_free t) in ends_stored c r (or_zero (lowest_free_above t r))

-- by a pipe
abbrev pub stored_by_pipe : Call → Descriptors → Answer → Store
stored_by_pipe c t (Called number (pos value)) = next_ends c t
stored_by_pipe c t _ = nothing_stored

-- by a read that isn't refused, of the descriptor that it is on
abbrev pub stored_from : Call → View → Option Descriptor → Store
stored_from c v None = nothing_stored
stored_from c v (Some d) = read_stored c v (or_zero (natural (c_int c.a2))) d.shown

abbrev pub unless_refused : Answer → Store → Store
unless_refused (Called number (negsuc k)) stored = nothing_stored
unless_refused _ stored = stored

-- by the row of a call; the others store nothing
abbrev pub stored_by_row : Call → View → Option Row → Answer → Store
stored_by_row c v (Some Wait) answer = stored_by_wait c v.children answer
stored_by_row c v (Some Pipe_row) answer = stored_by_pipe c v.descriptors answer
stored_by_row c v (Some Read) answer = unless_refused answer (stored_from c v (in_use v (c_int c.a0)))
stored_by_row c v _ answer = nothing_stored

-- by an instruction; an ECALL begins a call, whose row is done in the same step
abbrev pub stored_by_instruction : View → Step → Answer → Store
stored_by_instruction v (Next regs None) answer = nothing_stored
stored_by_instruction v (Next regs (Some stored)) answer = stored
stored_by_instruction v Ecall answer = stored_by_row (call_begun v) v (row_of (call_begun v).number) answer
stored_by_instruction v (Fault cause) answer = nothing_stored

abbrev pub stored_in : View → Option Call → Answer → Store
stored_in v (Some c) answer = stored_by_row c v (row_of c.number) answer
stored_in v None answer = stored_by_instruction v (instruction_now v) answer

-- what the step of this view stores; a marked process ends, and stores nothing
abbrev pub stored_by : View → Store
stored_by v = if v.killed then nothing_stored else stored_in v v.call (own v).answer

-- a byte of these is at this address
abbrev pub Lies : Store → ℕ → Type 0
Lies s a = (s.address ≤ a) × (a < s.address + length s.bytes)

-- the step stores a byte at this address
abbrev pub IsStored : View → ℕ → Type 0
IsStored v a = Lies (stored_by v) a

-- and it is this byte
abbrev pub IsStoredAs : View → (a byte : ℕ) → Type 0
IsStoredAs v a byte = IsStored v a × (byte ≡ slice_index (stored_by v).bytes (a - (stored_by v).address))

-- What observers of a kernel are told of its pipes.
use Rattle.std.specs.Prelude.{ℕ, Option, None, Some, length, slice_get, option_map}
use Rattle.std.specs.FinMap.{get}
use Rattle.pipe_core.specs.Pipe.{Pipe}
use Rattle.kernel_spec.specs.views.State.{State}
use Rattle.kcall_core.specs.declared.memories.piping.PipeCounts.{PipeCounts}

-- how many descriptors are on each end of a pipe, and how many bytes are in it
abbrev pub counts_of : Pipe → PipeCounts
counts_of p = record { readers = p.readers; writers = p.writers; bytes = length p.bytes }

-- the byte at a place of a pipe, from the oldest on, if there is a pipe and it has so many
abbrev pub byte_of_pipe : ℕ → Option Pipe → Option ℕ
byte_of_pipe place None = None
byte_of_pipe place (Some p) = slice_get p.bytes place

-- the counts of the pipe of this name
abbrev pub pipe_counts_of : State → ℕ → Option PipeCounts
pipe_counts_of s f = option_map counts_of (get s.pipes f)

-- the byte at a place of the pipe of this name
abbrev pub pipe_byte_of : State → ℕ → ℕ → Option ℕ
pipe_byte_of s f place = byte_of_pipe place (get s.pipes f)

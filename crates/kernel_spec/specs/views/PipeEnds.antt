-- The ends of a pipe: how many descriptors are on each, how many bytes can be moved, and when a read or a write of it may go on (the xv6 book, "Code: Pipes").
use Rattle.std.specs.Prelude.{ℕ, ◌+◌, ◌-◌, Bool, length, min, nat_eq, nat_lt, ◌&&◌, ◌||◌}
use Rattle.xk_base.specs.declared.limits.TheConstants.{PIPE_BYTES}
use Rattle.pipe_core.specs.Pipe.{Pipe}
use Rattle.file_table.specs.declared.open_file.End.{End}
use Rattle.file_table.specs.declared.open_file.End.TheVariants.{Reading, Writing}

-- how many of n bytes can be taken
abbrev pub there : Pipe → ℕ → ℕ
there p n = min n (length p.bytes)

-- how many of n bytes fit
abbrev pub fit : Pipe → ℕ → ℕ
fit p n = min n (PIPE_BYTES - length p.bytes)

-- how many descriptors are on an end
abbrev pub count_on : End → Pipe → ℕ
count_on Reading p = p.readers
count_on Writing p = p.writers

-- n descriptors more on an end
abbrev pub joined : Pipe → End → ℕ → Pipe
joined p Reading n = record p { readers = p.readers + n }
joined p Writing n = record p { writers = p.writers + n }

-- n descriptors fewer
abbrev pub parted : Pipe → End → ℕ → Pipe
parted p Reading n = record p { readers = p.readers - n }
parted p Writing n = record p { writers = p.writers - n }

-- no descriptor is on it any more
abbrev pub is_given_up : Pipe → Bool
is_given_up p = nat_eq p.readers 0 && nat_eq p.writers 0

-- bytes to read, or nobody left to write any
abbrev pub has_bytes : Pipe → Bool
has_bytes p = nat_lt 0 (length p.bytes) || nat_eq p.writers 0

-- room to write, or nobody left to read
abbrev pub has_room : Pipe → Bool
has_room p = nat_lt (length p.bytes) PIPE_BYTES || nat_eq p.readers 0

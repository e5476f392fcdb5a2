-- The bytes of a pipe.
use Rattle.std.specs.Prelude.{ℕ, List, [], Option, None, Some}
use Rattle.std.specs.FinMap.{get}
use Rattle.pipe_core.specs.Pipe.{Pipe}
use Rattle.kernel_spec.specs.views.State.{State}

abbrev pub bytes_in : Option Pipe → List ℕ
bytes_in None = []
bytes_in (Some p) = p.bytes

-- those of the pipe in frame f, from the oldest on; none where there is no pipe
abbrev pub pipe_bytes : State → (f : ℕ) → List ℕ
pipe_bytes s f = bytes_in (get s.pipes f)

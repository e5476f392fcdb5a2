-- The names that are told of programs and of kernel calls.
use Rattle.std.specs.Prelude.{ℕ, List, Option, None, Some, option_map, slice_get}
use Rattle.kernel_spec.specs.rows.Calls.{Row}
use Rattle.kernel_calls.specs.Table.{entry_of}
use Rattle.kernel_calls.specs.Rows.{call_by}
use Rattle.kernel_spec.specs.views.State.{ProgramFile}
use Rattle.xv_session.specs.Names.{place_in}
use Rattle.xv_session.specs.Recorded.{Recorded}

-- the name of the program at a place
abbrev pub name_at : List ProgramFile → ℕ → Option (List ℕ)
name_at programs place = option_map (λ (f : ProgramFile). f.name) (slice_get programs place)

abbrev pub name_by : List ProgramFile → Option ℕ → Option (List ℕ)
name_by programs None = None
name_by programs (Some place) = name_at programs place

-- the name of the program that process p of a session runs
abbrev pub name_of : Recorded → ℕ → Option (List ℕ)
name_of s p = name_by s.machine.world.state.programs (place_in p s.names)

-- the name of the kernel call of a row
abbrev pub call_word : Row → List ℕ
call_word row = (entry_of (call_by row)).name

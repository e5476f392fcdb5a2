-- Processes by their pids, and the programs that they run.
use Rattle.std.specs.Prelude.{ℕ, ◌≤◌, min, slice_get, List, ◌++◌, codes, decimal, Option, None, Some, IsSome, option_map}
use Rattle.std.specs.FinMap.{get}
use Rattle.kernel_spec.specs.views.State.{State, ProgramFile}
use Rattle.xv_session.specs.Names.{place_in}
use Rattle.xv_session.specs.Recorded.{Recorded}

-- a process, a zombie too, has this pid
abbrev pub IsPid : State → ℕ → Type 0
IsPid s p = IsSome (get s.processes p)

-- the least pid of a process, from this number on; none where there is none
abbrev pub IsLeastFrom : State → (from : ℕ) → Option ℕ → Type 0
IsLeastFrom s from None = (q : ℕ) → from ≤ q → ¬ IsPid s q
IsLeastFrom s from (Some p) = (from ≤ p) × IsPid s p × ((q : ℕ) → from ≤ q → IsPid s q → p ≤ q)

-- the lesser of two numbers, if there are two
abbrev pub lesser : Option ℕ → Option ℕ → Option ℕ
lesser least None = least
lesser None (Some p) = Some p
lesser (Some found) (Some p) = Some (min found p)

abbrev pub nth_of : List ProgramFile → Option ℕ → Option ProgramFile
nth_of programs None = None
nth_of programs (Some place) = slice_get programs place

-- the program that a live process runs
abbrev pub program_in : Recorded → ℕ → Option ProgramFile
program_in s p = nth_of s.machine.world.state.programs (place_in p s.names)

-- and its name
abbrev pub name_in : Recorded → ℕ → Option (List ℕ)
name_in s p = option_map (λ (f : ProgramFile). f.name) (program_in s p)

-- what is written of a pid that no live process has
abbrev pub no_process : ℕ → List ℕ
no_process p = codes "no live process has the pid " ++ decimal p ++ codes "; ps lists them\n"

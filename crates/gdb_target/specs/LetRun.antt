-- Whom GDB lets run, and whose stops it is told meanwhile.
use Rattle.std.specs.Prelude.{ℕ, Bool, true, ◌==◌, Option, None, Some}
use Rattle.gdb_target.specs.Standing.{if_so}
use Rattle.gdb_target.specs.declared.let_run.LetRun.{LetRun}
use Rattle.gdb_target.specs.declared.let_run.LetRun.TheVariants.{All, Alone}

-- the stops of process p are told
abbrev pub lets : LetRun → (p : ℕ) → Bool
lets All p = true
lets (Alone only) p = only == p

-- this process, if its stops are told
abbrev pub if_let : LetRun → Option ℕ → Option ℕ
if_let let_run None = None
if_let let_run (Some p) = if_so (lets let_run p) p

-- of whom is told what concerns the run as a whole: the process that was let run alone, or else this one
abbrev pub teller : LetRun → (p : ℕ) → ℕ
teller All p = p
teller (Alone only) p = only

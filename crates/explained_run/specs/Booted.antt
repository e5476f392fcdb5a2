-- The machine of a run that was just booted.
use Rattle.std.specs.Prelude.{Result, Ok, Err}
use Rattle.xk_base.specs.declared.errors.BootError.{BootError}
use Rattle.xv_machine.specs.Meaning.{Meaning}
use Rattle.explained_run.specs.declared.explained.Explained.{Explained}

-- the machine, if there is one
abbrev pub machine_of : Result Explained BootError → Result Meaning BootError
machine_of (Err e) = Err e
machine_of (Ok x) = Ok x.running.machine

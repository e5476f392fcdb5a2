-- Whether there is anything for a machine to do.
use Rattle.std.specs.Prelude.{◌≡◌, ℕ, pos, None, Some}
use Rattle.proc_table.specs.declared.process.Call.{Call}
use Rattle.kernel_spec.specs.runs.Run.{World}
use Rattle.kernel_spec.specs.views.Processes.{Live}
use Rattle.kernel_spec.specs.views.State.{live}
use Rattle.xv_session.specs.Resting.{NobodyMayRun}

-- a Run does nothing: the machine has halted, or no process runs, and none may
abbrev pub RunsDoNothing : World → Type 0
RunsDoNothing w = w.turns.halted ≡ None → (w.turns.current ≡ None) × NobodyMayRun w

-- a live process is in the kernel call sleep (13), which waits for ticks
pub record WaitsForTicks (w : World) (p : ℕ) : Type 0 where
  pub process : Live
  pub lives : live w.state p ≡ Some process
  pub call : Call
  pub in_call : process.call ≡ Some call
  pub number : call.number ≡ pos 13

-- without a key nothing happens any more: Runs do nothing, and nobody waits for a tick
abbrev pub NothingHappens : World → Type 0
NothingHappens w = RunsDoNothing w × ((p : ℕ) → ¬ WaitsForTicks w p)

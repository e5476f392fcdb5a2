-- The processes that could wake a sleeper.
use Rattle.std.specs.Prelude.{◌≡◌, ℕ, ◌<◌, true, List, Contains}
use Rattle.std.specs.List.Sorted.{IsNonDecreasing}
use Rattle.kernel_spec.specs.runs.Run.{World}
use Rattle.kernel_spec.specs.views.WellFormed.{HasSlots}
use Rattle.kernel_spec.specs.waking.Turns.{HasSlot}
use Rattle.xv_report.specs.Waits.{could_wake}
use Rattle.xv_report.specs.declared.waits.Wait.{Wait}

-- Each of these could bring what process p waits for. All that could are among them, if each process has a slot of its own, as in every machine that was booted
pub record AreWakers (w : World) (p : ℕ) (wait : Wait) (pids : List ℕ) : Type 0 where
  pub only : (q : ℕ) → Contains pids q → could_wake w.state p wait q ≡ true
  pub all : HasSlots w.state w.turns → (q : ℕ) → could_wake w.state p wait q ≡ true → Contains pids q
  pub rising : IsNonDecreasing pids

-- the same of the processes in the first slots, in any order
pub record AreWakersBelow (slots : ℕ) (w : World) (p : ℕ) (wait : Wait) (pids : List ℕ) : Type 0 where
  pub only : (q : ℕ) → Contains pids q → could_wake w.state p wait q ≡ true
  pub all : HasSlots w.state w.turns → (q slot : ℕ) → slot < slots → HasSlot w.turns q slot → could_wake w.state p wait q ≡ true → Contains pids q

-- Who may run, as it is told.
use Rattle.std.proofs.Common.{◌≡◌, ◌∙◌, ℕ, Bool, true, false, not, Option, None, Some, is_some, option_map, refl, sym, ap}
use Rattle.std.specs.FinMap.{get}
use Rattle.std.specs.FinSet.{contains}
use Rattle.proc_table.specs.declared.process.Call.{Call}
use Rattle.kernel_spec.specs.runs.Run.{World}
use Rattle.kernel_spec.specs.views.Processes.{Live, Process, Alive, Zombie}
use Rattle.kernel_spec.specs.views.State.{live_part}
use Rattle.kernel_spec.specs.views.View.{view, view_of}
use Rattle.kernel_spec.specs.waking.Wakes.{IsRunnable}
use Rattle.kcall_core.specs.Observers.{process_at, told as told_as}
use Rattle.kcall_core.specs.declared.kernel.observers.ProcessState.{ProcessState}
use Rattle.kcall_core.specs.declared.kernel.observers.ProcessState.TheVariants as state

abbrev asleep_in : Option ProcessState → Bool
asleep_in (Some (state.Live parent killed call asleep)) = asleep
asleep_in _ = true

-- one that is told as a live one that doesn't sleep
pub may_run : (w : World) (p : ℕ) (r : Option ProcessState) (parent : Option ℕ) (killed : Bool) (call : Option Call) (asleep : Bool) → r ≡ process_at w p
    → r ≡ Some (state.Live parent killed call asleep) → not asleep ≡ true → IsRunnable w p
may_run w p r parent killed call asleep told is awake = by (get w.state.processes p) refl (contains w.turns.sleepers p) refl (sym told ∙ is)
  where
    by : (o : Option Process) → get w.state.processes p ≡ o → (b : Bool) → contains w.turns.sleepers p ≡ b → option_map (told_as b) o ≡ Some (state.Live parent killed call asleep) → IsRunnable w p
    by None e b f i = let bad : ⊥ = cc in absurd bad
    by (Some (Zombie q status)) e b f i = let bad : ⊥ = cc in absurd bad
    by (Some (Alive l)) e true f i = let same : true ≡ asleep = ap asleep_in i in let no : false ≡ true = ap not same ∙ awake in let bad : ⊥ = cc in absurd bad
    by (Some (Alive l)) e false f i =
        let seen : is_some (view w.state p) ≡ true = ap (λ (o : Option Process). is_some (option_map (view_of w.state p) (live_part o))) e in
        (seen, λ sleeps. let no : false ≡ true = sym f ∙ sleeps in let bad : ⊥ = cc in bad)

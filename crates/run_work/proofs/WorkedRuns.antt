-- Worked cases of what the exit status says of a run.
use Rattle.std.proofs.Common.{◌≡◌, ◌≢◌, ◌≤◌, ℕ, zero, suc, ℤ, pos, Bool, List, [], ◌∷◌, None, Some, String, arith, refl, rules, subst, sym, ap, ◌∙◌}
use Rattle.std.specs.Prelude.{string_bytes}
use Rattle.std.specs.declared.alloc.Global.{Global}
use Rattle.xk_base.specs.declared.program.Program.{Program}
use Rattle.kernel_spec.specs.runs.Rounds.{AreRounds}
use Rattle.kernel_spec.specs.runs.Run.{World, Event, Outcome}
use Rattle.kernel_spec.specs.waking.Wakes.{IsPromised}
use Rattle.program_files.specs.Programs.{AreProgramsIn, IsProgramIn}
use Rattle.program_files.specs.Statuses.{Devices}
use Rattle.xv_machine.specs.declared.driving.RunPlan.{RunPlan}
use Rattle.xv_machine.specs.declared.machine.Config.{Config}
use Rattle.xv_machine.specs.Meaning.{Meaning}
use Rattle.run_work.specs.Runs.{BrokenOff, EndsSo, IsStatusOfRun}

-- ---- the statuses

module _ (plan : RunPlan) (booted ended : Meaning) (before after : Devices) where
  success_is_an_exit_with_0 : EndsSo 0 plan booted ended before after → ended.world.turns.halted ≡ Some (pos 0)
  success_is_an_exit_with_0 ends = (ends.exited refl).1

  another_exit_is_3 : EndsSo 3 plan booted ended before after → (code : ℤ) × (code ≢ pos 0) × (ended.world.turns.halted ≡ Some code)
  another_exit_is_3 ends = let (code, other, (done, is)) = ends.exited_otherwise refl in (code, other, is)

  after_the_last_round_it_is_4 : EndsSo 4 plan booted ended before after → ended.world.turns.halted ≡ None
  after_the_last_round_it_is_4 ends = (ends.rounds_over refl).1

  a_budget_that_is_used_up_is_6 : EndsSo 6 plan booted ended before after → BrokenOff plan booted ended before after
  a_budget_that_is_used_up_is_6 ends = ends.over refl

-- ---- a run without rounds

no_event : (count quantum : ℕ) (keys : List ℕ) (halted : Bool) (list : List (Event × Outcome)) → count ≤ 0 → AreRounds count quantum keys halted list → list ≡ []
no_event zero quantum keys halted list less are = are
no_event (suc count) quantum keys halted list less are = absurd (omega (arith, less))

same_world : (w t : World) (list : List (Event × Outcome)) → list ≡ [] → IsPromised w list t → t ≡ w
same_world w t [] none promised = promised
same_world w t (x ∷ xs) none promised = cc

-- it is no success of a machine that runs
no_round_is_no_success : (quantum : ℕ) (booted ended : Meaning) (before after : Devices) → booted.world.turns.halted ≡ None
    → EndsSo 0 (record { rounds = 0; quantum = quantum }) booted ended before after → ⊥
no_round_is_no_success quantum booted ended before after live ends =
    let (done, is) = ends.exited refl in
    let none = no_event done.planned.0 quantum done.keys _ done.list done.planned.1 done.planned.2 in
    let same = same_world booted.world ended.world done.list none done.goes.run in
    let gone : None ≡ Some (pos 0) = sym live ∙ ap (λ (w : World). w.turns.halted) (sym same) ∙ is in
    search rules

-- ---- of a FILE

of_one : (path : String Global) (programs : List Program) → AreProgramsIn (path ∷ []) programs → (program : Program) × IsProgramIn (string_bytes path) None program
of_one path [] are = absurd are
of_one path (program ∷ []) are = (program, are.0)
of_one path (program ∷ other ∷ others) are = absurd are.1

-- what was run is the FILE's program
the_program_is_the_files : (config : Config) (plan : RunPlan) (path : String Global) → IsStatusOfRun 0 config plan (path ∷ [])
    → (program : Program) × IsProgramIn (string_bytes path) None program
the_program_is_the_files config plan path says = let (programs, before, after, are, run) = says (λ e. absurd (omega (arith, e))) in of_one path programs are

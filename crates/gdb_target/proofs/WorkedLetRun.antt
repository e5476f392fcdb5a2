-- Worked cases: whom GDB lets run, and whose stops it is told.
use Rattle.std.proofs.Common.{◌≡◌, None, Some, false, true, refl}
use Rattle.std.specs.Prelude.{pos}
use Rattle.kernel_spec.specs.runs.Run.{Step_of}
use Rattle.kernel_spec.specs.steps.Own.{Stepped, Exited, Faulted}
use Rattle.xk_base.specs.declared.access.Cause.TheVariants.{LoadPageFault}
use Rattle.gdb_target.specs.Forth.{ends_alone}
use Rattle.gdb_target.specs.LetRun.{if_let, lets, teller}
use Rattle.gdb_target.specs.LastHit.{IsPointHit, let_run_of}
use Rattle.gdb_target.specs.declared.let_run.LetRun.TheVariants.{All, Alone}
use Rattle.gdb_target.specs.declared.reverse.Back.TheVariants.{StepOf}
use Rattle.gdb_target.specs.declared.touches.Use.TheVariants.{Change}

-- ---- whose stops are told

of_all : lets All 5 ≡ true
of_all = refl

of_the_one : lets (Alone 4) 4 ≡ true
of_the_one = refl

of_no_other : lets (Alone 4) 5 ≡ false
of_no_other = refl

another_that_stands_is_passed : if_let (Alone 4) (Some 5) ≡ None
another_that_stands_is_passed = refl

the_one_that_stands_is_told : if_let (Alone 4) (Some 4) ≡ Some 4
the_one_that_stands_is_told = refl

the_run_is_told_of_the_one : teller (Alone 4) 1 ≡ 4
the_run_is_told_of_the_one = refl

-- ---- when it is gone

by_its_exit : ends_alone (Alone 4) (Step_of 4 (Exited (pos 0))) ≡ true
by_its_exit = refl

by_its_fault : ends_alone (Alone 4) (Step_of 4 (Faulted LoadPageFault)) ≡ true
by_its_fault = refl

not_by_another's_exit : ends_alone (Alone 4) (Step_of 5 (Exited (pos 0))) ≡ false
not_by_another's_exit = refl

not_by_an_instruction : ends_alone (Alone 4) (Step_of 4 Stepped) ≡ false
not_by_an_instruction = refl

not_if_all_are_let_run : ends_alone All (Step_of 4 (Exited (pos 0))) ≡ false
not_if_all_are_let_run = refl

-- ---- the way back

a_step_back_is_of_its_process : let_run_of (StepOf 4) ≡ Alone 4
a_step_back_is_of_its_process = refl

a_way_back_passes_another : IsPointHit (Alone 4) 7 (Some 5) None None
a_way_back_passes_another = (refl, refl)

a_hit_of_another_is_none : IsPointHit (Alone 4) 7 (Some 5) None (Some (record { place = 7; pid = 5; watched = Some (Change 0x1000) })) → ⊥
a_hit_of_another_is_none hit = cc

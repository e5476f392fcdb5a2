-- Worked cases: what is told before it happens.
use Rattle.std.proofs.Common.{◌≡◌, None, Some, refl}
use Rattle.std.specs.Prelude.{pos}
use Rattle.xk_base.specs.declared.access.Cause.TheVariants.{Breakpoint, IllegalInstruction, LoadMisaligned, StorePageFault}
use Rattle.kernel_spec.specs.runs.Run.{Step_of, Turn}
use Rattle.kernel_spec.specs.steps.Own.{Stepped, Exited, Faulted}
use Rattle.gdb_packets.specs.declared.answers.StopReason.TheVariants.{End, Segmentation}
use Rattle.gdb_packets.specs.Answers.{signal_number}
use Rattle.gdb_target.specs.Before.{reason_of, told_before}
use Rattle.gdb_target.specs.declared.let_run.LetRun.TheVariants.{All, Alone}

-- a store of process 3 that its page doesn't allow
a_store_that_is_not_allowed : told_before All (Step_of 3 (Faulted StorePageFault)) ≡ Some (record { reason = Segmentation; pid = 3 })
a_store_that_is_not_allowed = refl

-- SIGSEGV, SIGBUS, SIGILL and SIGTRAP, by GDB's numbers
its_signal : signal_number (reason_of StorePageFault) ≡ 11
its_signal = refl

of_an_odd_address : signal_number (reason_of LoadMisaligned) ≡ 10
of_an_odd_address = refl

of_no_instruction : signal_number (reason_of IllegalInstruction) ≡ 4
of_no_instruction = refl

of_ebreak : signal_number (reason_of Breakpoint) ≡ 5
of_ebreak = refl

-- the end of process 1 is told, and that of no other
the_end : told_before All (Step_of 1 (Exited (pos 0))) ≡ Some (record { reason = End; pid = 1 })
the_end = refl

the_end_of_another : told_before All (Step_of 2 (Exited (pos 0))) ≡ None
the_end_of_another = refl

an_instruction : told_before All (Step_of 1 Stepped) ≡ None
an_instruction = refl

a_turn : told_before All (Turn 3) ≡ None
a_turn = refl

-- ---- while process 3 alone is let run

its_own_fault : told_before (Alone 3) (Step_of 3 (Faulted StorePageFault)) ≡ Some (record { reason = Segmentation; pid = 3 })
its_own_fault = refl

the_fault_of_another_is_passed : told_before (Alone 3) (Step_of 4 (Faulted StorePageFault)) ≡ None
the_fault_of_another_is_passed = refl

-- but it is told of the end of the run
the_end_is_told_of_it : told_before (Alone 3) (Step_of 1 (Exited (pos 0))) ≡ Some (record { reason = End; pid = 3 })
the_end_is_told_of_it = refl

the_end_by_a_fault_too : told_before (Alone 3) (Step_of 1 (Faulted StorePageFault)) ≡ Some (record { reason = End; pid = 3 })
the_end_by_a_fault_too = refl

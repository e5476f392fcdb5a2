-- Worked cases: which instructions and kernel calls use watched bytes, and what is told of them.
use Rattle.std.proofs.Common.{◌≡◌, ◌∙◌, ℕ, List, [], ◌∷◌, Option, None, Some, false, true, ap, refl}
use Rattle.std.specs.Prelude.{pos, negsuc}
use Rattle.kernel_spec.specs.runs.Run.{Step_of, Ticked}
use Rattle.kernel_spec.specs.steps.Own.{Stepped, Called, Blocked, Faulted}
use Rattle.rv64i_core.specs.declared.instruction.Instr.TheVariants.{Load, Store, Fence}
use Rattle.rv64i_core.specs.declared.instruction.LoadOp.TheVariants.{Lwu}
use Rattle.rv64i_core.specs.declared.instruction.StoreOp.TheVariants.{Sb}
use Rattle.xk_base.specs.declared.access.Cause.TheVariants.{LoadPageFault}
use Rattle.gdb_packets.specs.declared.answers.StopReason.TheVariants.{ReadWatch, AccessWatch}
use Rattle.gdb_target.specs.Touches.{access_by, access_or, buffer_used, first_used, if_done, is_used, reason_of_use, touch_or, use_by, use_by_caller, used_by}
use Rattle.gdb_target.specs.declared.points.Points.{Points}
use Rattle.gdb_target.specs.declared.points.Watched.{Watched}
use Rattle.gdb_target.specs.declared.touches.Access.{Access}
use Rattle.gdb_target.specs.declared.touches.Caller.{Caller}
use Rattle.gdb_target.specs.declared.touches.Touch.{Touch}
use Rattle.gdb_target.specs.declared.touches.Use.{Use}
use Rattle.gdb_target.specs.declared.touches.Use.TheVariants.{Read, Access as Accesses}

-- ---- what an instruction uses

a_load_takes_its_bytes : access_by (Some (Load Lwu 5 6 0)) (Some 0x1000) ≡ Some (record { address = 0x1000; count = 4; loads = true })
a_load_takes_its_bytes = refl

a_store_loads_none : access_by (Some (Store Sb 6 5 0)) (Some 0x1000) ≡ Some (record { address = 0x1000; count = 1; loads = false })
a_store_loads_none = refl

a_fence_uses_none : access_by (Some (Fence 0 0 0)) None ≡ None
a_fence_uses_none = refl

abbrev load : Access
load = record { address = 0x1000; count = 4; loads = true }

abbrev store : Access
store = record { address = 0x1000; count = 8; loads = false }

abbrev at : ℕ → Watched
at address = record { address = address; length = 1 }

the_first_byte_is_used : is_used load (at 0x1000) ≡ true
the_first_byte_is_used = refl

the_last_byte_is_used : is_used load (at 0x1003) ≡ true
the_last_byte_is_used = refl

the_byte_after_is_not : is_used load (at 0x1004) ≡ false
the_byte_after_is_not = refl

the_byte_before_is_not : is_used load (at 0xFFF) ≡ false
the_byte_before_is_not = refl

one_byte_of_several_is_enough : is_used load (record { address = 0xFF9; length = 8 }) ≡ true
one_byte_of_several_is_enough = refl

no_bytes_are_never_used : is_used load (record { address = 0x1000; length = 0 }) ≡ false
no_bytes_are_never_used = refl

the_first_of_those_that_are_used : first_used load (at 0x2000 ∷ (at 0x1002 ∷ (at 0x1001 ∷ []))) ≡ Some 0x1002
the_first_of_those_that_are_used = refl

-- ---- what is told of it

module _ (points : Points) where
  a_load_is_told_as_a_read : points.read.items ≡ at 0x1000 ∷ [] → use_by load points ≡ Some (Read 0x1000)
  a_load_is_told_as_a_read watched = ap (λ (all : List Watched). access_or (first_used load all) (first_used load points.accessed.items)) watched

  a_store_is_no_read : points.accessed.items ≡ [] → use_by store points ≡ None
  a_store_is_no_read none = ap (λ (all : List Watched). access_or None (first_used store all)) none

  a_store_is_told_of_bytes_that_are_watched_for_both : points.accessed.items ≡ at 0x1007 ∷ [] → use_by store points ≡ Some (Accesses 0x1007)
  a_store_is_told_of_bytes_that_are_watched_for_both watched = ap (λ (all : List Watched). access_or None (first_used store all)) watched

  a_load_is_told_of_them_too : points.read.items ≡ [] → points.accessed.items ≡ at 0x1000 ∷ [] → use_by load points ≡ Some (Accesses 0x1000)
  a_load_is_told_of_them_too none watched =
      ap (λ (all : List Watched). access_or (first_used load all) (first_used load points.accessed.items)) none ∙ ap (λ (all : List Watched). access_or None (first_used load all)) watched

abbrev touch : Touch
touch = record { pid = 4; how = Read 0x1000 }

a_load_that_is_done_is_told : if_done (Some touch) (Step_of 4 Stepped) ≡ Some touch
a_load_that_is_done_is_told = refl

a_load_that_faults_is_not : if_done (Some touch) (Step_of 4 (Faulted LoadPageFault)) ≡ None
a_load_that_faults_is_not = refl

a_tick_is_not : if_done (Some touch) Ticked ≡ None
a_tick_is_not = refl

-- ---- what a kernel call uses

a_write_reads_as_many_bytes_as_it_answers : buffer_used 0x1000 (pos 16) (pos 3) ≡ Some (record { address = 0x1000; count = 3; loads = true })
a_write_reads_as_many_bytes_as_it_answers = refl

a_read_stores_as_many_bytes_as_it_answers : buffer_used 0x1000 (pos 5) (pos 3) ≡ Some (record { address = 0x1000; count = 3; loads = false })
a_read_stores_as_many_bytes_as_it_answers = refl

a_refused_write_uses_none : buffer_used 0x1000 (pos 16) (negsuc 0) ≡ None
a_refused_write_uses_none = refl

an_open_is_not_told : buffer_used 0x1000 (pos 15) (pos 3) ≡ None
an_open_is_not_told = refl

abbrev caller : Caller
caller = record { pid = 4; buffer = 0x1000 }

module _ (points : Points) where
  a_write_is_told_as_a_read : points.read.items ≡ at 0x1002 ∷ [] → use_by_caller points (Some caller) (Step_of 4 (Called (pos 16) (pos 3))) ≡ Some (record { pid = 4; how = Read 0x1002 })
  a_write_is_told_as_a_read watched =
      ap (λ (how : Option Use). used_by 4 how)
      (ap (λ (all : List Watched). access_or (first_used (record { address = 0x1000; count = 3; loads = true }) all)
      (first_used (record { address = 0x1000; count = 3; loads = true }) points.accessed.items))
      watched)

  a_write_that_waits_is_not_told_yet : use_by_caller points (Some caller) (Step_of 4 (Blocked (pos 16))) ≡ None
  a_write_that_waits_is_not_told_yet = refl

the_instruction_is_told_first : touch_or (Some touch) None ≡ Some touch
the_instruction_is_told_first = refl

-- ---- why it stops

for_a_read : reason_of_use (Read 0x1000) ≡ ReadWatch 0x1000
for_a_read = refl

for_both : reason_of_use (Accesses 0x1000) ≡ AccessWatch 0x1000
for_both = refl

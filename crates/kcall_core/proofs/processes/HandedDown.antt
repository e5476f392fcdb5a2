-- What a fork's loop over the descriptors keeps true.
use Rattle.kcall_core.proofs.Prelude.{ℕ, ◌+◌, ◌≡◌, ◌≢◌, AreCounted, descriptors_at, each_of, free_of, fresh, Hart, held_at, if◌then◌else◌, IsSound, Kernel, length, live_now, more_on_all, named_by}
use Rattle.kcall_core.proofs.Prelude.{nat_lt, None, open_file_at, pid_now, pipes_of, price, set, slot_now, Some, state_of, with_new, with_saved}
use Rattle.file_table.specs.OpenFiles as files

-- the child in a slot has the first n descriptors of the process that runs
pub record IsHanded (k : Kernel) (h : Hart) (child n : ℕ) (k' : Kernel) : Type 0 where
  pub sound : IsSound k' h
  pub rest : k' ≡ record k { table = k'.table; files = k'.files; memories = k'.memories }
  pub table : k'.table ≡ record (with_new child (Some (pid_now k)) k.table) { descriptors = k'.table.descriptors }
  pub files : files.IsTable k'.files
  pub counted : AreCounted k'.files k'.table
  pub same : (f : ℕ) → open_file_at k'.files f ≡ open_file_at k.files f
  pub others : (j : ℕ) → j ≢ child → descriptors_at k'.table j ≡ descriptors_at k.table j
  pub given : (d : ℕ) → named_by (descriptors_at k'.table child) d ≡ (if nat_lt d n then named_by (descriptors_at k.table (slot_now k)) d else None)
  pub each : each_of k'.memories ≡ set (each_of k.memories) child (Some (with_saved (fresh 0) (held_at (each_of k.memories) (slot_now k))))
  pub pipes : pipes_of k'.memories ≡ more_on_all (state_of k h) (live_now k h) n
  pub free : free_of k'.memories + (price (live_now k h).image + 1) ≡ free_of k.memories
  pub frames : length k'.memories.ram ≡ length k.memories.ram

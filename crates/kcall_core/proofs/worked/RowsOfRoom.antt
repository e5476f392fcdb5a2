-- Worked cases of the bounds on what counts descriptors.
use Rattle.kcall_core.proofs.Prelude.{◌+◌, ◌-◌, ◌<◌, ◌≡◌, arith, count_at, descriptors_at, END_COUNT_MAX, get, Hart, HasRoom, Kernel, named_by, NOFILE, None, NPROC, open_count, OPEN_FILES, Pipe}
use Rattle.kcall_core.proofs.Prelude.{Reading, SHARERS_MAX, Some, state_of, Writing}

module _ (k : Kernel) (h : Hart) (room : HasRoom k h) where
  -- no open file has as many descriptors as it can count
  not_all_sharers : count_at k.files 7 ≡ Some SHARERS_MAX → ⊥
  not_all_sharers is = let less : SHARERS_MAX < SHARERS_MAX = room.sharers 7 SHARERS_MAX is in omega (arith, less)

  -- nor does an end of a pipe, of either kind
  not_all_readers : (x : Pipe) → get (state_of k h).pipes 9 ≡ Some x → x.readers ≡ END_COUNT_MAX → ⊥
  not_all_readers x is many = let less : x.readers < END_COUNT_MAX = room.ends 9 x Reading is in omega (arith, less, many)

  not_all_writers : (x : Pipe) → get (state_of k h).pipes 9 ≡ Some x → x.writers ≡ END_COUNT_MAX → ⊥
  not_all_writers x is many = let less : x.writers < END_COUNT_MAX = room.ends 9 x Writing is in omega (arith, less, many)

  -- where the last descriptor of the process in the last slot is free, not all files are open; where the one below it is free too, nor are all but one
  not_all_files : named_by (descriptors_at k.table (NPROC - 1)) (NOFILE - 1) ≡ None → open_count k.files ≡ OPEN_FILES → ⊥
  not_all_files free many = let less : open_count k.files < OPEN_FILES = room.one_file (NPROC - 1) (NOFILE - 1) (omega arith) (omega arith) free in omega (arith, less, many)

  not_all_but_one : named_by (descriptors_at k.table (NPROC - 1)) (NOFILE - 2) ≡ None → named_by (descriptors_at k.table (NPROC - 1)) (NOFILE - 1) ≡ None → open_count k.files ≡ OPEN_FILES - 1 → ⊥
  not_all_but_one free empty many = let less : open_count k.files + 1 < OPEN_FILES =
      room.two_files (NPROC - 1) (NOFILE - 2) (NOFILE - 1) (omega arith) (omega arith) (omega arith) (omega arith) free empty in omega (arith, less, many)

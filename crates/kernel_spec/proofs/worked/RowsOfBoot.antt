-- Worked cases of boot: the limits by their values, configurations and programs at them, and the first state of a machine.
use Rattle.kernel_spec.proofs.Prelude.{[], ℕ, ◌*◌, ◌+◌, ◌-◌, ◌^◌, ◌∷◌, ◌≡◌, ap, ARG_BYTES, BadConfig, BadPrograms, Bool, BootError, codes, cond, CONSOLE_BYTES, empty_console, Err, ExecError, false}
use Rattle.kernel_spec.proofs.Prelude.{first, first_bad, first_loaded, first_regs, first_state, first_turns, FRAMES_MAX, FRAMES_MIN, Init, init_of, is_bad_name, is_bad_program, least_below, length}
use Rattle.kernel_spec.proofs.Prelude.{List, Loaded, loaded, map, MAXARG, MAXPATH, NAME_MAX, nat_lt, NOFILE, NoFrames, NoInit, None, NPROC, Ok, OPEN_FILES, PID_MAX, PIPE_BYTES, price, PROGRAM_BYTES}
use Rattle.kernel_spec.proofs.Prelude.{program_named, ProgramFile, PROGRAMS_MAX, range_with_len, refl, reg, replicate, Result, SEND_BYTES, SIZE_LIMIT, Some, TRACE_MAX, true, within_frames, World}

-- ---- the limits

-- of processes and pids, of descriptors and open files
process_limits : NPROC ∷ PID_MAX ∷ NOFILE ∷ OPEN_FILES ∷ [] ≡ 64 ∷ (2 ^ 31 - 1) ∷ 32 ∷ 2048 ∷ []
process_limits = refl

-- each descriptor of each process may have an open file of its own
a_file_each : OPEN_FILES ≡ NPROC * NOFILE
a_file_each = refl

-- of a pipe, of typed bytes, and of bytes to be sent
byte_limits : PIPE_BYTES ∷ CONSOLE_BYTES ∷ SEND_BYTES ∷ [] ≡ 2048 ∷ 128 ∷ 32 ∷ []
byte_limits = refl

-- of a path with its zero byte, of texts, of their bytes, and of memory. xv6 counts the null pointer behind the texts too, and has 32
exec_limits : MAXPATH ∷ MAXARG ∷ ARG_BYTES ∷ SIZE_LIMIT ∷ [] ≡ 128 ∷ 31 ∷ 4096 ∷ (2 ^ 38 - 8192) ∷ []
exec_limits = refl

boot_limits : FRAMES_MIN ∷ FRAMES_MAX ∷ TRACE_MAX ∷ PROGRAMS_MAX ∷ NAME_MAX ∷ PROGRAM_BYTES ∷ [] ≡ 16 ∷ 32768 ∷ 65536 ∷ 64 ∷ 14 ∷ 1048576 ∷ []
boot_limits = refl

-- ---- names of programs

good_names : map is_bad_name (codes "a" ∷ codes "init" ∷ codes "tty" ∷ codes "consoles" ∷ codes "abcdefghijklmn" ∷ []) ≡ replicate 5 false
good_names = refl

-- none, 15 bytes, with a slash, with a zero byte, and the console's
bad_names : map is_bad_name ([] ∷ codes "abcdefghijklmno" ∷ codes "a/b" ∷ (97 ∷ 0 ∷ []) ∷ codes "console" ∷ []) ≡ replicate 5 true
bad_names = refl

-- ---- lists of programs

abbrev empty_file : List ℕ → ProgramFile
empty_file name = record { name = name; bytes = [] }

all_good : first_bad (empty_file (codes "a") ∷ empty_file (codes "b") ∷ empty_file (codes "init") ∷ []) ≡ None
unfolding first_bad is_bad_program least_below
all_good = refl

-- a name twice: the later one is refused
named_twice : first_bad (empty_file (codes "a") ∷ empty_file (codes "b") ∷ empty_file (codes "a") ∷ empty_file (codes "b") ∷ []) ≡ Some 2
unfolding first_bad is_bad_program least_below
named_twice = refl

-- of two that are bad, the first
first_of_two : first_bad (empty_file (codes "a") ∷ empty_file [] ∷ empty_file (codes "console") ∷ []) ≡ Some 1
unfolding first_bad is_bad_program least_below
first_of_two = refl

-- 64 programs with names of their own are good, and the 65th isn't
abbrev so_many : ℕ → List ProgramFile
so_many n = map (λ k. empty_file ((97 + k) ∷ [])) (range_with_len 0 n)

programs_64 : first_bad (so_many 64) ≡ None
unfolding first_bad is_bad_program least_below
programs_64 = refl

programs_65 : first_bad (so_many 65) ≡ Some 64
unfolding first_bad is_bad_program least_below
programs_65 = refl

-- a file of 1,048,576 bytes is good, and one of a byte more isn't
module _ (bytes : List ℕ) where
  file_max : length bytes ≡ 1048576 → is_bad_program (record { name = codes "a"; bytes = bytes } ∷ []) 0 ≡ false
  unfolding is_bad_program least_below
  file_max long = ap (λ (n : ℕ). nat_lt PROGRAM_BYTES n) long

  file_too_long : length bytes ≡ 1048577 → is_bad_program (record { name = codes "a"; bytes = bytes } ∷ []) 0 ≡ true
  unfolding is_bad_program least_below
  file_too_long long = ap (λ (n : ℕ). nat_lt PROGRAM_BYTES n) long

-- the program of a name, and none
second_found : program_named (codes "b") (empty_file (codes "a") ∷ empty_file (codes "b") ∷ []) ≡ Some (empty_file (codes "b"))
second_found = refl

none_found : program_named (codes "c") (empty_file (codes "a") ∷ empty_file (codes "b") ∷ []) ≡ None
none_found = refl

-- ---- boot

-- without a program: 15 and 32,769 frames and a trace of 65,537 notes are refused, 16 and 32,768 frames and 65,536 notes aren't
few_frames : first 15 0 [] ≡ Err BadConfig
unfolding first
few_frames = refl

many_frames : first 32769 0 [] ≡ Err BadConfig
unfolding first
many_frames = refl

long_trace : first 16 65537 [] ≡ Err BadConfig
unfolding first
long_trace = refl

least_machine : first 16 0 [] ≡ Err NoInit
unfolding first first_bad least_below init_of
least_machine = refl

greatest_machine : first 32768 65536 [] ≡ Err NoInit
unfolding first first_bad least_below init_of
greatest_machine = refl

no_init : first 16 0 (empty_file (codes "a") ∷ []) ≡ Err NoInit
unfolding first first_bad is_bad_program least_below init_of
no_init = refl

-- a bad program is told before that `init` isn't there
bad_program : first 16 0 (empty_file (codes "a") ∷ empty_file [] ∷ []) ≡ Err (BadPrograms 1)
unfolding first first_bad is_bad_program least_below
bad_program = refl

-- `init` itself isn't loaded
bad_init : (e : ExecError) → loaded [] (codes "init" ∷ []) ≡ Err e → first 16 0 (empty_file (codes "init") ∷ []) ≡ Err (Init e)
unfolding first first_bad is_bad_program least_below init_of
bad_init e is = ap (λ r. first_loaded 16 (empty_file (codes "init") ∷ []) (within_frames 16 r)) is

-- ---- an `init` that costs 19 frames and one for its registers

module _ (programs : List ProgramFile) (l : Loaded) (costs : price l.image ≡ 19) where
  first_with : (frames : ℕ) → Result World BootError
  first_with frames = first_loaded frames programs (within_frames frames (Ok l))

  first_if : (frames : ℕ) → Bool → Result World BootError
  first_if frames less = first_loaded frames programs (cond less (Err NoFrames) (Ok l))

  first_asks : (frames : ℕ) → first_with frames ≡ first_if frames (nat_lt frames 20)
  unfolding first_with first_if
  first_asks frames = ap (λ (n : ℕ). first_if frames (nat_lt frames (n + 1))) costs

  -- one frame too few, and exactly as many as it takes
  frames_19 : first_with 19 ≡ Err (Init NoFrames)
  unfolding first_if
  frames_19 = first_asks 19

  frames_20 : first_with 20 ≡ Ok (record { state = first_state 20 programs l; turns = first_turns })
  unfolding first_if
  frames_20 = first_asks 20

  -- none is left then
  free_20 : (first_state 20 programs l).free ≡ 0
  free_20 = ap (λ (n : ℕ). 20 - n - 1) costs

  free_32 : (first_state 32 programs l).free ≡ 12
  free_32 = ap (λ (n : ℕ). 32 - n - 1) costs

-- the first registers: the pc is the entry, a0 the number of texts, sp and a1 where their addresses lie; every other one is 0
first_regs_are : (l : Loaded) → ((first_regs l).pc ≡ l.pc) × (reg (first_regs l) 2 ≡ l.sp) × (reg (first_regs l) 10 ≡ l.argc) × (reg (first_regs l) 11 ≡ l.sp)
first_regs_are l = (refl, refl, refl, refl)

other_regs_are_0 : (l : Loaded) → map (reg (first_regs l)) (0 ∷ 1 ∷ 3 ∷ 9 ∷ 12 ∷ 17 ∷ 31 ∷ []) ≡ replicate 7 0
other_regs_are_0 l = refl

-- pid 2 is the next, the clock stands at 0, the console is empty, and the turn goes to slot 0 first
first_is : (frames : ℕ) (programs : List ProgramFile) (l : Loaded)
    → ((first_state frames programs l).next_pid ≡ 2) × ((first_state frames programs l).clock ≡ 0)
    × ((first_state frames programs l).console ≡ empty_console) × ((first_state frames programs l).programs ≡ programs)
    × (first_turns.last ≡ 63) × (first_turns.current ≡ None) × (first_turns.halted ≡ None)
first_is frames programs l = (refl, refl, refl, refl, refl, refl, refl)

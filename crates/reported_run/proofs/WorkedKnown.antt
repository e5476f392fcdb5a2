-- Worked cases of what is known of kills and refused growths. Each fails if its definition is turned.
use Rattle.std.proofs.Common.{◌≡◌, ℕ, ℤ, pos, negsuc, [], ◌∷◌, List, Option, None, Some, refl}
use Rattle.std.specs.Prelude.{◌≢◌}
use Rattle.rv64i_core.specs.Registers.{Registers}
use Rattle.kernel_spec.specs.runs.Run.{Run, Idle}
use Rattle.kernel_spec.specs.steps.Own.{Stepped, Blocked, Exited, Faulted}
use Rattle.xk_base.specs.declared.access.Cause.{Cause}
use Rattle.xv_session.specs.Recorded.{Recorded}
use Rattle.xv_session.specs.declared.names.Named.{Named}
use Rattle.reported_run.specs.Known.{AreLearned, Known, LearnsByEvent, learned, learned_of, learned_by, nothing_known, place_of, with_call}
use Rattle.reported_run.specs.declared.ends.CallMade.{CallMade}
use Rattle.reported_run.specs.declared.ends.Kill.{Kill}

-- a call that process p made, refused
abbrev pub refusal : ℕ → CallMade
refusal p = record { pid = p; program = None; number = pos 12; at = 36 }

-- process p, killed by process 1
abbrev pub kill : ℕ → Kill
kill p = record { victim = p; by = record { pid = 1; program = None; number = pos 6; at = 8 } }

abbrev pub of-two : Known
of-two = record { kills = kill 3 ∷ kill 4 ∷ []; refused = refusal 4 ∷ refusal 3 ∷ [] }

-- nothing is known at the boot
pub none-at-boot : (s t : Recorded) (known : Known) → AreLearned 0 s t known → (t ≡ s) × (known ≡ nothing_known)
none-at-boot s t known learned = learned

-- what is known of a process that is gone is forgotten, and of no other
pub gone-is-forgotten : (after : Recorded) → learned_of after 3 None (Exited (pos 0)) of-two ≡ record { kills = kill 4 ∷ []; refused = refusal 4 ∷ [] }
gone-is-forgotten after = refl

pub fault-is-forgotten : (after : Recorded) (cause : Cause) → learned_of after 4 None (Faulted cause) of-two ≡ record { kills = kill 3 ∷ []; refused = refusal 3 ∷ [] }
fault-is-forgotten after cause = refl

-- a growth that is refused is that of the process, its program, and the address of its ECALL, in place of one before
pub growth-is-noted : (after : Recorded) (regs : Registers)
    → with_call after 3 (Some 5) (pos 12) (negsuc 0) (Some (record regs { pc = 40 })) of-two
    ≡ record { kills = kill 3 ∷ kill 4 ∷ []; refused = refusal 4 ∷ record { pid = 3; program = Some 5; number = pos 12; at = 36 } ∷ [] }
growth-is-noted after regs = refl

-- one that is granted isn't, nor is any other call that fails
pub growth-is-granted : (after : Recorded) (regs : Registers) → with_call after 3 (Some 5) (pos 12) (pos 4096) (Some regs) of-two ≡ of-two
growth-is-granted after regs = refl

pub read-is-refused : (after : Recorded) (regs : Registers) → with_call after 3 (Some 5) (pos 5) (negsuc 0) (Some regs) of-two ≡ of-two
read-is-refused after regs = refl

-- of an instruction, of a process that falls asleep, and of a Run by which nobody makes a step, nothing is learned
pub step-teaches-nothing : (after : Recorded) → learned_of after 3 None Stepped of-two ≡ of-two
step-teaches-nothing after = refl

pub sleep-teaches-nothing : (after : Recorded) → learned_of after 3 None (Blocked (pos 5)) of-two ≡ of-two
sleep-teaches-nothing after = refl

pub idle-teaches-nothing : (after : Recorded) → learned_by after None Idle of-two ≡ of-two
idle-teaches-nothing after = refl

pub none-teaches-nothing : (after : Recorded) → learned after None None of-two ≡ of-two
none-teaches-nothing after = refl

-- a Run isn't passed over as another event
pub no-run-is-passed : (old new : Recorded) (before after : Known) (by : LearnsByEvent old new before after) → by.0 ≢ Run
no-run-is-passed old new before after (e, o, other, sent, same) = other

-- the program of the process that runs is the one that the names have for it
pub named-program : place_of (Some 2) (record { pid = 1; place = 0 } ∷ record { pid = 2; place = 7 } ∷ []) ≡ Some 7
named-program = refl

pub nobody-runs : (names : List Named) → place_of None names ≡ None
nobody-runs names = refl

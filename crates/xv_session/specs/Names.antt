-- Which program each live process runs: process 1 runs `init`; a child runs what its parent ran at the fork; an exec that is done sets it; a process that is gone runs none.
-- A program is told by its place among those that the machine was booted with.
use Rattle.std.specs.Prelude.{◌≡◌, ◌⊎◌, ℕ, zero, suc, ℤ, pos, negsuc, not, ◌&&◌, if◌then◌else◌, nat_eq, nat_le, List, [], ◌∷◌, ◌++◌, filter, find, Option, None, Some, IsSome, option_map}
use Rattle.std.specs.Ordering.{int_eq}
use Rattle.xk_base.specs.declared.limits.TheConstants.{PID_MAX, MAXPATH}
use Rattle.rv64i_core.specs.Registers.{Registers, reg, add}
use Rattle.kernel_spec.specs.rows.Buffers.{no_slashes}
use Rattle.kernel_spec.specs.steps.Own.{Answer, Stepped, Called, Blocked, Exited, Faulted}
use Rattle.kernel_spec.specs.runs.Run.{World, Event, Run, Outcome, Step_of}
use Rattle.kernel_spec.specs.views.Programs.{place_of, init_name}
use Rattle.kernel_spec.specs.views.State.{State, ProgramFile, live}
use Rattle.kernel_spec.specs.views.Words.{A0}
use Rattle.kernel_spec.specs.waking.Wakes.{Promised}
use Rattle.kcall_core.specs.Observers.{registers_of, byte_at}
use Rattle.xv_session.specs.declared.names.Named.{Named}

-- ---- the program that a process asks for

-- a byte, and the text behind it; 0 ends a text, and so does a byte that isn't there
abbrev pub text_from : Option ℕ → List ℕ → List ℕ
text_from None rest = []
text_from (Some byte) rest = if nat_eq byte 0 then [] else byte ∷ rest

-- the text at an address of process p, `most` bytes at most
abbrev pub text_in : (most : ℕ) → State → (p address : ℕ) → List ℕ
text_in zero s p address = []
text_in (suc most) s p address = text_from (byte_at s p address) (text_in most s p (add address 1))

-- the program whose name, behind leading slashes, is the text at the address in a0
abbrev pub asked_with : State → ℕ → Option Registers → Option ℕ
asked_with s p None = None
asked_with s p (Some regs) = place_of (no_slashes (text_in MAXPATH s p (reg regs A0))) s.programs

abbrev pub asked_by : State → Option ℕ → Option ℕ
asked_by s None = None
asked_by s (Some p) = asked_with s p (registers_of s p)

-- the program that the process that runs names by its first argument
abbrev pub asked_in : World → Option ℕ
asked_in w = asked_by w.state w.turns.current

-- The program that may be asked for by an event: by a Run that of the process that runs; by any other event none, since no process makes a step
abbrev pub asked_for : Event → World → Option ℕ
asked_for Run w = asked_in w
asked_for _ w = None

-- ---- names

-- the first named of this pid
abbrev pub named_of : ℕ → List Named → Option Named
named_of p names = find (λ (n : Named). nat_eq n.pid p) names

-- the place of the program that process p runs
abbrev pub place_in : ℕ → List Named → Option ℕ
place_in p names = option_map (λ (n : Named). n.place) (named_of p names)

abbrev pub without : ℕ → List Named → List Named
without p names = filter (λ (n : Named). not (nat_eq n.pid p)) names

-- process p runs the program at a place from now on; where no place is told, all stays
abbrev pub with_place : ℕ → Option ℕ → List Named → List Named
with_place p None names = names
with_place p (Some place) names = without p names ++ record { pid = p; place = place } ∷ []

-- process 1 runs `init`
abbrev pub first_names : List ProgramFile → List Named
first_names programs = with_place 1 (place_of init_name programs) []

-- ---- what an event does to them

-- the child that a fork with this answer made
abbrev pub child_of : ℤ → Option ℕ
child_of (pos n) = if nat_le 1 n && nat_le n PID_MAX then Some n else None
child_of (negsuc k) = None

-- the child runs what its parent p runs
abbrev pub with_child : ℕ → Option ℕ → List Named → List Named
with_child p None names = names
with_child p (Some child) names = with_place child (place_in p names) names

-- the program that an exec with this answer went on with
abbrev pub gone_on_with : ℤ → (asked : Option ℕ) → Option ℕ
gone_on_with (pos argc) asked = asked
gone_on_with (negsuc k) asked = None

-- call 1 is fork, and call 7 is exec
abbrev pub after_call : (asked : Option ℕ) (p : ℕ) (number value : ℤ) → List Named → List Named
after_call asked p number value names =
    if int_eq number (pos 1) then with_child p (child_of value) names
    else if int_eq number (pos 7) then with_place p (gone_on_with value asked) names
    else names

abbrev pub after_step : (asked : Option ℕ) (p : ℕ) → Answer → List Named → List Named
after_step asked p Stepped names = names
after_step asked p (Called number value) names = after_call asked p number value names
after_step asked p (Blocked number) names = names
after_step asked p (Exited status) names = without p names
after_step asked p (Faulted cause) names = without p names

-- the names after an event of which this came; before it the process that runs asked for the program at this place
abbrev pub names_after : (asked : Option ℕ) → Outcome → List Named → List Named
names_after asked (Step_of p answer) names = after_step asked p answer names
names_after asked _ names = names

-- ---- over a run

-- The world goes from w to t by these events, each as promised, and the names go from `names` to `after`
abbrev pub NamesGo : World → List (Event × Outcome) → World → List Named → List Named → Type 0
NamesGo w [] t names after = (t ≡ w) × (after ≡ names)
NamesGo w (e ∷ es) t names after = (mid : World) × Promised w e.0 e.1 mid × NamesGo mid es t (names_after (asked_in w) e.1 names) after

-- ---- the named are live

-- process p is named
abbrev pub Among : ℕ → List Named → Type 0
Among p [] = ⊥
Among p (n ∷ ns) = (n.pid ≡ p) ⊎ Among p ns

-- no process is named twice
abbrev pub Apart : List Named → Type 0
Apart [] = Unit {0}
Apart (n ∷ ns) = (¬ Among n.pid ns) × Apart ns

pub record AreLive (s : State) (names : List Named) : Type 0 where
  pub apart : Apart names
  pub lives : (p : ℕ) → Among p names → IsSome (live s p)

-- The processes, and what each does, as they are told.
use Rattle.std.specs.Prelude.{◌≡◌, ◌⊎◌, ℕ, zero, suc, ◌+◌, ◌/◌, Bool, true, false, List, [], ◌∷◌, ◌++◌, length, codes, decimal, Option, None, Some}
use Rattle.std.specs.Fmt.{signed_decimal}
use Rattle.std.specs.List.{concat}
use Rattle.kcall_core.specs.Observers.{process_at, size_of}
use Rattle.kcall_core.specs.declared.kernel.observers.ProcessState.{ProcessState}
use Rattle.kcall_core.specs.declared.kernel.observers.ProcessState.TheVariants as state
use Rattle.kernel_spec.specs.runs.Run.{World}
use Rattle.kernel_spec.specs.views.Words.{is_this, or_zero}
use Rattle.proc_table.specs.declared.process.Call.{Call}
use Rattle.xv_session.specs.Recorded.{Recorded}
use Rattle.xv_report.specs.Waits.{wait_of}
use Rattle.xv_report.specs.declared.waits.Wait.{Wait}
use Rattle.xv_report.specs.declared.waits.Wait.TheVariants.{Until, Child, PipeBytes, PipeRoom, Keys, Sending}
use Rattle.debug_words.specs.Texts.{at_left, at_right, grouped, many, name_shown, number_at_right}
use Rattle.debug_views.specs.Focus.{IsLeastFrom, name_in}
use Rattle.xv_debug.specs.OutcomeText.{call_text}

-- ---- what a process does

-- a call on a descriptor, and what it waits for
abbrev pub on_text : (call : List ℕ) → (fd : ℕ) → (awaited : List ℕ) → List ℕ
on_text call fd awaited = call ++ (codes " fd " ++ (decimal fd ++ (codes ", for " ++ awaited)))

-- the same, in a pipe
abbrev pub in_pipe_text : (call : List ℕ) → (fd : ℕ) → (awaited : List ℕ) → (pipe : ℕ) → List ℕ
in_pipe_text call fd awaited pipe = on_text call fd awaited ++ (codes " in pipe " ++ decimal pipe)

-- the call in which a process sleeps, and what it waits for
abbrev pub wait_text : Wait → List ℕ
wait_text (Until tick) = codes "sleep, until tick " ++ decimal tick
wait_text Child = codes "wait, for a child to end"
wait_text (Keys fd) = on_text (codes "read of") fd (codes "a line of keys")
wait_text (Sending fd) = on_text (codes "write to") fd (codes "room in the console")
wait_text (PipeBytes fd pipe) = in_pipe_text (codes "read of") fd (codes "bytes") pipe
wait_text (PipeRoom fd pipe) = in_pipe_text (codes "write to") fd (codes "room") pipe

abbrev pub in_call : Option Call → List ℕ
in_call None = []
in_call (Some call) = codes ", in " ++ call_text call.number

abbrev pub awake_word : (runs : Bool) → List ℕ
awake_word true = codes "runs"
awake_word false = codes "may run"

-- one that doesn't sleep
abbrev pub awake_text : (runs : Bool) → Option Call → List ℕ
awake_text runs call = awake_word runs ++ in_call call

abbrev pub live_text : (runs : Bool) → Option Call → Option Wait → List ℕ
live_text runs call None = awake_text runs call
live_text runs call (Some wait) = codes "sleeps in " ++ wait_text wait

abbrev pub state_text : (runs : Bool) → Option Wait → Option ProcessState → List ℕ
state_text runs wait None = codes "is none"
state_text runs wait (Some (state.Zombie parent status)) = codes "is a zombie, of status " ++ signed_decimal status
state_text runs wait (Some (state.Live parent marked call asleep)) = live_text runs call wait

-- what process p does
abbrev pub doing_text : World → ℕ → List ℕ
doing_text w p = state_text (is_this p w.turns.current) (wait_of w p) (process_at w p)

-- ---- all processes

-- the pid of the parent; 0 if there is none
abbrev pub parent_in : Option ProcessState → ℕ
parent_in None = 0
parent_in (Some (state.Live parent marked call asleep)) = or_zero parent
parent_in (Some (state.Zombie parent status)) = or_zero parent

abbrev pub mark_text : (marked : Bool) → List ℕ
mark_text true = codes ", marked by kill"
mark_text false = []

-- what is told of a mark by kill
abbrev pub marked_text : Option ProcessState → List ℕ
marked_text None = []
marked_text (Some (state.Live parent marked call asleep)) = mark_text marked
marked_text (Some (state.Zombie parent status)) = []

abbrev pub or_stroke : Option (List ℕ) → List ℕ
or_stroke None = codes "-"
or_stroke (Some name) = name

-- a process: its pid, its parent's, its memory in KiB, its program, and what it does
unfoldable pub line_text : Recorded → ℕ → List ℕ
line_text s p = concat (
    number_at_right 5 p ∷ codes " " ∷ number_at_right 6 (parent_in (process_at s.machine.world p)) ∷ codes " " ∷ at_right 9 (grouped (or_zero (size_of s.machine.world.state p) / 1024))
    ∷ codes "  " ∷ at_left 14 (name_shown (or_stroke (name_in s p))) ∷ codes " " ∷ doing_text s.machine.world p ∷ marked_text (process_at s.machine.world p) ∷ codes "\n" ∷ [])

-- which process is the next, if there are more than are shown
abbrev pub more_text : Option ℕ → List ℕ
more_text None = []
more_text (Some p) = codes "there are more: ps " ++ decimal p ++ codes " goes on\n"

-- The processes from a pid on, by rising pids, so many at most; and whether there are more
abbrev pub AreLines : Recorded → (lines from : ℕ) → List ℕ → Type 0
AreLines s zero from text = (next : Option ℕ) × IsLeastFrom s.machine.world.state from next × (text ≡ more_text next)
AreLines s (suc lines) from text =
    (IsLeastFrom s.machine.world.state from None × (text ≡ []))
    ⊎ ((p : ℕ) × (rest : List ℕ) × IsLeastFrom s.machine.world.state from (Some p) × AreLines s lines (p + 1) rest × (text ≡ line_text s p ++ rest))

abbrev pub lines_head : List ℕ
lines_head = codes "  pid parent  size/KiB  program        what it does\n"

abbrev pub IsProcessesText : Recorded → (from : ℕ) → List ℕ → Type 0
IsProcessesText s from text = (rest : List ℕ) × AreLines s 20 from rest × (text ≡ lines_head ++ rest)

-- ---- where the run is

-- how many events there were, and the clock
abbrev pub place_text : Recorded → List ℕ
place_text s = concat (codes "at " ∷ grouped (length s.events) ∷ codes ", " ∷ many s.machine.world.state.clock (codes "tick") ∷ codes ": " ∷ [])

-- Isolation, as laws over runs.
use Rattle.std.specs.Prelude.{◌≡◌, ℕ, ℤ, List, [], ◌++◌, true, false, map, None, Some, IsSome, ◌⊎◌, ◌≢◌, ◌-◌, ◌<◌, Contains, slice_index}
use Rattle.std.specs.FinMap.{get}
use Rattle.xk_base.specs.Image.{Page}
use Rattle.pipe_core.specs.Pipe.{Pipe}
use Rattle.proc_table.specs.declared.process.Call.{Call}
use Rattle.xk_base.specs.declared.access.Access.TheVariants.{Store}
use Rattle.xk_base.specs.Bytes.{image_byte}
use Rattle.kernel_spec.specs.views.State.{ProgramFile, State}
use Rattle.kernel_spec.specs.views.View.{View, view}
use Rattle.kernel_spec.specs.steps.Own.{Called, Blocked, goes_on}
use Rattle.kernel_spec.specs.waking.Ready.{ready}
use Rattle.kernel_spec.specs.steps.Step.{own, call_in}
use Rattle.kernel_spec.specs.rows.Buffers.{may_touching}
use Rattle.kernel_spec.specs.runs.Run.{World, Event, Run, Send, Outcome, Step_of, Halted, Happens, IsRun, StateAfter, TurnsAfter}
use Rattle.kernel_spec.specs.views.Words.{minus_one}
use Rattle.kernel_spec.specs.rows.Stores.{stored_by, IsStored}
use Rattle.kernel_spec.specs.rows.Execs.{HasExeced, IsExecDone}
use Rattle.kernel_spec.specs.runs.Moments.{IsStepOf, Others, Moment, IsCut, Course, steps_of, AllBoth, IsFromBoot}
use Rattle.kernel_spec.specs.runs.Outside.{seen_outside}
use Rattle.kernel_spec.specs.runs.Sources.{Holds, Stands, WasPut}
use Rattle.kernel_spec.specs.steps.KeptBytes.{NewBytesAreZeros, HasWholePages, OtherBytesStay, IsOfItsOwn, IsNewPipe}
use Rattle.kernel_spec.specs.steps.Waiting.{waiting_calls, IsBrokenWrite}
use Rattle.kernel_spec.specs.views.Shared.{shared, SameRest, SameDescriptors}

-- ---- one process's steps in a run

-- Every run is cut at the steps of a process that is live as the run begins, and whose pid has been given: each outcome of a step of it is that of a moment, in order, and no moment has another
abbrev pub RunsAreCut : Type 0
RunsAreCut =
    (p : ℕ) (w t : World) (es : List (Event × Outcome)) → IsRun w es t → IsSome (view w.state p) → p < w.state.next_pid
    → (ms : List Moment) × IsCut p w es t ms × (map (λ m. m.outcome) ms ≡ steps_of p es)

-- Two worlds in which p sees the same at first, and the same of what is shared as each of its steps begins, give its steps the same outcomes, and the same views before and after, whatever else they hold
abbrev pub TwoWorlds : Type 0
TwoWorlds =
    (p : ℕ) (v w : World) (ms ns : List Moment) → IsSome (view v.state p) → view v.state p ≡ view w.state p → Course p v ms → Course p w ns
    → AllBoth (λ m n. shared m.before ≡ shared n.before) ms ns → AllBoth (λ m n. m ≡ n) ms ns

-- Two worlds in which p sees the same as a step of it begins: the step has the same outcome, p sees the same after it, and a process that it makes has the same first view
abbrev pub SameStep : Type 0
SameStep =
    (p : ℕ) (v w t u : World) (o q : Outcome) → view v.state p ≡ view w.state p → IsStepOf p v Run → IsStepOf p w Run → Happens v Run o t → Happens w Run q u
    → (o ≡ q) × (view t.state p ≡ view u.state p) × ((c : ℕ) → view v.state c ≡ None → IsSome (view t.state c) → view u.state c ≡ view t.state c)

-- What is shared tells nothing of the rest: each rest goes with each shared part, if the same descriptors are in use. So two worlds that are asked to have equal shared parts may differ in all the rest
abbrev pub SharedIsApart : Type 0
SharedIsApart = (v w : View) → SameDescriptors v w → (u : View) × (shared u ≡ shared w) × SameRest u v × SameDescriptors u v

-- After an event that is no step of p, p is live still, its registers, image, call and programs are as they were, and its descriptors but for what is shared
abbrev pub OthersKeep : Type 0
OthersKeep =
    (p : ℕ) (v : View) (w t : World) (e : Event) (o : Outcome) → Happens w e o t → ¬ IsStepOf p w e → view w.state p ≡ Some v
    → (u : View) × (view t.state p ≡ Some u) × SameRest u v × SameDescriptors u v

abbrev pub OutsideSteps : Type 0
OutsideSteps =
    (p : ℕ) (v : View) (w t : World) (e : Event) (o : Outcome) → Happens w e o t → (w.turns.halted ≡ None) ⊎ (e ≡ Send) → (e ≡ Run → w.turns.current ≡ None) → view w.state p ≡ Some v
    → view t.state p ≡ Some (seen_outside e v)

-- `ready` is no more than it has to be: a process whose step left it waiting in n, and that isn't ready in m, to which only what others do has led, waits again, and its step changes nothing
abbrev pub UnreadyWaits : Type 0
UnreadyWaits =
    (s : State) (p : ℕ) (v n m : View) (number : ℤ) → (own v).answer ≡ Blocked number → (own v).next ≡ Some n → view s p ≡ Some m → SameRest m n → SameDescriptors m n
    → ready m ≡ false → own m ≡ goes_on (Blocked number) m

-- A call that has waited, at whose next step p sees m, isn't refused, but for a write to a pipe that nobody reads any more, which keeps the bytes that it has moved
abbrev pub OnlyBrokenWritesFailLate : Type 0
OnlyBrokenWritesFailLate =
    (p : ℕ) (w t : World) (es : List (Event × Outcome)) (v n m : View) (number waited : ℤ) → (own v).answer ≡ Blocked waited → (own v).next ≡ Some n
    → view w.state p ≡ Some n → Others p w es t → view t.state p ≡ Some m → (own m).answer ≡ Called number minus_one → IsBrokenWrite m

-- on a halted machine only a byte may be sent
abbrev pub HaltedStays : Type 0
HaltedStays = (w t : World) (e : Event) (o : Outcome) → Happens w e o t → IsSome w.turns.halted → e ≢ Send → (o ≡ Halted) × (t ≡ w)

-- ---- no byte that another process left

-- After an exec that succeeded the image is that of the program that was named, with the texts that were given; after any other step each byte of a new page is 0 that the step doesn't store
abbrev pub NoOldByte : Type 0
NoOldByte =
    (v n : View) → (own v).next ≡ Some n
    → (IsExecDone (call_in v) (own v) → HasExeced v (own v) n.image) × (¬ IsExecDone (call_in v) (own v) → NewBytesAreZeros v n)

-- In a page that stays no step changes a byte that it doesn't store, but for an exec that succeeded
abbrev pub OnlyStoresChangeBytes : Type 0
OnlyStoresChangeBytes = (v n : View) → HasWholePages v.image → (own v).next ≡ Some n → ¬ IsExecDone (call_in v) (own v) → OtherBytesStay v n

-- A step stores only where user code may store, or may do so once the page is touched
abbrev pub StoresWhereUserMay : Type 0
StoresWhereUserMay = (v : View) (a : ℕ) → IsStored v a → may_touching Store v.image a ≡ true

-- And each byte that it stores is the one that its source has there: an instruction's store, a child's status, the numbers of a new pipe, the console, a program's file, or a pipe
abbrev pub StoresTheseBytes : Type 0
StoresTheseBytes = (v n : View) (a : ℕ) → HasWholePages v.image → (own v).next ≡ Some n → IsStored v a → image_byte n.image a ≡ slice_index (stored_by v).bytes (a - (stored_by v).address)

-- After every step each byte of the process's memory is one that the step stored, the one that stood there before, or a 0, but for an exec that succeeded, which makes the memory of its program
abbrev pub EachByteIsOfItsOwn : Type 0
EachByteIsOfItsOwn =
    (v n : View) (page : ℕ) (y : Page) (i : ℕ) → HasWholePages v.image → (own v).next ≡ Some n → ¬ IsExecDone (call_in v) (own v)
    → get n.image.pages page ≡ Some y → i < 4096 → IsOfItsOwn v page i (slice_index y.bytes i)

-- A new pipe is empty
abbrev pub NoOldPipe : Type 0
NoOldPipe = (s : State) (p : ℕ) (v n : View) → view s p ≡ Some v → (own v).next ≡ Some n → (x : Pipe) → IsNewPipe v n x → x.bytes ≡ []

-- The image of a new process is its parent's
abbrev pub NoOldChild : Type 0
NoOldChild = (s : State) (p : ℕ) (v c : View) → view s p ≡ Some v → (own v).child ≡ Some c → c.image ≡ v.image

-- ---- from boot

-- from boot each live process has a pid that has been given, so each run from there on is cut at its steps
abbrev pub PidsAreGiven : Type 0
PidsAreGiven = (frames trace : ℕ) (programs : List ProgramFile) (es : List (Event × Outcome)) (t : World) (p : ℕ) → IsFromBoot frames trace programs es t → IsSome (view t.state p) → p < t.state.next_pid

-- from boot the only calls in progress are those that may wait
abbrev pub OnlyWaitersAreInCalls : Type 0
OnlyWaitersAreInCalls =
    (frames trace : ℕ) (programs : List ProgramFile) (es : List (Event × Outcome)) (t : World) (p : ℕ) (v : View) (c : Call) → IsFromBoot frames trace programs es t → view t.state p ≡ Some v → v.call ≡ Some c
    → Contains waiting_calls c.number

-- runs join, and are split
abbrev pub RunsJoin : Type 0
RunsJoin = (w m t : World) (es fs : List (Event × Outcome)) → IsRun w es m → IsRun m fs t → IsRun w (es ++ fs) t

abbrev pub RunsSplit : Type 0
RunsSplit = (w t : World) (es fs : List (Event × Outcome)) → IsRun w (es ++ fs) t → (m : World) × IsRun w es m × IsRun m fs t

-- What stands of a step of p from boot: it answers as `own` of what p sees says; p's view, a newborn's first one, every other process's, what the state holds, its open files and its turn part are then what `own` says (`StateAfter`, `TurnsAfter`)
abbrev pub Isolated : Type 0
Isolated =
    (frames trace : ℕ) (programs : List ProgramFile) (es : List (Event × Outcome)) (w t : World) (p : ℕ) (o : Outcome)
    → IsFromBoot frames trace programs es w → IsStepOf p w Run → Happens w Run o t
    → (v : View) × (view w.state p ≡ Some v) × (o ≡ Step_of p (own v).answer) × StateAfter w.state v (own v) t.state × TurnsAfter w.turns p (own v) t.turns

-- ---- over whole runs

-- Each byte of a live process's memory at the end of a run stood in the memory of a process as the run began, or was put there in the run by a step of the process's own, or of one from which its memory came by forks; and no other byte came there since. So no byte is ever seen that another process left in a frame
abbrev pub EachByteHasItsSource : Type 0
EachByteHasItsSource =
    (frames trace : ℕ) (programs : List ProgramFile) (es fs : List (Event × Outcome)) (w t : World) (p page i byte : ℕ)
    → IsFromBoot frames trace programs es w → IsRun w fs t → i < 4096 → Holds t p page i byte
    → ((q : ℕ) × Stands w fs t q p page i byte) ⊎ WasPut w fs t p page i byte

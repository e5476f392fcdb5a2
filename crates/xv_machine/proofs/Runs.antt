-- What a run of the machine leaves: whether it is halted, and what is promised of it.
use Rattle.std.proofs.Common.{◌≡◌, ◌≤◌, ◌≢◌, ℕ, true, false, cond, List, length, Option, Some, None, inl, inr, refl, sym, ap, ◌∙◌, subst, nat_eq}
use Rattle.std.specs.Prelude.{ℤ, IsSome, is_some, option_map}
use Rattle.std.proofs.lemmas.Bool.Decides.{eqb_tells}
use Rattle.hart_core.specs.declared.hart.Hart.{Hart}
use Rattle.std.specs.FinMap.{get}
use Rattle.std.proofs.lemmas.Option.{none-some, same_Some}
use Rattle.circular_buffer.specs.Buffer.{Buffer}
use Rattle.kernel_spec.specs.views.Processes.{Process, Alive, Zombie, parent_of}
use Rattle.kernel_spec.specs.views.State.{live, live_part}
use Rattle.kernel_spec.specs.views.View.{view, view_of}
use Rattle.kernel_spec.specs.steps.Own.{Answer, Stepped, Called, Blocked, Exited, Faulted, gone_with}
use Rattle.kernel_spec.specs.steps.Step.{own}
use Rattle.kernel_spec.specs.runs.Run as runs
use Rattle.kernel_spec.specs.runs.Run.{World, Step_of, TurnTaken, TickHappens, KeyHappens, SendHappens, IsButWoken, of_first, halts_with, stays_current}
use Rattle.kernel_spec.specs.waking.Wakes.{IsRunnable, IsNearest, WakesWhereDue, Promised}
use Rattle.kernel_spec.specs.waking.Turns.{Turns}
use Rattle.kernel_spec.proofs.Common.{the_value}
use Rattle.kcall_core.specs.Kernel.{state_of, IsRunning, pid_now, live_now}
use Rattle.kcall_core.specs.Machine.{turns_of, world_of}
use Rattle.kcall_core.specs.Whole.{IsWhole}
use Rattle.kcall_core.specs.Makes.{Makes, view_now}
use Rattle.kcall_core.specs.declared.kernel.Kernel.{Kernel}
use Rattle.kcall_core.proofs.runs.Promises.{step-promised, turn-promised, idle-promised, halted-promised, tick-promised, key-promised, send-promised}
use Rattle.kcall_core.proofs.turns.Turned.{live-is}
use Rattle.xv_machine.specs.declared.trace.Note.{Note}
use Rattle.xv_machine.specs.declared.event.RunOutcome.{RunOutcome}
use Rattle.xv_machine.specs.Events.{run_outcome_of, halted_by}
use Rattle.xv_machine.specs.Machine.{meaning_of, frames_in}
use Rattle.xv_machine.specs.Meaning.{Meaning}
use Rattle.xv_machine.specs.Sound.{IsHalted, IsSoundMachine}
use Rattle.xv_machine.proofs.Frames.{sound-of}
use Rattle.xv_machine.proofs.OneStep.{stays-there}

none-of : {X Y : Type 0} (f : X → Y) (o : Option X) → option_map f o ≡ None → o ≡ None
none-of f None e = refl
none-of f (Some x) e = absurd (none-some (f x) (sym e))

some-of : {X Y : Type 0} (f : X → Y) (o : Option X) → IsSome (option_map f o) → IsSome o
some-of f None e = e
some-of f (Some x) e = refl

gone-stops : (p : ℕ) (a : Answer) (status : ℤ) → gone_with a ≡ Some status → stays_current p a ≡ None
gone-stops p Stepped status e = absurd (none-some status e)
gone-stops p (Called number value) status e = absurd (none-some status e)
gone-stops p (Blocked number) status e = absurd (none-some status e)
gone-stops p (Exited s) status e = refl
gone-stops p (Faulted cause) status e = refl

-- ---- a step

-- the status that the machine keeps is that with which process 1 went
pub halts-as : (outcome : RunOutcome) (p : ℕ) (a : Answer) → run_outcome_of outcome ≡ Step_of p a → halted_by outcome ≡ halts_with p a
halts-as outcome p a e = ap runs.halted_by e

-- whether p is process 1
first-is : (p : ℕ) (o : Option ℤ) → nat_eq p 1 ≡ true → of_first p o ≡ o
first-is p None e = refl
first-is p (Some status) e = ap (λ b. cond b (Some status) None) e

first-not : (p : ℕ) (o : Option ℤ) → nat_eq p 1 ≡ false → of_first p o ≡ None
first-not p None e = refl
first-not p (Some status) e = ap (λ b. cond b (Some status) None) e

-- process 1 has no parent
first-parent : (k : Kernel) (h : Hart) → IsWhole k h → IsRunning k → pid_now k ≡ 1 → (live_now k h).parent ≡ None
first-parent k h whole runs is =
    let first = whole.well.first (pid_now k) (ap is_some (live-is k h whole.sound runs)) in
    by first.0 (sym first.1 ∙ ap (get (state_of k h).processes) (sym is) ∙ live-is k h whole.sound runs) first.2
  where
    by : (x : Process) → Some x ≡ Some (Alive (live_now k h)) → parent_of x ≡ None → (live_now k h).parent ≡ None
    by x same none = let e : x ≡ Alive (live_now k h) = cc in sym (ap parent_of e) ∙ none

module _ (k k' : Kernel) (h h' : Hart) (whole : IsWhole k h) (runs : IsRunning k) (made : Makes k h (own (view_now k h)) k' h') (first : IsSome (live (state_of k h) 1)) where
  -- process 1 made the step
  first-halts : pid_now k ≡ 1 → (o : Option ℤ) → gone_with (own (view_now k h)).answer ≡ o → IsHalted (state_of k' h') (turns_of k' o) o
  unfolding turns_of view_of
  first-halts is None stays =
      let next : IsSome (view (state_of k' h') (pid_now k)) = ap is_some made.state.next ∙ stays-there (view_now k h) stays in
      subst (λ p. IsSome (live (state_of k' h') p)) is (some-of (view_of (state_of k' h') (pid_now k)) (live (state_of k' h') (pid_now k)) next)
  first-halts is (Some status) gone = (
    ap (get (state_of k' h').processes) (sym is) ∙ made.kept status gone ∙ ap (λ parent. Some (Zombie parent status)) (first-parent k h whole runs is),
    made.turns.current ∙ gone-stops (pid_now k) (own (view_now k h)).answer status gone,
  )

  -- another process did
  other-halts : pid_now k ≢ 1 → IsSome (live (state_of k' h') 1)
  unfolding view_of
  other-halts other =
      let was = the_value (live (state_of k h) 1) first in
      let seen : view (state_of k h) 1 ≡ Some (view_of (state_of k h) 1 was.0) = ap (option_map (view_of (state_of k h) 1)) was.1 in
      let sees = made.state.others 1 (view_of (state_of k h) 1 was.0) (λ e. other (sym e)) seen in
      some-of (view_of (state_of k' h') 1) (live (state_of k' h') 1) (ap is_some sees)

  pub halts-after : let status = halts_with (pid_now k) (own (view_now k h)).answer in IsHalted (state_of k' h') (turns_of k' status) status
  halts-after = elim (eqb_tells (pid_now k) 1) [
    | inl is ↦ subst (λ o. IsHalted (state_of k' h') (turns_of k' o) o) (sym (first-is (pid_now k) (gone_with (own (view_now k h)).answer) is.0))
        (first-halts is.1 (gone_with (own (view_now k h)).answer) refl)
    | inr other ↦ subst (λ o. IsHalted (state_of k' h') (turns_of k' o) o) (sym (first-not (pid_now k) (gone_with (own (view_now k h)).answer) other.0)) (other-halts other.1)
  ]

-- who runs, runs on a machine that isn't halted
pub not-halted : (k : Kernel) (h : Hart) (halted : Option ℤ) → IsHalted (state_of k h) (turns_of k halted) halted → IsRunning k → halted ≡ None
unfolding turns_of
not-halted k h None end runs = refl
not-halted k h (Some status) end runs = absurd (no k.current runs end.1)
  where
    no : (o : Option ℕ) → IsSome o → option_map (λ _. pid_now k) o ≡ None → ⊥
    no None some none = let e : false ≡ true = some in let bad : ⊥ = cc in bad
    no (Some i) some none = none-some (pid_now k) (sym none)

-- a step, with what the machine answers and keeps
pub run-step : (k k' : Kernel) (h h' : Hart) (pid : ℕ) (outcome : RunOutcome) → IsWhole k h → IsRunning k → pid ≡ pid_now k
    → Makes k h (own (view_now k h)) k' h' → run_outcome_of outcome ≡ Step_of pid (own (view_now k h)).answer
    → Promised (world_of k h None) runs.Run (run_outcome_of outcome) (world_of k' h' (halted_by outcome))
run-step k k' h h' pid outcome whole now is made answer =
    let told : run_outcome_of outcome ≡ Step_of (pid_now k) (own (view_now k h)).answer = answer ∙ ap (λ p. Step_of p (own (view_now k h)).answer) is in
    let promised = step-promised k k' h h' whole now made in
    subst (λ o. Promised (world_of k h None) runs.Run o (world_of k' h' (halted_by outcome))) (sym told)
    (subst (λ s. Promised (world_of k h None) runs.Run (Step_of (pid_now k) (own (view_now k h)).answer) (world_of k' h' s))
    (sym (halts-as outcome (pid_now k) (own (view_now k h)).answer told)) promised)

pub run-halts : (k k' : Kernel) (h h' : Hart) (pid : ℕ) (outcome : RunOutcome) → IsWhole k h → IsRunning k → IsSome (live (state_of k h) 1)
    → pid ≡ pid_now k → Makes k h (own (view_now k h)) k' h' → run_outcome_of outcome ≡ Step_of pid (own (view_now k h)).answer
    → IsHalted (state_of k' h') (turns_of k' (halted_by outcome)) (halted_by outcome)
run-halts k k' h h' pid outcome whole now first is made answer =
    let told : run_outcome_of outcome ≡ Step_of (pid_now k) (own (view_now k h)).answer = answer ∙ ap (λ p. Step_of p (own (view_now k h)).answer) is in
    subst (λ s. IsHalted (state_of k' h') (turns_of k' s) s) (sym (halts-as outcome (pid_now k) (own (view_now k h)).answer told)) (halts-after k k' h h' whole now made first)

-- ---- no step

module _ (k : Kernel) (h : Hart) (whole : IsWhole k h) (stopped : k.current ≡ None) where
  pub run-turn : (k' : Kernel) (h' : Hart) (pid : ℕ) → TurnTaken (world_of k h None) (runs.Turn pid) (world_of k' h' None) → IsRunnable (world_of k h None) pid × IsNearest (world_of k h None) pid
      → Promised (world_of k h None) runs.Run (runs.Turn pid) (world_of k' h' None)
  unfolding turns_of
  run-turn k' h' pid taken near = turn-promised k k' h h' whole stopped pid taken near.0 near.1

  pub run-idle : (k' : Kernel) (h' : Hart) → world_of k' h' None ≡ world_of k h None → ((p : ℕ) → ¬ IsRunnable (world_of k h None) p)
      → Promised (world_of k h None) runs.Run runs.Idle (world_of k' h' None)
  unfolding turns_of
  run-idle k' h' same none = idle-promised k k' h h' whole stopped same none

  pub run-halted : (status : ℤ) → Promised (world_of k h (Some status)) runs.Run runs.Halted (world_of k h (Some status))
  unfolding turns_of
  run-halted status = halted-promised k h status runs.Run whole (refl, refl)

-- a tick
pub run-tick : (k k' : Kernel) (h h' : Hart) → TickHappens (world_of k h None) None runs.Ticked (world_of k' h' None) → WakesWhereDue (world_of k h None) runs.Ticked (world_of k' h' None)
    → Promised (world_of k h None) runs.Tick runs.Ticked (world_of k' h' None)
run-tick k k' h h' happens wakes = tick-promised k k' h h' happens wakes

tick-halted : (k : Kernel) (h : Hart) → IsWhole k h → (status : ℤ) → Promised (world_of k h (Some status)) runs.Tick runs.Halted (world_of k h (Some status))
unfolding turns_of
tick-halted k h whole status = halted-promised k h status runs.Tick whole (refl, refl)

-- a key
pub run-key : (k k' : Kernel) (h : Hart) (b : ℕ) (echo : List ℕ) → KeyHappens (world_of k h None) None b (runs.Typed echo) (world_of k' h None)
    → WakesWhereDue (world_of k h None) (runs.Typed echo) (world_of k' h None)
    → Promised (world_of k h None) (runs.Key b) (runs.Typed echo) (world_of k' h None)
run-key k k' h b echo happens wakes = key-promised k k' h h b (runs.Typed echo) happens wakes

key-halted : (k : Kernel) (h : Hart) → IsWhole k h → (b : ℕ) (status : ℤ) → Promised (world_of k h (Some status)) (runs.Key b) runs.Halted (world_of k h (Some status))
unfolding turns_of
key-halted k h whole b status = halted-promised k h status (runs.Key b) whole (refl, refl)

-- ---- at the machine's own calls

pub current-pid : (k : Kernel) (pid : ℕ) → (turns_of k None).current ≡ Some pid → IsRunning k × (pid ≡ pid_now k)
unfolding turns_of
current-pid k pid told = by k.current told
  where
    by : (o : Option ℕ) → option_map (λ (i : ℕ). pid_now k) o ≡ Some pid → IsSome o × (pid ≡ pid_now k)
    by None e = absurd (none-some pid e)
    by (Some i) e = (refl, sym (same_Some (pid_now k) pid e))

pub count-is : (k : Kernel) → (frames_in k).count ≡ length k.memories.ram
unfolding frames_in
count-is k = refl

module _ (k : Kernel) (h : Hart) (halted : Option ℤ) (trace : Buffer Note) (now : Meaning) (is : meaning_of (record { kernel = k; hart = h; halted = halted; trace = trace }) ≡ now) where
  pub now-stopped : now.world.turns.current ≡ None → k.current ≡ None
  unfolding turns_of
  now-stopped stopped = none-of (λ (i : ℕ). pid_now k) k.current (ap (λ (m : Meaning). m.world.turns.current) is ∙ stopped)

  pub now-sound : IsWhole k h → IsHalted (state_of k h) (turns_of k halted) halted → length trace.items ≤ trace.capacity → IsSoundMachine now
  now-sound whole end kept = subst IsSoundMachine is (sound-of k h halted trace kept whole end)

  pub now-frames : length k.memories.ram ≡ now.frames.count
  unfolding frames_in
  now-frames = ap (λ (m : Meaning). m.frames.count) is

  -- a machine that isn't halted
  pub now-promised : (event : runs.Event) (k' : Kernel) (h' : Hart) (kept : Option ℤ) (outcome : runs.Outcome) (after : Option ℤ) → halted ≡ None
      → after ≡ kept → Promised (world_of k h None) event outcome (world_of k' h' kept)
      → Promised now.world event outcome (world_of k' h' after)
  now-promised event k' h' kept outcome after none same promised =
      let at_world : Promised now.world event outcome (world_of k' h' kept) =
      subst (λ (m : Meaning). Promised m.world event outcome (world_of k' h' kept)) is
      (subst (λ s. Promised (world_of k h s) event outcome (world_of k' h' kept)) (sym none) promised) in
      subst (λ s. Promised now.world event outcome (world_of k' h' s)) (sym same) at_world

  -- one that is
  over : (event : runs.Event) → is_some halted ≡ true
      → ((status : ℤ) → Promised (world_of k h (Some status)) event runs.Halted (world_of k h (Some status))) → Promised now.world event runs.Halted now.world
  over event some promised =
      let status = the_value halted some in
      subst (λ (m : Meaning). Promised m.world event runs.Halted m.world) is
      (subst (λ s. Promised (world_of k h s) event runs.Halted (world_of k h s)) (sym status.1) (promised status.0))

  pub now-over : IsWhole k h → k.current ≡ None → is_some halted ≡ true → Promised now.world runs.Run runs.Halted now.world
  now-over whole stopped some = over runs.Run some (run-halted k h whole stopped)

  pub tick-over : IsWhole k h → is_some halted ≡ true → Promised now.world runs.Tick runs.Halted now.world
  tick-over whole some = over runs.Tick some (tick-halted k h whole)

  pub key-over : IsWhole k h → is_some halted ≡ true → (b : ℕ) → Promised now.world (runs.Key b) runs.Halted now.world
  key-over whole some b = over (runs.Key b) some (key-halted k h whole b)

  -- a byte that is sent, on a machine that is halted too
  pub now-sent : (k' : Kernel) (byte : Option ℕ) → SendHappens (world_of k h halted) (runs.Sent byte) (world_of k' h halted)
      → WakesWhereDue (world_of k h halted) (runs.Sent byte) (world_of k' h halted)
      → Promised now.world runs.Send (runs.Sent byte) (world_of k' h halted)
  now-sent k' byte happens wakes =
      subst (λ (m : Meaning). Promised m.world runs.Send (runs.Sent byte) (world_of k' h halted)) is (send-promised (world_of k h halted) (world_of k' h halted) (runs.Sent byte) happens wakes)

-- process 1 lives on a machine that isn't halted
pub first-lives : (k : Kernel) (h : Hart) (halted : Option ℤ) → IsHalted (state_of k h) (turns_of k halted) halted → halted ≡ None → IsSome (live (state_of k h) 1)
first-lives k h halted end none = subst (λ s. IsHalted (state_of k h) (turns_of k s) s) none end

pub still-lives : (k : Kernel) (h : Hart) (halted : Option ℤ) → halted ≡ None → IsSome (live (state_of k h) 1) → IsHalted (state_of k h) (turns_of k halted) halted
still-lives k h halted none lives = subst (λ s. IsHalted (state_of k h) (turns_of k s) s) (sym none) lives

-- and still does after a turn, a tick or a key, which leave the processes
pub lives-on-by : (k k' : Kernel) (h h' : Hart) (halted : Option ℤ) → halted ≡ None → (state_of k' h').processes ≡ (state_of k h).processes
    → IsHalted (state_of k h) (turns_of k halted) halted → IsHalted (state_of k' h') (turns_of k' halted) halted
lives-on-by k k' h h' halted none same end = still-lives k' h' halted none (ap (λ ps. is_some (live_part (get ps 1))) same ∙ first-lives k h halted end none)

-- whether the machine is halted after a byte that is sent
pub sent-ends : (k k' : Kernel) (h : Hart) (halted : Option ℤ) → (state_of k' h).processes ≡ (state_of k h).processes
    → IsButWoken (turns_of k halted) (turns_of k' halted) → IsHalted (state_of k h) (turns_of k halted) halted
    → IsHalted (state_of k' h) (turns_of k' halted) halted
sent-ends k k' h None same stirs lives = ap (λ ps. is_some (live_part (get ps 1))) same ∙ lives
sent-ends k k' h (Some status) same stirs ended = (ap (λ ps. get ps 1) same ∙ ended.0, ap (λ (u : Turns). u.current) stirs.0 ∙ ended.1)

-- whether the machine is halted after a step
pub run-ends : (k k' : Kernel) (h h' : Hart) (halted after : Option ℤ) (pid : ℕ) (outcome : RunOutcome) → IsWhole k h
    → (turns_of k None).current ≡ Some pid → IsHalted (state_of k h) (turns_of k halted) halted → Makes k h (own (view_now k h)) k' h'
    → run_outcome_of outcome ≡ Step_of pid (own (view_now k h)).answer → after ≡ halted_by outcome → IsHalted (state_of k' h') (turns_of k' after) after
run-ends k k' h h' halted after pid outcome whole current end made answer kept =
    let now = current-pid k pid current in
    subst (λ s. IsHalted (state_of k' h') (turns_of k' s) s) (sym kept) (run-halts k k' h h' pid outcome whole now.0 (first-lives k h halted end (not-halted k h halted end now.0)) now.1 made answer)

-- after an instruction that is done the status of process 1 is as it was: none
pub stepped-keeps : (k : Kernel) (h : Hart) (halted : Option ℤ) (pid p : ℕ) (outcome : RunOutcome) → outcome ≡ RunOutcome.Stepped p
    → (turns_of k None).current ≡ Some pid → IsHalted (state_of k h) (turns_of k halted) halted → halted ≡ halted_by outcome
stepped-keeps k h halted pid p outcome is current end =
    not-halted k h halted end (current-pid k pid current).0 ∙ sym (ap halted_by is)

pub kept-is : (k : Kernel) (halted : Option ℤ) → halted ≡ (turns_of k halted).halted
unfolding turns_of
kept-is k halted = refl

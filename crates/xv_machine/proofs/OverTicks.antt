-- The end of a round and the first Run of the next one, as one.
use Rattle.std.proofs.Common.{◌≡◌, ◌≤◌, ◌∙◌, ℕ, [], ◌∷◌, ◌++◌, List, length, replicate, Option, None, Some, inl, inr, refl, sym, ap, subst}
use Rattle.std.specs.Prelude.{ℤ, IsSome, is_some, option_map, slice_get}
use Rattle.std.specs.FinMap.{get}
use Rattle.std.proofs.lemmas.Option.{none-some}
use Rattle.circular_buffer.specs.Buffer.{Buffer, keep_last}
use Rattle.xk_base.specs.declared.limits.TheConstants.{SEND_BYTES}
use Rattle.hart_core.specs.declared.hart.Hart.{Hart}
use Rattle.kernel_spec.specs.views.State.{State, live, live_part}
use Rattle.kernel_spec.specs.waking.Turns.{Turns}
use Rattle.kernel_spec.specs.runs.Run.{World, Run, Tick, Send, Outcome, Ticked, Turn, Idle, Sent, TickHappens, TurnTaken}
use Rattle.kernel_spec.specs.waking.Wakes.{IsNearest, IsRunnable, WakesWhereDue, Promised, IsPromised}
use Rattle.kcall_core.specs.Kernel.{frame_count, state_of, IsRunning, pid_now}
use Rattle.kcall_core.specs.Machine.{resting, turns_of, world_of}
use Rattle.kcall_core.specs.Whole.{IsWhole}
use Rattle.kcall_core.specs.declared.kernel.Kernel.{Kernel}
use Rattle.kcall_core.proofs.runs.Promises.{tick-comes, turn-comes, none-comes}
use Rattle.xv_machine.specs.declared.trace.Note.{Note}
use Rattle.xv_machine.specs.Drives.{GivesTurn, PassesTick}
use Rattle.xv_machine.specs.Machine.{frames_in, meaning_of}
use Rattle.xv_machine.specs.Meaning.{Meaning}
use Rattle.xv_machine.specs.Notes.{note, notes_of}
use Rattle.xv_machine.specs.Sound.{IsHalted, IsSoundMachine}
use Rattle.xv_machine.specs.Stretches.{TicksAndTurns}
use Rattle.xv_machine.proofs.Frames.{sound-of}
use Rattle.xv_machine.proofs.Idle.{idle-send}
use Rattle.xv_machine.proofs.Kept.{kept-within}
use Rattle.xv_machine.proofs.Runs.{first-lives, not-halted, still-lives}
use Rattle.xv_machine.proofs.Sent.{again, goes-kept, kept-twice, notes-again}

-- ---- a machine in which nobody runs

rested-halted : (s : State) (t : Turns) (o : Option ℤ) → IsHalted s t o → IsHalted s (record t { current = None }) o
rested-halted s t None end = end
rested-halted s t (Some status) end = (end.0, refl)

rested-sound : (m : Meaning) → IsSoundMachine m → IsSoundMachine (record m { world = resting m.world })
rested-sound m s = record {
  well = s.well;
  slots = record { some = s.slots.some; only = s.slots.only; below = s.slots.below; last = s.slots.last; current = λ p e. absurd (none-some p e); apart = s.slots.apart };
  unready = λ p v asleep sees. s.unready p v asleep sees;
  halted = rested-halted m.world.state m.world.turns m.world.turns.halted s.halted;
  once = s.once;
  inside = s.inside;
  free = s.free;
  owned = s.owned;
  kept = s.kept;
}

-- with other notes
noted-sound : (m : Meaning) (ns : List Note) → IsSoundMachine m → length ns ≤ m.room → IsSoundMachine (record m { notes = ns })
noted-sound m ns s fits = record {
  well = s.well;
  slots = record { some = s.slots.some; only = s.slots.only; below = s.slots.below; last = s.slots.last; current = s.slots.current; apart = s.slots.apart };
  unready = λ p v asleep sees. s.unready p v asleep sees;
  halted = s.halted;
  once = s.once;
  inside = s.inside;
  free = s.free;
  owned = s.owned;
  kept = fits;
}

-- ---- a tick, and the turn after it

some-of : {X Y : Type 0} (f : X → Y) (o : Option X) → IsSome (option_map f o) → IsSome o
some-of f None e = e
some-of f (Some x) e = refl

module _ (k k1 : Kernel) (h : Hart) (halted : Option ℤ) (trace : Buffer Note) (now : Meaning) (is : meaning_of (record { kernel = k; hart = h; halted = halted; trace = trace }) ≡ now)
    (end : IsHalted (state_of k h) (turns_of k halted) halted) (kept : length trace.items ≤ trace.capacity)
    (running : IsSome now.world.turns.current) (empty : now.world.state.console.to_send ≡ [])
    (whole : IsWhole k1 h) (happens : TickHappens (world_of k h None) None Ticked (resting (world_of k1 h None)))
    (wakes : WakesWhereDue (world_of k h None) Ticked (resting (world_of k1 h None))) (frames : frame_count k1 ≡ frame_count k) where
  runs : IsRunning k
  unfolding turns_of
  runs = some-of (λ (i : ℕ). pid_now k) k.current (ap (λ (m : Meaning). is_some m.world.turns.current) is ∙ running)

  pub goes-on : halted ≡ None
  goes-on = not-halted k h halted end runs

  lives : IsSome (live (state_of k1 h) 1)
  lives = ap (λ (s : State). is_some (live_part (get s.processes 1))) happens.1 ∙ first-lives k h halted end goes-on

  abbrev between : Meaning
  between = record { world = resting (world_of k1 h None); frames = frames_in k1; notes = trace.items; room = trace.capacity }

  between-sound : IsSoundMachine between
  unfolding turns_of
  between-sound = rested-sound (record { world = world_of k1 h None; frames = frames_in k1; notes = trace.items; room = trace.capacity }) (sound-of k1 h None trace kept whole lives)

  ends : IsPromised now.world ((Tick, Ticked) ∷ replicate SEND_BYTES (Send, Sent None)) (resting (world_of k1 h None))
  unfolding turns_of
  ends =
      let w = resting (world_of k1 h None) in
      let tick : Promised now.world Tick Ticked w =
      subst (λ (m : Meaning). Promised m.world Tick Ticked w) is
      (subst (λ (s : Option ℤ). Promised (world_of k h s) Tick Ticked w) (sym goes-on) (tick-comes (world_of k h None) w refl happens wakes)) in
      let nothing : w.state.console.to_send ≡ [] = ap (λ (s : State). s.console.to_send) happens.1 ∙ (ap (λ (m : Meaning). m.world.state.console.to_send) is ∙ empty) in
      (w, tick, again SEND_BYTES w Send (Sent None) (idle-send w whole.unready nothing))

  module _ (k2 : Kernel) (h2 : Hart) (frames2 : frame_count k2 ≡ frame_count k1) where
    as-told : (outcome : Outcome) → GivesTurn outcome → Promised (resting (world_of k1 h None)) Run outcome (world_of k2 h2 None)
        → TicksAndTurns outcome now (meaning_of (record { kernel = k2; hart = h2; halted = halted; trace = trace }))
    unfolding turns_of frames_in
    as-told outcome gives turn = record {
      between = between;
      ends = ends;
      goes_on = refl;
      begins = subst (λ (s : Option ℤ). Promised (resting (world_of k1 h None)) Run outcome (world_of k2 h2 s)) (sym goes-on) turn;
      gives = gives;
      frames_then = frames ∙ ap (λ (m : Meaning). m.frames.count) is;
      frames = frames2 ∙ frames ∙ ap (λ (m : Meaning). m.frames.count) is;
      trace_then = (ap (λ (m : Meaning). m.notes) is, ap (λ (m : Meaning). m.room) is);
      trace = (ap (λ (m : Meaning). m.notes) is, ap (λ (m : Meaning). m.room) is);
      sound = between-sound;
    }

    pub turn-told : (pid : ℕ) → TurnTaken (resting (world_of k1 h None)) (Turn pid) (world_of k2 h2 None)
        → IsRunnable (resting (world_of k1 h None)) pid × IsNearest (resting (world_of k1 h None)) pid
        → TicksAndTurns (Turn pid) now (meaning_of (record { kernel = k2; hart = h2; halted = halted; trace = trace }))
    unfolding turns_of
    turn-told pid taken near = as-told (Turn pid) (inr (pid, refl)) (turn-comes (resting (world_of k1 h None)) (world_of k2 h2 None) refl refl whole.unready pid taken near.0 near.1)

    pub turn-lives : (pid : ℕ) → TurnTaken (resting (world_of k1 h None)) (Turn pid) (world_of k2 h2 None) → IsHalted (state_of k2 h2) (turns_of k2 halted) halted
    turn-lives pid taken = still-lives k2 h2 halted goes-on (ap (λ (w : World). is_some (live w.state 1)) taken.3 ∙ lives)

    pub idle-told : world_of k2 h2 None ≡ resting (world_of k1 h None) → ((p : ℕ) → ¬ IsRunnable (resting (world_of k1 h None)) p)
        → TicksAndTurns Idle now (meaning_of (record { kernel = k2; hart = h2; halted = halted; trace = trace }))
    unfolding turns_of
    idle-told same none = as-told Idle (inl refl) (none-comes (resting (world_of k1 h None)) (world_of k2 h2 None) refl refl whole.unready same none)

    pub idle-lives : world_of k2 h2 None ≡ resting (world_of k1 h None) → IsHalted (state_of k2 h2) (turns_of k2 halted) halted
    idle-lives same = still-lives k2 h2 halted goes-on (ap (λ (w : World). is_some (live w.state 1)) same ∙ lives)

-- ---- and the notes

pub passes : (outcome : Outcome) (old turned noted-tick noted-sends new : Meaning) → TicksAndTurns outcome old turned
    → noted-tick ≡ record turned { notes = keep_last turned.room (turned.notes ++ Note.Ticked ∷ []) }
    → noted-sends ≡ record noted-tick { notes = keep_last noted-tick.room (noted-tick.notes ++ replicate SEND_BYTES (Note.Sent None)) }
    → new ≡ record noted-sends { notes = keep_last noted-sends.room (noted-sends.notes ++ note Run outcome ∷ []) } → IsSoundMachine new → PassesTick old new
passes outcome old turned noted-tick noted-sends new t first second third sound =
    let ns : List Note = Note.Ticked ∷ replicate SEND_BYTES (Note.Sent None) in
    let those : notes_of ((Tick, Ticked) ∷ replicate SEND_BYTES (Send, Sent None)) ≡ ns = ap (λ xs. Note.Ticked ∷ xs) (notes-again SEND_BYTES Send (Sent None)) in
    let both : noted-sends ≡ record turned { notes = keep_last turned.room (turned.notes ++ ns) } =
    kept-twice (Note.Ticked ∷ []) (replicate SEND_BYTES (Note.Sent None)) turned noted-tick noted-sends first second in
    let there : Meaning = record t.between { notes = keep_last t.between.room (t.between.notes ++ ns) } in
    let there-sound : IsSoundMachine there = noted-sound t.between (keep_last t.between.room (t.between.notes ++ ns)) t.sound (kept-within t.between.room (t.between.notes ++ ns)) in
    let same : noted-sends ≡ record turned { notes = there.notes } =
    both ∙ (λ i. record turned { notes = keep_last ((t.trace.1 ∙ sym t.trace_then.1) i) ((t.trace.0 ∙ sym t.trace_then.0) i ++ ns) }) in
    let last : new ≡ record (record turned { notes = there.notes }) { notes = keep_last turned.room (there.notes ++ note Run outcome ∷ []) } =
    third ∙ ap (λ (m : Meaning). record m { notes = keep_last m.room (m.notes ++ note Run outcome ∷ []) }) same in
    record {
      between = there;
      ends = goes-kept ((Tick, Ticked) ∷ replicate SEND_BYTES (Send, Sent None)) ns old t.between there t.ends t.frames_then t.trace_then those refl there-sound;
      goes_on = t.goes_on;
      outcome = outcome;
      gives = t.gives;
      begins = goes-kept ((Run, outcome) ∷ []) (note Run outcome ∷ []) there (record turned { notes = there.notes }) new (turned.world, t.begins, refl) (t.frames ∙ sym t.frames_then)
          (refl, t.trace.1 ∙ sym t.trace_then.1) refl last sound;
    }

pub nothing-waits : (bytes : List ℕ) → slice_get bytes 0 ≡ None → bytes ≡ []
nothing-waits [] e = refl
nothing-waits (b ∷ bytes) e = cc

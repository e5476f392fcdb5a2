-- Instructions of the process that runs that use nothing that is watched, one after another.
use Rattle.kcall_core.proofs.Prelude.{ℕ, ℤ, ◌+◌, ◌-◌, ◌<◌, ◌∙◌, ◌≡◌, ◌≤◌, After, ap, arith, Bool, descriptors_at, false, get, get_or, GoesUnwatched, halts_with, Hart, held_at, IsRunning, IsSome}
use Rattle.kcall_core.proofs.Prelude.{IsSound, IsWhole, Kernel, length, List, live_now, live_of, Makes, MakesAllUnwatched, MakesDoneUnwatched, Memories, None, OnlyKept, OnlyKnown, Option, Own}
use Rattle.kcall_core.proofs.Prelude.{pid_now, place_now, refl, RunsIn, Same, set_live, slot_now, State, state_of, Stays, Step_of, StepsDoneUnwatched, StepsUnwatched, subst, suc, sym, true, turns_of}
use Rattle.kcall_core.proofs.Prelude.{TurnsAfter, WakesWhereDue, world_of, zero}
use Rattle.kcall_core.proofs.table.States.{Goes, goes-sound, goes-state, running}
use Rattle.kcall_core.proofs.turns.Turned.{live-is}
use Rattle.kcall_core.proofs.making.Instructions.{set-again, step-done, stays-same}
use Rattle.kcall_core.proofs.memory.Unwatched.{known-same}
use Rattle.rv64i_core.specs.declared.execution.Stop.TheVariants as stops
use Rattle.kernel_spec.specs.steps.Cases as laws

-- ---- what is known of code and what the hart keeps become others

module _ (k k' : Kernel) (h h' : Hart) (sound : IsSound k h) (runs : IsRunning k) (kernel : k' ≡ record k { memories = k'.memories })
    (memories : OnlyKnown k.memories k'.memories) (regs : h'.regs ≡ h.regs) where
  same : Same k.memories k'.memories
  same = known-same k.memories k'.memories memories sound.memories

  goes : Goes k k'
  goes = record { table = ap (λ (x : Kernel). x.table) kernel; current = ap (λ (x : Kernel). x.current) kernel; each = λ j ne. ap (λ l. get_or l j None) same.each }

  kept-sound : RunsIn k'.memories (slot_now k) h' → IsSound k' h'
  kept-sound there =
      let r = running k h sound runs in
      let has = subst (λ l. IsSome (get_or l (slot_now k) None)) (sym same.each) (sound.lives (slot_now k) r.is.process r.is.is r.is.live) in
      goes-sound k k' h h' sound runs goes same.sound has there

  kept-state : state_of k' h' ≡ state_of k h
  unfolding state_of
  kept-state =
      goes-state k k' h h' sound runs (record {
        goes = goes;
        files = ap (λ (x : Kernel). x.files) kernel;
        pipes = same.pipes;
        console = ap (λ (x : Kernel). x.console) kernel;
        programs = ap (λ (x : Kernel). x.programs.items) kernel;
        clock = ap (λ (x : Kernel). x.clock) kernel;
      })
      ∙ (λ t. record (set_live (pid_now k) (live_of (place_now k) (descriptors_at k.table (slot_now k)) (held_at (same.each t) (slot_now k)) (regs t)) (state_of k h)) { free = same.free t })
      ∙ set-again (state_of k h) (pid_now k) (live_now k h) (live-is k h sound runs)

  kept-turns : (halted : Option ℤ) → turns_of k' halted ≡ turns_of k halted
  unfolding turns_of
  kept-turns halted = ap (λ (x : Kernel). turns_of x halted) kernel

  kept-world : (halted : Option ℤ) → world_of k' h' halted ≡ world_of k h halted
  kept-world halted = λ t. record { state = kept-state t; turns = kept-turns halted t }

  -- what was made is made
  makes-kept : (first : Kernel) (start : Hart) (o : Own) → IsWhole k' h' → Makes first start o k h → Makes first start o k' h'
  makes-kept first start o whole made =
      let halted : Option ℤ = halts_with (pid_now first) o.answer in
      record {
        whole = whole;
        state = subst (After (state_of first start) (pid_now first) (live_now first start) o) (sym kept-state) made.state;
        turns = subst (TurnsAfter (turns_of first None) (pid_now first) o) (sym (kept-turns halted)) made.turns;
        wakes = subst (WakesWhereDue (world_of first start None) (Step_of (pid_now first) o.answer)) (sym (kept-world halted)) made.wakes;
        kept = λ status is. ap (λ (s : State). get s.processes (pid_now first)) kept-state ∙ made.kept status is;
        frames = same.frames ∙ made.frames;
      }

pub kept-stays : (k : Kernel) (h : Hart) (k' : Kernel) (h' : Hart) → IsSound k h → IsRunning k → OnlyKept k h k' h' → Stays k h k' h'
kept-stays k h k' h' sound runs is = record {
  whole = is.whole;
  world = kept-world k k' h h' sound runs is.kernel is.memories is.regs None;
  frames = ap length is.memories.ram;
}

-- as the memories tell it
only-kept : (k : Kernel) (h : Hart) (new : Memories) (h' : Hart) → IsWhole k h → IsRunning k → OnlyKnown k.memories new → h'.regs ≡ h.regs → RunsIn new (slot_now k) h'
    → OnlyKept k h (record k { memories = new }) h'
only-kept k h new h' whole runs known regs there =
    let k' : Kernel = record k { memories = new } in
    let sound = kept-sound k k' h h' whole.sound runs refl known regs there in
    record {
      whole = (stays-same k new h h' whole (same k k' h h' whole.sound runs refl known regs).frames sound (kept-state k k' h h' whole.sound runs refl known regs)).whole;
      kernel = refl;
      memories = known;
      regs = regs;
    }

kept-twice : (k : Kernel) (h : Hart) (mid : Kernel) (between : Hart) (k' : Kernel) (h' : Hart) → OnlyKept k h mid between → OnlyKept mid between k' h' → OnlyKept k h k' h'
kept-twice k h mid between k' h' a b = record {
  whole = b.whole;
  kernel = b.kernel ∙ ap (λ (x : Kernel). record x { memories = k'.memories }) a.kernel;
  memories = record {
    ram = b.memories.ram ∙ a.memories.ram;
    pool = b.memories.pool ∙ a.memories.pool;
    each = b.memories.each ∙ a.memories.each;
    pipes = b.memories.pipes ∙ a.memories.pipes;
  };
  regs = b.regs ∙ a.regs;
}

-- ---- one after another

-- so many are made, and the process is between two of them
pub record IsMade (addresses bytes : List ℕ) (most made : ℕ) (first : Kernel) (start : Hart) (k : Kernel) (h : Hart) : Type 0 where
  pub done : MakesDoneUnwatched addresses bytes made first start k h
  pub whole : IsWhole k h
  pub running : IsRunning k
  pub free : laws.IsBetweenCalls (live_now k h)
  pub fits : made ≤ most

module _ (addresses bytes : List ℕ) (most : ℕ) (first : Kernel) (start : Hart) where
  abbrev So : ℕ → Kernel → Hart → Type 0
  So made k h = IsMade addresses bytes most made first start k h

  -- none yet
  pub none-made : IsWhole first start → IsRunning first → laws.IsBetweenCalls (live_now first start) → So 0 first start
  none-made whole runs free = record {
    done = record { whole = whole; kernel = refl; memories = record { ram = refl; pool = refl; each = refl; pipes = refl }; regs = refl };
    whole = whole;
    running = runs;
    free = free;
    fits = omega arith;
  }

  -- after them only what is kept becomes another
  kept-done : (made : ℕ) (k : Kernel) (h : Hart) (k' : Kernel) (h' : Hart) → IsSound k h → IsRunning k → OnlyKept k h k' h'
      → MakesDoneUnwatched addresses bytes made first start k h → MakesDoneUnwatched addresses bytes made first start k' h'
  kept-done zero k h k' h' sound runs kept done = kept-twice first start k h k' h' done kept
  kept-done (suc made) k h k' h' sound runs kept (mid, between, before, free, goes, one) =
      (mid, between, before, free, goes, makes-kept k k' h h' sound runs kept.kernel kept.memories kept.regs mid between _ kept.whole one)

  -- one more
  one-made : (made : ℕ) (k : Kernel) (h : Hart) (new : Memories) (h' : Hart) → So made k h → made < most → StepsUnwatched addresses bytes true k.memories new (slot_now k) h h'
      → So (suc made) (record k { memories = new }) h'
  one-made made k h new h' is few step =
      let made_so = step-done k new h h' stops.Next is.whole is.running step.1 is.free refl in
      record { done = (k, h, is.done, is.free, step.0, made_so); whole = made_so.whole; running = is.running; free = is.free; fits = omega (arith, few) }

  -- a row of them
  row-made : (count made : ℕ) (k : Kernel) (h : Hart) (new : Memories) (h' : Hart) → So made k h → made + count ≤ most
      → StepsDoneUnwatched addresses bytes count (slot_now k) k.memories h new h' → So (made + count) (record k { memories = new }) h'
  row-made zero made k h new h' is few (known, regs, there) =
      let kept = only-kept k h new h' is.whole is.running known regs there in
      let none : made ≡ made + zero = omega arith in
      subst (λ n. So n (record k { memories = new }) h') none (record {
        done = kept-done made k h (record k { memories = new }) h' is.whole.sound is.running kept is.done;
        whole = kept.whole;
        running = is.running;
        free = is.free;
        fits = is.fits;
      })
  row-made (suc count) made k h new h' is few (mid, between, before, step) =
      let so_far = row-made count made k h mid between is (omega (arith, few)) before in
      let more : suc (made + count) ≡ made + suc count = omega arith in
      subst (λ n. So n (record k { memories = new }) h') more (one-made (made + count) (record k { memories = mid }) between new h' so_far (omega (arith, few)) step)

  module _ (made : ℕ) (k : Kernel) (h : Hart) (is : So made k h) where
    here : RunsIn k.memories (slot_now k) h
    here = (running k h is.whole.sound is.running).is.runs

    pub in-slot : (slot : ℕ) × RunsIn k.memories slot h
    in-slot = (slot_now k, here)

    pub after-row : (count : ℕ) (new : Memories) (h' : Hart) → count ≤ most - made
        → ((slot : ℕ) → RunsIn k.memories slot h → StepsDoneUnwatched addresses bytes count slot k.memories h new h') → So (made + count) (record k { memories = new }) h'
    after-row count new h' few each = row-made count made k h new h' is (omega (arith, is.fits, few)) (each (slot_now k) here)

    pub after-one : (done : Bool) (new : Memories) (h' : Hart) → done ≡ true → made < most
        → ((slot : ℕ) → RunsIn k.memories slot h → StepsUnwatched addresses bytes done k.memories new slot h h') → So (made + 1) (record k { memories = new }) h'
    after-one done new h' is_done few each =
        let step = subst (λ b. StepsUnwatched addresses bytes b k.memories new (slot_now k) h h') is_done (each (slot_now k) here) in
        let more : suc made ≡ made + 1 = omega arith in
        subst (λ n. So n (record k { memories = new }) h') more (one-made made k h new h' is few step)

    -- the next one is no such
    pub stopped : (done : Bool) (new : Memories) (h' : Hart) → done ≡ false
        → ((slot : ℕ) → RunsIn k.memories slot h → StepsUnwatched addresses bytes done k.memories new slot h h')
        → MakesAllUnwatched addresses bytes most made first start (record k { memories = new }) h'
    stopped done new h' is_done each =
        let (refused, stay, regs, there) = subst (λ b. StepsUnwatched addresses bytes b k.memories new (slot_now k) h h') is_done (each (slot_now k) here) in
        let kept = only-kept k h k.memories h' is.whole is.running (record { ram = refl; pool = refl; each = refl; pipes = refl }) regs there in
        subst (λ (m : Memories). MakesAllUnwatched addresses bytes most made first start (record k { memories = m }) h') (sym stay) (record {
          done = kept-done made k h k h' is.whole.sound is.running kept is.done;
          within = is.fits;
          stops = λ few free. subst (λ r. ¬ GoesUnwatched addresses bytes r (live_now k h).image) (sym regs) refused;
        })

    -- all are made
    pub all-made : most ≤ made → MakesAllUnwatched addresses bytes most made first start k h
    all-made all = record { done = is.done; within = is.fits; stops = λ few. absurd (omega (arith, few, all)) }

-- Instructions of the process that runs that use nothing that is watched.
use Rattle.std.proofs.Common.{◌≡◌, ℕ, zero, suc, ◌<◌, ◌≤◌, List, [], ◌∷◌, ◌++◌, append_assoc, length, replicate, Option, None, Some}
use Rattle.std.proofs.Common.{inl, inr, refl, sym, ap, ◌∙◌, subst, arith, add-one}
use Rattle.std.specs.Prelude.{ℤ, IsSome, option_map, get_or}
use Rattle.std.proofs.lemmas.Bool.{true≢false}
use Rattle.std.proofs.lemmas.List.{replicate_more}
use Rattle.std.proofs.lemmas.Option.{same_Some}
use Rattle.circular_buffer.specs.Buffer.{Buffer, buffer, keep_last}
use Rattle.rv64i_core.specs.declared.execution.Stop.TheVariants as stops
use Rattle.xk_base.specs.declared.limits.TheConstants.{NPROC}
use Rattle.frame_list.specs.Pool.{free_in}
use Rattle.proc_table.specs.Slots.{place_at}
use Rattle.hart_core.specs.declared.hart.Hart.{Hart}
use Rattle.kernel_spec.specs.views.Processes.{Live}
use Rattle.kernel_spec.specs.views.ByPid.{by_pid}
use Rattle.kernel_spec.specs.views.State.{live, live_part}
use Rattle.kernel_spec.specs.steps.Own.{Stepped}
use Rattle.kernel_spec.specs.steps.Cases as laws
use Rattle.kernel_spec.specs.runs.Run.{Run, Step_of}
use Rattle.kernel_spec.specs.waking.Wakes.{Promised}
use Rattle.kcall_core.specs.Kernel.{state_of, IsRunning, pid_now, live_now}
use Rattle.kcall_core.specs.Machine.{turns_of, world_of}
use Rattle.kcall_core.specs.Whole.{IsWhole}
use Rattle.kcall_core.specs.Makes.{stop_now}
use Rattle.kcall_core.specs.Watched.{GoesUnwatched, MakesAllUnwatched, MakesDoneUnwatched, OnlyKept}
use Rattle.kcall_core.specs.declared.kernel.Kernel.{Kernel}
use Rattle.kcall_core.proofs.making.Staying.{still-runs}
use Rattle.kcall_core.proofs.making.TouchedSteps.{stop-plain}
use Rattle.kcall_core.proofs.making.Unwatched.{kept-stays}
use Rattle.kcall_core.proofs.memory.Stepping.{next-no-fault}
use Rattle.kcall_core.proofs.turns.Turned.{live-is}
use Rattle.kcall_core.proofs.table.States.{running}
use Rattle.xv_machine.specs.declared.trace.Note.{Note}
use Rattle.xv_machine.specs.Instructions.{RunsUnwatched, AreUnwatched, noted}
use Rattle.xv_machine.specs.Machine.{meaning_of, frames_in, owned_entry}
use Rattle.xv_machine.specs.Meaning.{Meaning}
use Rattle.xv_machine.specs.Sound.{IsHalted}
use Rattle.xv_machine.specs.Steps.{IsBusy, Did}
use Rattle.xv_machine.proofs.Frames.{sound-of}
use Rattle.xv_machine.proofs.Kept.{keep-all, keep-more, kept-within}
use Rattle.xv_machine.proofs.Advances.{is-on, now-running}
use Rattle.xv_machine.proofs.Repeated.{did-none, did-more, did-stays, step-done, some-none}
use Rattle.xv_machine.proofs.Runs.{current-pid, count-is, first-lives, still-lives}

-- ---- in the kernel

pub busy-unwatched : (addresses bytes : List ℕ) (k : Kernel) (h : Hart) (most : ℕ) → IsWhole k h → IsBusy (live_now k h) → MakesAllUnwatched addresses bytes most 0 k h k h
busy-unwatched addresses bytes k h most whole busy = record {
  done = record { whole = whole; kernel = refl; memories = record { ram = refl; pool = refl; each = refl; pipes = refl }; regs = refl };
  within = omega arith;
  stops = λ few free. absurd (busy-free busy free);
}
  where
    busy-free : IsBusy (live_now k h) → laws.IsBetweenCalls (live_now k h) → ⊥
    busy-free (inl killed) free = true≢false (sym killed ∙ free.0)
    busy-free (inr call) free = some-none (live_now k h).call call free.1

-- where only what is kept is another, each frame has the owner that it had
kept-frames : (k : Kernel) (h : Hart) (k' : Kernel) (h' : Hart) → OnlyKept k h k' h' → frames_in k' ≡ frames_in k
unfolding frames_in
kept-frames k h k' h' is =
    let m = is.memories in
    let table : k'.table ≡ k.table = ap (λ (x : Kernel). x.table) is.kernel in
    λ t. record {
      count = length (m.ram t);
      free = free_in (m.pool t) (m.ram t);
      owned = by_pid (λ slot. owned_entry (m.ram t) (place_at (table t) slot) (get_or (m.each t) slot None)) NPROC;
    }

-- ---- as the machine sees them

running-now : (k : Kernel) (h : Hart) → IsWhole k h → IsRunning k → (turns_of k None).current ≡ Some (pid_now k)
unfolding turns_of
running-now k h whole runs = ap (option_map (λ (i : ℕ). pid_now k)) (running k h whole.sound runs).current

live-now : (k : Kernel) (h : Hart) → IsWhole k h → IsRunning k → live (state_of k h) (pid_now k) ≡ Some (live_now k h)
live-now k h whole runs = ap live_part (live-is k h whole.sound runs)

module _ (addresses bytes : List ℕ) (trace : Buffer Note) (p : ℕ) where
  abbrev Steps : ℕ → List Note
  Steps n = replicate n (Note.Stepped p)

  abbrev traced : ℕ → Buffer Note
  traced n = buffer (keep_last trace.capacity (trace.items ++ Steps n)) trace.capacity

  abbrev seen : ℕ → Kernel → Hart → Meaning
  seen n k h = meaning_of (record { kernel = k; hart = h; halted = None; trace = traced n })

  -- one note more
  one-note : (n : ℕ) → keep_last trace.capacity (trace.items ++ Steps (suc n)) ≡ keep_last trace.capacity (keep_last trace.capacity (trace.items ++ Steps n) ++ Note.Stepped p ∷ [])
  one-note n =
      let more : Steps n ++ Note.Stepped p ∷ [] ≡ Steps (suc n) = replicate_more n (Note.Stepped p) ∙ ap Steps (add-one n) in
      ap (λ ns. keep_last trace.capacity (trace.items ++ ns)) (sym more)
      ∙ ap (keep_last trace.capacity) (sym (append_assoc trace.items (Steps n) (Note.Stepped p ∷ [])))
      ∙ sym (keep-more trace.capacity (trace.items ++ Steps n) (Note.Stepped p ∷ []))

  now-runs : (k : Kernel) (h : Hart) → IsWhole k h → IsRunning k → pid_now k ≡ p → laws.IsBetweenCalls (live_now k h)
      → GoesUnwatched addresses bytes (live_now k h).regs (live_now k h).image → RunsUnwatched addresses bytes (world_of k h None)
  now-runs k h whole runs is free goes = (p, live_now k h, now, lives, free, goes)
    where
      now : (turns_of k None).current ≡ Some p
      now = running-now k h whole runs ∙ ap Some is

      lives : live (state_of k h) p ≡ Some (live_now k h)
      lives = ap (live (state_of k h)) (sym is) ∙ live-now k h whole runs

  chain : (n : ℕ) (k : Kernel) (h : Hart) (k' : Kernel) (h' : Hart) → IsWhole k h → IsRunning k → IsSome (live (state_of k h) 1) → pid_now k ≡ p
      → MakesDoneUnwatched addresses bytes n k h k' h' → Did k h n k' h' × AreUnwatched addresses bytes p n (seen 0 k h) (seen n k' h')
  chain zero k h k' h' whole runs first is kept =
      let stays = kept-stays k h k' h' whole.sound runs kept in
      let frames = kept-frames k h k' h' kept in (
        did-stays k k k' h h h' 0 (did-none k h whole runs first) stays (still-runs k k' h h' whole.sound runs stays),
        λ t. record (seen 0 k h) { world = stays.world t; frames = frames t },
      )
  chain (suc n) k h k' h' whole runs first is (mid, between, before, free, goes, made) =
      let (did, so_far) = chain n k h mid between whole runs first is before in
      let next : stop_now mid between ≡ stops.Next = sym (stop-plain mid between stops.Next (sym goes.done) next-no-fault) in
      let pid : pid_now mid ≡ p = did.pid ∙ is in
      let one = step-done mid k' between h' did.whole did.running free next made in
      let after = subst (λ m. Did k h m k' h') (add-one n) (did-more k mid k' h between h' n did free next made) in (
        after,
        (
          seen n mid between,
          so_far,
          now-runs mid between did.whole did.running pid free goes,
          record {
            promised = subst (λ q. Promised (world_of mid between None) Run (Step_of q Stepped) (world_of k' h' None)) pid one;
            notes = one-note n;
            room = refl;
            frames = count-is k' ∙ made.frames ∙ sym (count-is mid);
            sound = sound-of k' h' None (traced (suc n)) (kept-within trace.capacity (trace.items ++ Steps (suc n))) after.whole (still-lives k' h' None refl after.first);
          },
        ),
      )

-- what they leave, and why there are no more
module _ (addresses bytes : List ℕ) (k : Kernel) (h : Hart) (most made : ℕ) (k' : Kernel) (h' : Hart) (is : MakesAllUnwatched addresses bytes most made k h k' h')
    (whole : IsWhole k h) (runs : IsRunning k) (first : IsSome (live (state_of k h) 1)) (p : ℕ) (pid : pid_now k ≡ p) (trace : Buffer Note) (kept : length trace.items ≤ trace.capacity) where
  all : Did k h made k' h' × AreUnwatched addresses bytes p made (seen addresses bytes trace p 0 k h) (seen addresses bytes trace p made k' h')
  all = chain addresses bytes trace p made k h k' h' whole runs first pid is.done

  pub unwatched-did : Did k h made k' h'
  unwatched-did = all.0

  -- as a machine that isn't halted
  abbrev meant : Kernel → Hart → Meaning
  meant kernel hart = meaning_of (record { kernel = kernel; hart = hart; halted = None; trace = trace })

  pub unwatched-made : AreUnwatched addresses bytes p made (meant k h) (noted p made (meant k' h'))
  unwatched-made =
      let start : seen addresses bytes trace p 0 k h ≡ meant k h = λ t. record (seen addresses bytes trace p 0 k h) { notes = keep-all trace.capacity trace.items kept t } in
      subst (λ m. AreUnwatched addresses bytes p made m (noted p made (meant k' h'))) start all.1

  pub unwatched-stops : made < most → ¬ RunsUnwatched addresses bytes (world_of k' h' None)
  unwatched-stops few (q, l, current, lives, free, goes) =
      let did = all.0 in
      let now : q ≡ pid_now k' = same_Some q (pid_now k') (sym current ∙ running-now k' h' did.whole did.running) in
      let same : live_now k' h' ≡ l = same_Some (live_now k' h') l (sym (live-now k' h' did.whole did.running) ∙ ap (live (state_of k' h')) (sym now) ∙ lives) in
      is.stops few (subst (λ x. laws.IsBetweenCalls x) (sym same) free) (subst (λ (x : Live). GoesUnwatched addresses bytes x.regs x.image) (sym same) goes)

-- ---- at the machine's own call

module _ (addresses bytes : List ℕ) (k : Kernel) (h : Hart) (halted : Option ℤ) (trace : Buffer Note) (now : Meaning) (p : ℕ)
    (sees : meaning_of (record { kernel = k; hart = h; halted = halted; trace = trace }) ≡ now) (current : now.world.turns.current ≡ Some p)
    (whole : IsWhole k h) (end : IsHalted (state_of k h) (turns_of k halted) halted) (kept : length trace.items ≤ trace.capacity)
    (most made : ℕ) (k' : Kernel) (h' : Hart) (is : MakesAllUnwatched addresses bytes most made k h k' h') where
  runs-here : IsRunning k × (p ≡ pid_now k)
  runs-here = current-pid k p (now-running k h halted trace now p sees current)

  on : halted ≡ None
  on = is-on k h halted p (now-running k h halted trace now p sees current) end

  lives-here : IsSome (live (state_of k h) 1)
  lives-here = first-lives k h halted end on

  did : Did k h made k' h'
  did = unwatched-did addresses bytes k h most made k' h' is whole runs-here.0 lives-here p (sym runs-here.1) trace kept

  pub now-whole : IsWhole k' h'
  now-whole = did.whole

  pub now-lives : IsHalted (state_of k' h') (turns_of k' halted) halted
  now-lives = still-lives k' h' halted on did.first

  pub now-made : AreUnwatched addresses bytes p made now (noted p made (meaning_of (record { kernel = k'; hart = h'; halted = halted; trace = trace })))
  now-made =
      let before : meaning_of (record { kernel = k; hart = h; halted = None; trace = trace }) ≡ now =
      sym (ap (λ (s : Option ℤ). meaning_of (record { kernel = k; hart = h; halted = s; trace = trace })) on) ∙ sees in
      subst (λ m. AreUnwatched addresses bytes p made m (noted p made (meaning_of (record { kernel = k'; hart = h'; halted = halted; trace = trace })))) before
      (subst (λ (s : Option ℤ). AreUnwatched addresses bytes p made (meaning_of (record { kernel = k; hart = h; halted = None; trace = trace }))
      (noted p made (meaning_of (record { kernel = k'; hart = h'; halted = s; trace = trace })))) (sym on)
      (unwatched-made addresses bytes k h most made k' h' is whole runs-here.0 lives-here p (sym runs-here.1) trace kept))

  pub now-stops : made < most → ¬ RunsUnwatched addresses bytes (world_of k' h' halted)
  now-stops few = subst (λ (s : Option ℤ). ¬ RunsUnwatched addresses bytes (world_of k' h' s)) (sym on)
      (unwatched-stops addresses bytes k h most made k' h' is whole runs-here.0 lives-here p (sym runs-here.1) trace kept few)

-- The timer interrupts: the clock counts, nobody runs any more, and those who count ticks wake.
use Rattle.kcall_core.proofs.Prelude.{channel_of, Holds, Option, Process, resting, unless_woken}
use Rattle.kcall_core.proofs.Prelude.{ℕ, ◌%◌, ◌+◌, ◌||◌, ◌∙◌, ◌≡◌, ◌⊎◌, ap, AreCounted, Bool, Channel, CLOCK_ROUND, descriptors_at, each_changed, false, frame_count, Hart, inl, inr, is_for, is_open}
use Rattle.kcall_core.proofs.Prelude.{IsEnd, IsInCall, IsSound, IsWhole, KeepBuffers, Kernel, length, Live, live, namings, None, none-some, NPROC, opens_tick, option_map, pid_now, place_at}
use Rattle.kcall_core.proofs.Prelude.{place_is_live, process_pid, ready, ready_is, refl, same_channel, same_Some, sleepers_below, Slots, slots_of, Some, State, state_of, subst, sym, table, Ticked}
use Rattle.kcall_core.proofs.Prelude.{TickHappens, true, turns_of, View, view_of, waits_for, WakesWhereDue, WellFormed, woken, woken_by, world_of}
use Rattle.kcall_core.proofs.turns.Turned.{slots-same}
use Rattle.kcall_core.proofs.table.Woken.{woken-channel, place-each, live-woken, each-woken}
use Rattle.kcall_core.proofs.turns.StepSlots.{same-pid}
use Rattle.kcall_core.proofs.making.Sleepers.{Sleeping, changed-stays, changed-slept, slept-before, wakes-due, on-channels, unready}
use Rattle.kernel_spec.proofs.waking.TickWaits.{counts-ticks, on-clock, is-clock, time-clock, in-thirteen, call-same}
use Rattle.file_table.specs.OpenFiles as files
use Rattle.proc_table.specs.declared.channel.Channel.TheVariants as on
use Rattle.kernel_spec.proofs.well.WellLaws as well

-- What a tick leaves, whether or not the process that ran stays in the hart
pub record HasTicked (k : Kernel) (h : Hart) (k' : Kernel) (h' : Hart) : Type 0 where
  pub sound : IsSound k' h'
  pub files : k'.files ≡ k.files
  pub frames : frame_count k' ≡ frame_count k
  pub table : k'.table ≡ each_changed (woken on.Clock) k.table
  pub state : state_of k' h' ≡ record (state_of k h) { clock = ((state_of k h).clock + 1) % CLOCK_ROUND }

module _ {k : Kernel} {h : Hart} {k' : Kernel} {h' : Hart} (whole : IsWhole k h) (x : HasTicked k h k' h') where
  abbrev s : State
  s = state_of k h

  abbrev t : State
  t = record s { clock = (s.clock + 1) % CLOCK_ROUND }

  abbrev wakes : Channel → Bool
  wakes d = same_channel d on.Clock

  places : (j : ℕ) → place_at k'.table j ≡ option_map (woken_by wakes) (place_at k.table j)
  places j = ap (λ (u : Slots). place_at u j) (x.table ∙ each-woken wakes on.Clock k.table (λ d. refl)) ∙ place-each (woken_by wakes) k.table j

  slots : slots_of k'.table ≡ slots_of k.table
  slots = slots-same k.table k'.table (λ j. ap (option_map process_pid) (places j) ∙ same-pid (woken_by wakes) (λ y. refl) (place_at k.table j))

  is-due : (q : ℕ) (l : Live) (v : View) (d : Channel) → view_of t q l ≡ v → is_for (waits_for s q l) d ≡ true → l.killed ≡ false → is_open s (waits_for s q l) ≡ false
      → (ready v ≡ true) ⊎ (IsInCall 13 v × (Ticked ≡ Ticked)) ⊎ ((q ≡ 1) × IsInCall 3 v × IsEnd Ticked) → wakes d ≡ true
  is-due q l v d same waits unmarked shut (inl may) =
      let opened : is_open t (waits_for s q l) ≡ true = (λ i. (sym unmarked i) || is_open t (waits_for s q l)) ∙ sym (ready_is t q l) ∙ ap ready same ∙ may in
      time-clock (waits_for s q l) d (opens_tick s ((s.clock + 1) % CLOCK_ROUND) (waits_for s q l) shut opened) waits
  is-due q l v d same waits unmarked shut (inr (inl ((c, is, number), e))) = on-clock s q l c d (call-same t q l v same ∙ is) number waits
  is-due q l v d same waits unmarked shut (inr (inr (one, call, (p, a, e, some)))) = let no : ⊥ = cc in absurd no

  sleeping : Sleeping k h k' h' Ticked (pid_now k) None (λ q. wakes)
  sleeping = record {
    stays = λ j y c at on-it. changed-stays (λ q. wakes) (woken_by wakes) (λ y. refl) (woken-channel wakes) (places j) y c at on-it;
    slept = λ j y c at on-it. inl (changed-slept (λ q. wakes) (woken_by wakes) (λ y. refl) (woken-channel wakes) (places j) y c at on-it);
    itself = λ c m is lives. absurd (none-some c is);
    waits = λ q z l m was is. (λ i. waits_for (x.state i) q (same-live q l m was is i));
    due = λ q z l m was is its unmarked shut.
        let same : view_of t q l ≡ view_of (state_of k' h') q m = λ i. view_of (sym x.state i) q (sym (same-live q l m was is) i) in (
          λ up. inr (inl (in-thirteen t q l (view_of (state_of k' h') q m) same (counts-ticks s q l (subst (λ a. is_for (waits_for s q l) a ≡ true) (is-clock z.channel up) its)), refl)),
          λ due. is-due q l (view_of (state_of k' h') q m) z.channel same its unmarked shut due,
        );
  }
    where
      same-live : (q : ℕ) (l m : Live) → live s q ≡ Some l → live (state_of k' h') q ≡ Some m → m ≡ l
      same-live q l m was is = same_Some m l (sym is ∙ ap (λ (u : State). live u q) x.state ∙ was)

  counted : AreCounted k'.files k'.table
  counted = subst (λ fs. AreCounted fs k'.table) (sym x.files) (record {
    counts = λ file. whole.counted.counts file ∙ ap (λ (u : Slots). namings u file) (sym (ap (λ (u : Slots). record k.table { descriptors = u.descriptors }) x.table));
    lists = λ j lt. ap (λ (u : Slots). length (descriptors_at u j)) x.table ∙ whole.counted.lists j lt;
    closed = λ j dead. ap (λ (u : Slots). descriptors_at u j) x.table ∙ whole.counted.closed j (sym (ap place_is_live (places j) ∙ live-woken wakes (place_at k.table j)) ∙ dead);
  })

  pub tick-whole : ((slot : ℕ) (p : Process) → k'.current ≡ Some slot → Holds k'.table slot p → channel_of p ≡ None) → IsWhole k' h'
  unfolding turns_of
  tick-whole awake = record {
    sound = x.sound;
    well = subst (λ n. WellFormed n (state_of k' h')) (sym x.frames)
        (subst (WellFormed (frame_count k)) (sym x.state)
        (well.outside (frame_count k) s ((s.clock + 1) % CLOCK_ROUND) s.console whole.well
        (record { typed = whole.well.keys; sent_later = whole.well.to_send })));
    files = subst files.IsTable (sym x.files) whole.files;
    counted = counted;
    channels = on-channels whole x.sound sleeping;
    awake = awake;
    unready = unready whole x.sound sleeping;
    buffers = subst KeepBuffers (sym x.state) whole.buffers;
  }

  -- nobody is in the hart
  pub none-awake : k'.current ≡ None → (slot : ℕ) (p : Process) → k'.current ≡ Some slot → Holds k'.table slot p → channel_of p ≡ None
  none-awake stopped slot p is at = absurd (none-some slot (sym stopped ∙ is))

  -- whoever was there still is
  pub same-awake : k'.current ≡ k.current → (slot : ℕ) (p : Process) → k'.current ≡ Some slot → Holds k'.table slot p → channel_of p ≡ None
  same-awake same slot p is at = by (place_at k.table slot) refl (sym (places slot) ∙ at)
    where
      by : (o : Option Process) → place_at k.table slot ≡ o → option_map (woken_by wakes) o ≡ Some p → channel_of p ≡ None
      by None was e = absurd (none-some p e)
      by (Some y) was e =
          ap channel_of (sym (same_Some (woken_by wakes y) p e)) ∙ woken-channel wakes y ∙ ap (unless_woken wakes) (whole.awake slot y (sym same ∙ is) was)

  pub tick-happens : TickHappens (world_of k h None) None Ticked (resting (world_of k' h' None))
  unfolding turns_of
  tick-happens = (
    refl,
    x.state,
    (
      (λ i. record {
        slots = slots i;
        sleepers = sleepers_below k'.table NPROC;
        last = (x.table i).last;
        current = None;
        halted = None;
      }),
      λ q asleep. elim (slept-before whole x.sound sleeping q asleep) [ inl before ↦ before | inr fell ↦ let no : ⊥ = cc in absurd no ],
    ),
  )

  pub tick-due : WakesWhereDue (world_of k h None) Ticked (world_of k' h' None)
  tick-due = wakes-due whole x.sound sleeping None

-- ---- the code: nobody runs, the clock counts, and those who sleep on it wake

abbrev pub clocked : ℕ → Kernel → Kernel
clocked n k = record k { clock = n }

pub clocked-sound : (k : Kernel) (h : Hart) (n : ℕ) → IsSound k h → IsSound (clocked n k) h
clocked-sound k h n sound = record {
  memories = sound.memories;
  table = sound.table;
  lives = sound.lives;
  ended = sound.ended;
  vacant = sound.vacant;
  current = λ slot at. let c = sound.current slot at in record { process = c.process; is = c.is; live = c.live; runs = c.runs };
  idle = sound.idle;
}

clocked-state : (k : Kernel) (h : Hart) (n : ℕ) → state_of (clocked n k) h ≡ record (state_of k h) { clock = n }
unfolding state_of
clocked-state k h n = refl

now-clock : (k : Kernel) (h : Hart) → (state_of k h).clock ≡ k.clock
unfolding state_of
now-clock k h = refl

-- (k0 is the kernel before the clock counts)
pub has-ticked : (k k0 k' : Kernel) (h h1 : Hart) (n : ℕ) → IsSound k0 h1
    → k0 ≡ record k { memories = k0.memories; current = k0.current } → frame_count k0 ≡ frame_count k → state_of k0 h1 ≡ state_of k h
    → n ≡ (k0.clock + 1) % CLOCK_ROUND
    → k'.table ≡ each_changed (woken on.Clock) k0.table → k' ≡ record (clocked n k0) { table = k'.table }
    → (IsSound (clocked n k0) h1 → IsSound k' h1) → state_of k' h1 ≡ state_of (clocked n k0) h1 → HasTicked k h k' h1
has-ticked k k0 k' h h1 n sound0 rest0 frames0 state0 count table rest sound state = record {
  sound = sound (clocked-sound k0 h1 n sound0);
  files = ap (λ (y : Kernel). y.files) rest ∙ ap (λ (y : Kernel). y.files) rest0;
  frames = ap (λ (y : Kernel). length y.memories.ram) rest ∙ frames0;
  table = table ∙ ap (λ (y : Kernel). each_changed (woken on.Clock) y.table) rest0;
  state = state ∙ clocked-state k0 h1 n ∙ (λ i. record (state0 i) { clock = (count ∙ ap (λ m. (m + 1) % CLOCK_ROUND) (ap (λ (y : Kernel). y.clock) rest0 ∙ sym (now-clock k h))) i });
}

-- the kernel in which nobody runs any more
pub paused-first : (k k0 : Kernel) → k0.current ≡ None → k0 ≡ record k { memories = k0.memories; current = None } → k0 ≡ record k { memories = k0.memories; current = k0.current }
paused-first k k0 stopped rest = rest ∙ (λ i. record k { memories = k0.memories; current = sym stopped i })

-- nobody ran already
pub rests-already : (k : Kernel) (h : Hart) → k.current ≡ None → resting (world_of k h None) ≡ world_of k h None
unfolding turns_of
rests-already k h stopped = λ i. record {
  state = state_of k h;
  turns = record (turns_of k None) { current = option_map (λ _. pid_now k) (sym stopped i) };
}

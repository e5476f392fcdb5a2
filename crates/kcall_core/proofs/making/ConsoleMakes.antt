-- A key is typed, or a byte is sent: the console is another, and those wake who wait for what has come.
use Rattle.kcall_core.proofs.Prelude.{[], ℕ, ℤ, ◌||◌, ◌∙◌, ◌∷◌, ◌≡◌, ◌≢◌, ◌≤◌, ◌⊎◌, and_right, and_true, ap, AreCounted, arith, Bool, Bytes, Channel, channel_of, Child_of, Condition, Console}
use Rattle.kcall_core.proofs.Prelude.{descriptors_at, drop, each_changed, false, first_sent, frame_count, free_of, Hart, HasNoProcess, inl, inr, is_for, is_open, is_some, IsButWoken, IsEnd, IsInCall}
use Rattle.kcall_core.proofs.Prelude.{IsSound, IsWhole, IsWithinLimits, KeepBuffers, Kernel, KeyHappens, Keys, length, List, Live, live, lt-ltb, namings, nat_lt, no_process, None, none-some, NPROC}
use Rattle.kcall_core.proofs.Prelude.{Option, option_map, or_nobody, or_zero, Outcome, pid_now, pipes_of, place_at, place_is_live, Process, process_pid, ready, ready_is, refl, Room, same_Some}
use Rattle.kcall_core.proofs.Prelude.{SEND_BYTES, SendHappens, Sending, Sent, sent, sleepers_below, slice_get, slot_now, Slots, slots_of, Some, State, state_of, subst, sym, Ticked, Time, true}
use Rattle.kcall_core.proofs.Prelude.{turns_of, Typed, View, view_of, waits_for, wakes_if, WakesWhereDue, WellFormed, woken_by, world_of}
use Rattle.console_core.specs.Keys.{line}
use Rattle.console_core.proofs.KeyKeeps.{key-sends-nothing}
use Rattle.kcall_core.proofs.table.Deserted.{wakes-nobody, console-within}
use Rattle.kcall_core.proofs.table.Woken.{woken-channel, place-each, live-woken, stirred-state, stirred-sound}
use Rattle.kcall_core.proofs.turns.StepSlots.{same-pid}
use Rattle.kcall_core.proofs.turns.Turned.{slots-same}
use Rattle.kcall_core.proofs.making.Sleepers.{Sleeping, changed-stays, changed-slept, slept-before, wakes-due, on-channels, unready}
use Rattle.file_table.specs.OpenFiles as files
use Rattle.proc_table.specs.declared.channel.Channel.TheVariants as on
use Rattle.kernel_spec.proofs.well.WellLaws as well

-- What is left: the console is another, those on some channels woke, and all else stays
pub record HasConsole (k : Kernel) (console : Console) (wakes : Channel → Bool) (k' : Kernel) : Type 0 where
  pub table : k'.table ≡ each_changed (woken_by wakes) k.table
  pub rest : k' ≡ record k { table = k'.table; console = console }
  pub within : IsWithinLimits console

-- Those channels wake on which the console has now what is waited for; no other does. It needs to be right only for what wasn't there before
pub record WakeOnConsole (wakes : Channel → Bool) (before after : Console) : Type 0 where
  pub keys : nat_lt 0 (length before.committed) ≡ false → wakes on.Keys ≡ nat_lt 0 (length after.committed)
  pub sending : nat_lt (length before.to_send) SEND_BYTES ≡ false → wakes on.Sending ≡ nat_lt (length after.to_send) SEND_BYTES
  pub children : (q : ℕ) → wakes (on.Children q) ≡ false
  pub bytes : (i : ℕ) → wakes (on.Bytes i) ≡ false
  pub room : (i : ℕ) → wakes (on.Room i) ≡ false
  pub clock : wakes on.Clock ≡ false

-- so they are those who may go on
opens-on-console : (s : State) (console : Console) (wakes : Channel → Bool) → WakeOnConsole wakes s.console console
    → (c : Condition) (channel : Channel) → is_for c channel ≡ true → is_open s c ≡ false → wakes channel ≡ is_open (record s { console = console }) c
opens-on-console s console wakes x (Child_of q) (on.Children r) e shut = x.children r ∙ sym shut
opens-on-console s console wakes x (Bytes i) (on.Bytes f) e shut = x.bytes f ∙ sym shut
opens-on-console s console wakes x (Room i) (on.Room f) e shut = x.room f ∙ sym shut
opens-on-console s console wakes x (Time since ticks) on.Clock e shut = x.clock ∙ sym shut
opens-on-console s console wakes x Keys on.Keys e shut = x.keys shut
opens-on-console s console wakes x Sending on.Sending e shut = x.sending shut
opens-on-console s console wakes x c channel e shut = let no : ⊥ = cc in absurd no

-- ---- the kernel with another console

abbrev consoled : Console → Kernel → Kernel
consoled console k = record k { console = console }

consoled-sound : (k : Kernel) (h : Hart) (console : Console) → IsSound k h → IsSound (consoled console k) h
consoled-sound k h console sound = record {
  memories = sound.memories;
  table = sound.table;
  lives = sound.lives;
  ended = sound.ended;
  vacant = sound.vacant;
  current = λ slot at. let c = sound.current slot at in record { process = c.process; is = c.is; live = c.live; runs = c.runs };
  idle = sound.idle;
}

consoled-state : (k : Kernel) (h : Hart) (console : Console) → state_of (consoled console k) h ≡ record (state_of k h) { console = console }
unfolding state_of
consoled-state k h console = refl

now-console : (k : Kernel) (h : Hart) → (state_of k h).console ≡ k.console
unfolding state_of
now-console k h = refl

-- ---- what it is for all

module _ {k : Kernel} {console : Console} {wakes : Channel → Bool} {k' : Kernel} (x : HasConsole k console wakes k') where
  frames-same : frame_count k' ≡ frame_count k
  frames-same = ap (λ (y : Kernel). length y.memories.ram) x.rest

  files-same : k'.files ≡ k.files
  files-same = ap (λ (y : Kernel). y.files) x.rest

  places : (j : ℕ) → place_at k'.table j ≡ option_map (woken_by wakes) (place_at k.table j)
  places j = ap (λ (u : Slots). place_at u j) x.table ∙ place-each (woken_by wakes) k.table j

  -- a kernel without a process stays one
  pub console-nobody : HasNoProcess k → HasNoProcess k'
  console-nobody nobody = record {
    table = x.table ∙ ap (each_changed (woken_by wakes)) nobody.table ∙ ap (λ ps. record (no_process 1) { places = ps }) (wakes-nobody (woken_by wakes) NPROC);
    current = ap (λ (y : Kernel). y.current) x.rest ∙ nobody.current;
    files = files-same ∙ nobody.files;
    pipes = ap (λ (y : Kernel). pipes_of y.memories) x.rest ∙ nobody.pipes;
    free = ap (λ (y : Kernel). free_of y.memories) x.rest ∙ nobody.free ∙ sym frames-same;
  }

-- ---- a whole kernel

module _ {k : Kernel} {console : Console} {wakes : Channel → Bool} {k' : Kernel} {h : Hart} {o : Outcome} (x : HasConsole k console wakes k')
    (whole : IsWhole k h) (due : WakeOnConsole wakes (state_of k h).console console) (no-tick : o ≢ Ticked) (no-end : IsEnd o → ⊥) where
  abbrev s : State
  s = state_of k h

  abbrev t : State
  t = record s { console = console }

  state : state_of k' h ≡ t
  state = stirred-state (consoled console k) k' wakes x.table x.rest h ∙ consoled-state k h console

  sound : IsSound k' h
  sound = stirred-sound (consoled console k) k' wakes x.table x.rest h (consoled-sound k h console whole.sound)

  current-same : k'.current ≡ k.current
  current-same = ap (λ (y : Kernel). y.current) x.rest

  slots : slots_of k'.table ≡ slots_of k.table
  slots = slots-same k.table k'.table (λ j. ap (option_map process_pid) (places x j) ∙ same-pid (woken_by wakes) (λ y. refl) (place_at k.table j))

  pids : pid_now k' ≡ pid_now k
  pids = ap (λ (i : Option ℕ). (or_nobody (place_at k'.table (or_zero i))).pid) current-same
      ∙ ap (λ (y : Option Process). (or_nobody y).pid) (places x (slot_now k)) ∙ by (place_at k.table (slot_now k))
    where
      by : (y : Option Process) → (or_nobody (option_map (woken_by wakes) y)).pid ≡ (or_nobody y).pid
      by None = refl
      by (Some y) = refl

  is-due : (q : ℕ) (v : View) (d : Channel) → ready v ≡ wakes d → (ready v ≡ true) ⊎ (IsInCall 13 v × (o ≡ Ticked)) ⊎ ((q ≡ 1) × IsInCall 3 v × IsEnd o) → wakes d ≡ true
  is-due q v d is (inl may) = sym is ∙ may
  is-due q v d is (inr (inl (call, tick))) = absurd (no-tick tick)
  is-due q v d is (inr (inr (one, call, end))) = absurd (no-end end)

  same-live : (q : ℕ) (l m : Live) → live s q ≡ Some l → live (state_of k' h) q ≡ Some m → m ≡ l
  same-live q l m was is = same_Some m l (sym is ∙ ap (λ (u : State). live u q) state ∙ was)

  sleeping : Sleeping k h k' h o (pid_now k) None (λ q. wakes)
  sleeping = record {
    stays = λ j y c at on-it. changed-stays (λ q. wakes) (woken_by wakes) (λ y. refl) (woken-channel wakes) (places x j) y c at on-it;
    slept = λ j y c at on-it. inl (changed-slept (λ q. wakes) (woken_by wakes) (λ y. refl) (woken-channel wakes) (places x j) y c at on-it);
    itself = λ c m is lives. absurd (none-some c is);
    waits = λ q z l m was is. (λ i. waits_for (state i) q (same-live q l m was is i));
    due = λ q z l m was is its unmarked shut.
        let same : view_of t q l ≡ view_of (state_of k' h) q m = λ i. view_of (sym state i) q (sym (same-live q l m was is) i) in
        let opened : wakes z.channel ≡ is_open t (waits_for s q l) = opens-on-console s console wakes due (waits_for s q l) z.channel its shut in
        let is-ready : ready (view_of (state_of k' h) q m) ≡ wakes z.channel = sym (ap ready same) ∙ ready_is t q l ∙ (λ i. unmarked i || is_open t (waits_for s q l)) ∙ sym opened in (
          λ up. inl (is-ready ∙ up),
          λ may. is-due q (view_of (state_of k' h) q m) z.channel is-ready may,
        );
  }

  counted : AreCounted k'.files k'.table
  counted = subst (λ fs. AreCounted fs k'.table) (sym (files-same x)) (record {
    counts = λ file. whole.counted.counts file ∙ ap (λ (u : Slots). namings u file) (sym (ap (λ (u : Slots). record k.table { descriptors = u.descriptors }) x.table));
    lists = λ j lt. ap (λ (u : Slots). length (descriptors_at u j)) x.table ∙ whole.counted.lists j lt;
    closed = λ j dead. ap (λ (u : Slots). descriptors_at u j) x.table ∙ whole.counted.closed j (sym (ap place_is_live (places x j) ∙ live-woken wakes (place_at k.table j)) ∙ dead);
  })

  -- who runs doesn't sleep
  awake : (j : ℕ) (y : Process) → k'.current ≡ Some j → place_at k'.table j ≡ Some y → channel_of y ≡ None
  awake j y runs at = by (channel_of y) refl
    where
      by : (c : Option Channel) → channel_of y ≡ c → c ≡ None
      by None e = refl
      by (Some c) e =
          let (z, was, named, slept) = changed-slept (λ q. wakes) (woken_by wakes) (λ y. refl) (woken-channel wakes) (places x j) y c at e in
          absurd (none-some c (sym (whole.awake j z (sym current-same ∙ runs) was) ∙ slept))

  pub console-whole : IsWhole k' h
  unfolding turns_of
  console-whole = record {
    sound = sound;
    well = subst (λ n. WellFormed n (state_of k' h)) (sym (frames-same x)) (subst (WellFormed (frame_count k)) (sym state) (well.outside (frame_count k) s s.clock console whole.well x.within));
    files = subst files.IsTable (sym (files-same x)) whole.files;
    counted = counted;
    channels = on-channels whole sound sleeping;
    awake = awake;
    unready = unready whole sound sleeping;
    buffers = subst KeepBuffers (sym state) whole.buffers;
  }

  pub console-stirs : (halted : Option ℤ) → IsButWoken (turns_of k halted) (turns_of k' halted)
  unfolding turns_of
  console-stirs halted = (
    (λ i. record { slots = slots i; sleepers = sleepers_below k'.table NPROC; last = (x.table i).last; current = option_map (λ _. pids i) (current-same i); halted = halted }),
    λ q asleep. elim (slept-before whole sound sleeping q asleep) [ inl before ↦ before | inr fell ↦ let no : ⊥ = cc in absurd no ],
  )

  pub console-due : (halted : Option ℤ) → WakesWhereDue (world_of k h halted) o (world_of k' h halted)
  unfolding turns_of
  console-due halted = wakes-due whole sound sleeping halted

-- ---- who wakes

abbrev typed : Console → ℕ → Console
typed c b = (line c b).0

abbrev has-keys : Console → Bool
has-keys c = nat_lt 0 (length c.committed)

key-wakes : (before : Console) (b : ℕ) → WakeOnConsole (wakes_if (has-keys (typed before b)) on.Keys) before (typed before b)
key-wakes before b =
    let due = has-keys (typed before b) in
    record {
      keys = λ shut. and_true due;
      sending = λ shut. and_right due false refl ∙ sym (ap (λ (bytes : List ℕ). nat_lt (length bytes) SEND_BYTES) (key-sends-nothing before b) ∙ shut);
      children = λ q. and_right due false refl;
      bytes = λ i. and_right due false refl;
      room = λ i. and_right due false refl;
      clock = and_right due false refl;
    }

abbrev has-bytes : Console → Bool
has-bytes c = is_some (slice_get c.to_send 0)

send-wakes : (before : Console) → IsWithinLimits before → WakeOnConsole (wakes_if (has-bytes before) on.Sending) before (sent before)
send-wakes before within =
    let due = has-bytes before in
    record {
      keys = λ shut. and_right due false refl ∙ sym shut;
      sending = λ shut. and_true due ∙ by before.to_send within.sent_later shut;
      children = λ q. and_right due false refl;
      bytes = λ i. and_right due false refl;
      room = λ i. and_right due false refl;
      clock = and_right due false refl;
    }
  where
    by : (bytes : List ℕ) → length bytes ≤ SEND_BYTES → nat_lt (length bytes) SEND_BYTES ≡ false → is_some (slice_get bytes 0) ≡ nat_lt (length (drop 1 bytes)) SEND_BYTES
    by [] below shut = let no : ⊥ = cc in absurd no
    by (b ∷ bytes) below shut = sym (lt-ltb (length bytes) SEND_BYTES (omega (arith, below)))

first-byte : (bytes : List ℕ) → slice_get bytes 0 ≡ first_sent bytes
first-byte [] = refl
first-byte (b ∷ bytes) = refl

-- ---- a key

no-tick-typed : (echo : List ℕ) → Typed echo ≢ Ticked
no-tick-typed echo e = let no : ⊥ = cc in no

no-end-typed : (echo : List ℕ) → IsEnd (Typed echo) → ⊥
no-end-typed echo (p, a, e, some) = let no : ⊥ = cc in no

no-tick-sent : (byte : Option ℕ) → Sent byte ≢ Ticked
no-tick-sent byte e = let no : ⊥ = cc in no

no-end-sent : (byte : Option ℕ) → IsEnd (Sent byte) → ⊥
no-end-sent byte (p, a, e, some) = let no : ⊥ = cc in no

abbrev HasKey : Kernel → ℕ → Kernel → Type 0
HasKey k b k' = HasConsole k (typed k.console b) (wakes_if (has-keys (typed k.console b)) on.Keys) k'

module _ {k k' : Kernel} {h : Hart} (b : ℕ) (x : HasKey k b k') (echo : List ℕ) (whole : IsWhole k h) where
  key-due : WakeOnConsole (wakes_if (has-keys (typed k.console b)) on.Keys) (state_of k h).console (typed k.console b)
  key-due = subst (λ (c : Console). WakeOnConsole (wakes_if (has-keys (typed k.console b)) on.Keys) c (typed k.console b)) (sym (now-console k h)) (key-wakes k.console b)

  pub key-whole : IsWhole k' h
  key-whole = console-whole {o = Typed echo} x whole key-due (no-tick-typed echo) (no-end-typed echo)

  pub key-happens : echo ≡ (line k.console b).1 → KeyHappens (world_of k h None) None b (Typed echo) (world_of k' h None)
  key-happens shows = (
    ap Typed (shows ∙ ap (λ (c : Console). (line c b).1) (sym (now-console k h))),
    state x whole key-due (no-tick-typed echo) (no-end-typed echo) ∙ (λ i. record (state_of k h) { console = typed (sym (now-console k h) i) b }),
    console-stirs x whole key-due (no-tick-typed echo) (no-end-typed echo) None,
  )

  pub key-wakes-due : WakesWhereDue (world_of k h None) (Typed echo) (world_of k' h None)
  key-wakes-due = console-due x whole key-due (no-tick-typed echo) (no-end-typed echo) None

-- ---- a byte that is sent

abbrev HasSent : Kernel → Kernel → Type 0
HasSent k k' = HasConsole k (sent k.console) (wakes_if (has-bytes k.console) on.Sending) k'

module _ {k k' : Kernel} {h : Hart} (x : HasSent k k') (byte : Option ℕ) (whole : IsWhole k h) where
  send-due : WakeOnConsole (wakes_if (has-bytes k.console) on.Sending) (state_of k h).console (sent k.console)
  send-due = subst (λ (c : Console). WakeOnConsole (wakes_if (has-bytes k.console) on.Sending) c (sent k.console)) (sym (now-console k h)) (send-wakes k.console (console-within k h whole))

  pub send-whole : IsWhole k' h
  send-whole = console-whole {o = Sent byte} x whole send-due (no-tick-sent byte) (no-end-sent byte)

  pub send-happens : byte ≡ slice_get k.console.to_send 0 → (halted : Option ℤ) → SendHappens (world_of k h halted) (Sent byte) (world_of k' h halted)
  send-happens first halted = (
    ap Sent (first ∙ first-byte k.console.to_send ∙ ap (λ (c : Console). first_sent c.to_send) (sym (now-console k h))),
    state x whole send-due (no-tick-sent byte) (no-end-sent byte) ∙ (λ i. record (state_of k h) { console = sent (sym (now-console k h) i) }),
    console-stirs x whole send-due (no-tick-sent byte) (no-end-sent byte) halted,
  )

  pub send-wakes-due : (halted : Option ℤ) → WakesWhereDue (world_of k h halted) (Sent byte) (world_of k' h halted)
  send-wakes-due halted = console-due x whole send-due (no-tick-sent byte) (no-end-sent byte) halted

-- ---- the code: the console takes a key or gives a byte, and those wake for whom that is due

pub has-key : (k k' : Kernel) (b committed : ℕ) (console : Console) → console ≡ typed k.console b → IsWithinLimits console → committed ≡ length console.committed
    → k'.table ≡ each_changed (woken_by (wakes_if (nat_lt 0 committed) on.Keys)) k.table → k' ≡ record k { table = k'.table; console = console } → HasKey k b k'
has-key k k' b committed console is within counts table rest = record {
  table = table ∙ ap (λ n. each_changed (woken_by (wakes_if (nat_lt 0 n) on.Keys)) k.table) (counts ∙ ap (λ (c : Console). length c.committed) is);
  rest = rest ∙ ap (λ (c : Console). record k { table = k'.table; console = c }) is;
  within = subst IsWithinLimits is within;
}

pub has-sent : (k k' : Kernel) (is_due : Bool) (byte : Option ℕ) (console : Console) → console ≡ sent k.console → IsWithinLimits console → byte ≡ slice_get k.console.to_send 0 → is_due ≡ is_some byte
    → k'.table ≡ each_changed (woken_by (wakes_if is_due on.Sending)) k.table → k' ≡ record k { table = k'.table; console = console } → HasSent k k'
has-sent k k' is_due byte console is within first told table rest = record {
  table = table ∙ ap (λ due. each_changed (woken_by (wakes_if due on.Sending)) k.table) (told ∙ ap is_some first);
  rest = rest ∙ ap (λ (c : Console). record k { table = k'.table; console = c }) is;
  within = subst IsWithinLimits is within;
}

-- A call that has done its work and is about to answer, or to sleep: what it has changed by then, and that with its answer, or asleep, it makes the step that its row tells.
-- The work may be on descriptors, open files, pipes, the console and the process's own image; it may have woken others.
use Rattle.kcall_core.proofs.Prelude.{ℕ, ℤ, ◌∙◌, ◌≡◌, ◌⊎◌, After, Alive, ap, AreCounted, asleep, Blocked, Bool, Bytes, Call, Called, changed_at, changed_state, Channel, channel_of, Child_of, cond}
use Rattle.kcall_core.proofs.Prelude.{Condition, Console, eqb-true, false, family, FilesLeft, FinMap, frame_count, get, get_same, Hart, has_bytes, has_room, in_call, inl, inr, insert-twice, is_for}
use Rattle.kcall_core.proofs.Prelude.{is_open, is_some, IsBlocked, IsLive, IsRunning, IsSome, IsSound, IsWhole, KeepsBuffer, KeepsTargets, Kernel, Keys, length, Live, live_now, Makes, nat_cmp, nat_lt}
use Rattle.kcall_core.proofs.Prelude.{None, none-some, OpenFile, Option, option_map, or_gone, or_nobody, or_zero, Own, own_state, pid_now, Pipe, place_at, place_now, Process, ready, refl, Registers}
use Rattle.kcall_core.proofs.Prelude.{Room, same_Some, SEND_BYTES, Sending, slot_now, Slots, Some, State, state_of, status_of, subst, sym, Time, true, unless_woken, view_of, waits_for, WellFormed}
use Rattle.kcall_core.proofs.Prelude.{with_a0, with_answer, woken_by, word}
use Rattle.std.proofs.Math.ListN.{length-set}
use Rattle.kcall_core.proofs.table.States.{running}
use Rattle.kcall_core.proofs.turns.Turned.{live-is}
use Rattle.kcall_core.proofs.table.OnePlace.{ItsPlace, changed-place, place-counted, place-join, in-call-lives, in-call-channel, asleep-lives, asleep-channel}
use Rattle.kcall_core.proofs.turns.WhoRuns.{place-is, place-lives, now-is}
use Rattle.kcall_core.proofs.turns.StepSlots.{KeepsAll}
use Rattle.kcall_core.proofs.table.Woken.{woken_by-status, woken-channel}
use Rattle.kcall_core.proofs.making.CallAnswers.{IsDone}
use Rattle.kcall_core.proofs.files.Namings.{files-left}
use Rattle.kcall_core.proofs.making.Buffers.{no-call-keeps}
use Rattle.kcall_core.proofs.making.Filing.{filed-makes}
use Rattle.file_table.specs.OpenFiles as files
use Rattle.proc_table.specs.declared.channel.Channel.TheVariants as on
use Rattle.kernel_spec.specs.steps.Updates as update
use Rattle.kernel_spec.proofs.well.WellLaws as well

-- ---- who wakes

-- Those channels wake whose pipe, or console, has what is waited for now; no other does. It needs to be right only for what nobody could have had before
pub record WakeOn (wakes : Channel → Bool) (before after : FinMap nat_cmp Pipe) (console now : Console) : Type 0 where
  pub bytes : (i : ℕ) → has_bytes (or_gone (get before i)) ≡ false → wakes (on.Bytes i) ≡ has_bytes (or_gone (get after i))
  pub room : (i : ℕ) → has_room (or_gone (get before i)) ≡ false → wakes (on.Room i) ≡ has_room (or_gone (get after i))
  pub keys : nat_lt 0 (length console.committed) ≡ false → wakes on.Keys ≡ nat_lt 0 (length now.committed)
  pub sending : nat_lt (length console.to_send) SEND_BYTES ≡ false → wakes on.Sending ≡ nat_lt (length now.to_send) SEND_BYTES
  pub children : (q : ℕ) → wakes (on.Children q) ≡ false
  pub clock : wakes on.Clock ≡ false

pub wakes-open : (s : State) (p : ℕ) (l m : Live) (files : FinMap nat_cmp OpenFile) (pipes : FinMap nat_cmp Pipe) (console : Console) (free : ℕ)
    (wakes : Channel → Bool) → get s.processes p ≡ Some (Alive l) → m.parent ≡ l.parent → WakeOn wakes s.pipes pipes s.console console
    → (c : Condition) (channel : Channel) → is_for c channel ≡ true → is_open s c ≡ false → wakes channel ≡ is_open (changed_state p m files pipes console free s) c
wakes-open s p l m files pipes console free wakes was parent x (Child_of q) (on.Children r) e shut = x.children r ∙ sym (family s p l m files pipes console free was parent q ∙ shut)
wakes-open s p l m files pipes console free wakes was parent x (Bytes i) (on.Bytes f) e shut = ap (λ n. wakes (on.Bytes n)) (sym (eqb-true i f e)) ∙ x.bytes i shut
wakes-open s p l m files pipes console free wakes was parent x (Room i) (on.Room f) e shut = ap (λ n. wakes (on.Room n)) (sym (eqb-true i f e)) ∙ x.room i shut
wakes-open s p l m files pipes console free wakes was parent x (Time since ticks) on.Clock e shut = x.clock ∙ sym shut
wakes-open s p l m files pipes console free wakes was parent x Keys on.Keys e shut = x.keys shut
wakes-open s p l m files pipes console free wakes was parent x Sending on.Sending e shut = x.sending shut
wakes-open s p l m files pipes console free wakes was parent x c channel e shut = let no : ⊥ = cc in absurd no

-- ---- midway

-- The process that runs is b now, which has the parent that it had; these are the open files, pipes, console and free frames; and those who sleep on these channels were woken
pub record Midway (k : Kernel) (h : Hart) (k1 : Kernel) (h1 : Hart) (wakes : Channel → Bool) (b : Live) (left : FinMap nat_cmp OpenFile)
    (ends : FinMap nat_cmp Pipe) (console : Console) (free : ℕ) : Type 0 where
  pub sound : IsSound k1 h1
  pub table : files.IsTable k1.files
  pub counted : AreCounted k1.files k1.table
  pub frames : frame_count k1 ≡ frame_count k
  pub current : k1.current ≡ k.current
  pub last : k1.table.last ≡ k.table.last
  pub places : (j : ℕ) → place_at k1.table j ≡ option_map (woken_by wakes) (place_at k.table j)
  pub state : state_of k1 h1 ≡ changed_state (pid_now k) b left ends console free (state_of k h)
  pub well : WellFormed (frame_count k) (state_of k1 h1)
  pub parent : b.parent ≡ (live_now k h).parent
  pub wake : WakeOn wakes (state_of k h).pipes ends (state_of k h).console console
  -- what others have open is what it was, or no open file is another
  pub targets : KeepsTargets (state_of k h) (pid_now k) left ⊎ ((file : ℕ) (x : OpenFile) → files.open_file_at k1.files file ≡ Some x → files.open_file_at k.files file ≡ Some x)

-- the process that runs sleeps on a channel, in a call
pub record IsAsleep (k : Kernel) (h : Hart) (c : Call) (on : Channel) (k' : Kernel) (h' : Hart) : Type 0 where
  pub sound : IsSound k' h'
  pub table : k'.table ≡ changed_at (slot_now k) (asleep on) (changed_at (slot_now k) (in_call (Some c)) k.table)
  pub stopped : k'.current ≡ None
  pub files : k'.files ≡ k.files
  pub frames : frame_count k' ≡ frame_count k
  pub state : state_of k' h' ≡ own_state (pid_now k) (update.in_call c (live_now k h)) (state_of k h)

module _ {k : Kernel} {h : Hart} {k1 : Kernel} {h1 : Hart} {wakes : Channel → Bool} {b : Live} {left : FinMap nat_cmp OpenFile} {ends : FinMap nat_cmp Pipe} {console : Console} {free : ℕ}
    (whole : IsWhole k h) (runs : IsRunning k) (x : Midway k h k1 h1 wakes b left ends console free) where
  abbrev s : State
  s = state_of k h

  abbrev p : ℕ
  p = pid_now k

  abbrev l : Live
  l = live_now k h

  was : IsLive s p l
  was = live-is k h whole.sound runs

  slot1 : slot_now k1 ≡ slot_now k
  slot1 = ap or_zero x.current

  runs1 : IsRunning k1
  runs1 = subst (λ o. IsSome o) (sym x.current) runs

  abbrev mid : Process
  mid = woken_by wakes (place_now k)

  mid-is : place_at k1.table (slot_now k) ≡ Some mid
  mid-is = x.places (slot_now k) ∙ ap (option_map (woken_by wakes)) (place-is k h whole.sound runs)

  mid-lives : status_of mid ≡ None
  mid-lives = woken_by-status wakes (place_now k) ∙ place-lives k h whole.sound runs

  mid-awake : channel_of mid ≡ None
  mid-awake = woken-channel wakes (place_now k) ∙ ap (unless_woken wakes) (whole.awake (slot_now k) (place_now k) (running k h whole.sound runs).current (place-is k h whole.sound runs))

  pub midway-pid : pid_now k1 ≡ p
  midway-pid = ap (λ n. (or_nobody (place_at k1.table n)).pid) slot1 ∙ ap (λ o. (or_nobody o).pid) mid-is

  pub midway-live : live_now k1 h1 ≡ b
  midway-live = now-is k1 h1 b x.sound runs1 (ap (λ n. get (state_of k1 h1).processes n) midway-pid ∙ ap (λ (u : State). get u.processes p) x.state ∙ get_same s.processes p (Alive b))

  changed-twice : (m : Live) → own_state p m (changed_state p b left ends console free s) ≡ changed_state p m left ends console free s
  changed-twice m = λ i. record (changed_state p m left ends console free s) { processes = insert-twice s.processes p (Alive b) (Alive m) i }

  -- the process in its place, in another call
  called-place : (call : Option Call) (t : Slots) → t ≡ changed_at (slot_now k1) (in_call call) k1.table → ItsPlace k1.table t (slot_now k) mid (in_call call mid)
  called-place call t e =
      changed-place k1.table t (slot_now k) mid (in_call call) x.sound.table.places (running k h whole.sound runs).inside mid-is mid-lives refl (in-call-lives call mid mid-lives)
      (e ∙ ap (λ n. changed_at n (in_call call) k1.table) slot1)

  -- what it is afterwards has the parent, the mark and the price that it had
  well-for : (k' : Kernel) (h' : Hart) (m : Live) → state_of k' h' ≡ changed_state p m left ends console free s
      → (regs : Registers) (call : Option Call) → m ≡ record b { regs = regs; call = call }
      → WellFormed (frame_count k) (changed_state p m left ends console free s)
  well-for k' h' m state regs call is =
      let s1 = state_of k1 h1 in
      let lives : IsLive s1 (pid_now k1) b = subst (IsLive s1 (pid_now k1)) midway-live (live-is k1 h1 x.sound runs1) in
      let own : own_state (pid_now k1) (record b { regs = regs; call = call }) s1 ≡ changed_state p m left ends console free s =
      (λ i. own_state (midway-pid i) (sym is i) (x.state i)) ∙ changed-twice m in
      subst (WellFormed (frame_count k)) own
      (well.alone (frame_count k) s1 (pid_now k1) b regs b.image call b.killed s1.console s1.free x.well lives refl (record { typed = x.well.keys; sent_later = x.well.to_send }))

  module _ (k' : Kernel) (h' : Hart) (m : Live) (after : Process) (on : Option Channel) (regs : Registers) (call : Option Call)
      (is-m : m ≡ record b { regs = regs; call = call }) (sound : IsSound k' h') (kept-files : k'.files ≡ k1.files) (frames : frame_count k' ≡ frame_count k1)
      (place : ItsPlace k1.table k'.table (slot_now k) mid after) (channel : channel_of after ≡ on)
      (current : k'.current ≡ cond (is_some on) None (Some (slot_now k))) (state : state_of k' h' ≡ changed_state p m left ends console free s) where
    counted : AreCounted k'.files k'.table
    counted = subst (λ f. AreCounted f k'.table) (sym kept-files) (place-counted place x.counted)

    is-table : files.IsTable k'.files
    is-table = subst files.IsTable (sym kept-files) x.table

    targets : KeepsTargets s p left ⊎ FilesLeft s (changed_state p m left ends console free s)
    targets = elim x.targets [
      | inl kept ↦ inl kept
      | inr kept ↦ inr (subst (FilesLeft s) state (files-left k k' h h' sound counted is-table (λ file y there. kept file y (sym (ap (λ f. files.open_file_at f file) kept-files) ∙ there))))
    ]

    pub midway-makes : (o : Own) → KeepsBuffer m.call m.image
        → After s p l o (changed_state p m left ends console free s) → KeepsAll s o → (IsBlocked o.answer → IsSome on) → (IsSome on → IsBlocked o.answer)
        → ((c : Channel) → on ≡ Some c → let t = changed_state p m left ends console free s in (is_for (waits_for t p m) c ≡ true) × (ready (view_of t p m) ≡ false))
        → Makes k h o k' h'
    midway-makes o buffer law keeps blocked sleeps waits = filed-makes whole runs (record {
      sound = sound;
      table = is-table;
      counted = counted;
      frames = frames ∙ x.frames;
      last = place.last ∙ x.last;
      after = after;
      is = place.is;
      pid = place.pid;
      channel = channel;
      current = current;
      others = λ j apart. place.others j apart ∙ x.places j;
      state = state;
      well = well-for k' h' m state regs call is-m;
      buffer = buffer;
      targets = targets;
      opens = wakes-open s p l m left ends console free wakes was (ap (λ (y : Live). y.parent) is-m ∙ x.parent) x.wake;
      waits = waits;
      law = law;
      keeps = keeps;
      blocked = blocked;
      sleeps = sleeps;
    })

  -- ---- the call is done

  pub midway-done : (k' : Kernel) (h' : Hart) (value : ℤ) (o : Own) (number : ℤ) → IsDone k1 h1 value k' h' → o.answer ≡ Called number value
      → KeepsAll s o → After s p l o (changed_state p (with_answer value b) left ends console free s) → Makes k h o k' h'
  midway-done k' h' value o number done answer keeps law =
      midway-makes k' h' (with_answer value b) (in_call None mid) None (with_a0 b.regs (word value)) None refl done.sound
      (ap (λ (y : Kernel). y.files) done.kernel) (ap (λ (y : Kernel). length y.memories.ram) done.kernel)
      (called-place None k'.table (ap (λ (y : Kernel). y.table) done.kernel)) (in-call-channel None mid ∙ mid-awake)
      (ap (λ (y : Kernel). y.current) done.kernel ∙ x.current ∙ (running k h whole.sound runs).current)
      (done.state ∙ (λ i. own_state (midway-pid i) (with_answer value (midway-live i)) (x.state i)) ∙ changed-twice (with_answer value b))
      o (no-call-keeps None b.image refl) law keeps (λ is. absurd (not-blocked is)) (λ some. let no : ⊥ = cc in absurd no) (λ c is. absurd (none-some c is))
    where
      not-blocked : IsBlocked o.answer → ⊥
      not-blocked (n, is) = let e : Called number value ≡ Blocked n = sym answer ∙ is in cc

  -- ---- the process sleeps

  pub midway-sleeps : (k' : Kernel) (h' : Hart) (c : Call) (on : Channel) (o : Own) (number : ℤ) → IsAsleep k1 h1 c on k' h'
      → KeepsBuffer (Some c) b.image → o.answer ≡ Blocked number → KeepsAll s o → After s p l o (changed_state p (update.in_call c b) left ends console free s)
      → (let t = changed_state p (update.in_call c b) left ends console free s in (is_for (waits_for t p (update.in_call c b)) on ≡ true) × (ready (view_of t p (update.in_call c b)) ≡ false))
      → Makes k h o k' h'
  midway-sleeps k' h' c on o number slept buffer answer keeps law waits =
      let between : Slots = changed_at (slot_now k1) (in_call (Some c)) k1.table in
      let called = called-place (Some c) between refl in
      let sleeper : ItsPlace between k'.table (slot_now k) (in_call (Some c) mid) (asleep on (in_call (Some c) mid)) =
      changed-place between k'.table (slot_now k) (in_call (Some c) mid) (asleep on)
      (length-set k1.table.places (slot_now k1) (option_map (in_call (Some c)) (place_at k1.table (slot_now k1))) ∙ x.sound.table.places)
      (running k h whole.sound runs).inside
      called.is called.lives refl (asleep-lives on (in_call (Some c) mid) called.lives) (slept.table ∙ ap (λ n. changed_at n (asleep on) between) slot1) in
      midway-makes k' h' (update.in_call c b) (asleep on (in_call (Some c) mid)) (Some on) b.regs (Some c) refl slept.sound slept.files slept.frames
      (place-join called sleeper) (asleep-channel on (in_call (Some c) mid) called.lives) slept.stopped
      (slept.state ∙ (λ i. own_state (midway-pid i) (update.in_call c (midway-live i)) (x.state i)) ∙ changed-twice (update.in_call c b))
      o buffer law keeps (λ is. refl) (λ some. (number, answer))
      (λ d is. subst (λ a. let t = changed_state p (update.in_call c b) left ends console free s in
      (is_for (waits_for t p (update.in_call c b)) a ≡ true) × (ready (view_of t p (update.in_call c b)) ≡ false)) (same_Some on d is) waits)

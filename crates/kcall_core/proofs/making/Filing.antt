-- A call that changes its process, descriptors, open files, pipes, the console and the free frames: what it has to leave to make the step that its row tells.
use Rattle.kcall_core.proofs.Prelude.{ℕ, ◌||◌, ◌∙◌, ◌≡◌, ◌≢◌, ◌⊎◌, After, Alive, ap, AreCounted, Bool, cases_eq, changed_state, Channel, channel_of, cond, Condition, Console, false, FilesLeft, FinMap}
use Rattle.kcall_core.proofs.Prelude.{frame_count, get_other, get_same, Hart, inl, inr, is_for, is_open, is_some, IsBlocked, IsRunning, IsSome, IsSound, IsWhole, KeepsBuffer, KeepsTargets, Kernel}
use Rattle.kcall_core.proofs.Prelude.{Live, live, live_now, live_part, Makes, nat_cmp, None, OpenFile, Option, option_map, or_nobody, Own, pid_at, pid_now, Pipe, place_at, Process, process_pid, ready}
use Rattle.kcall_core.proofs.Prelude.{refl, same_Some, slot_now, slots_of, Some, State, state_of, subst, sym, true, view_of, waits_for, waits_stay, WellFormed, woken_by}
use Rattle.kcall_core.proofs.table.States.{running}
use Rattle.kcall_core.proofs.turns.Turned.{slots-same, live-is}
use Rattle.kcall_core.proofs.turns.StepSlots.{KeepsAll, same-pid, slots-kept}
use Rattle.kcall_core.proofs.table.Woken.{woken-channel}
use Rattle.kcall_core.proofs.making.Sleepers.{changed-stays, changed-slept}
use Rattle.kcall_core.proofs.making.Buffers.{changed-buffers}
use Rattle.kcall_core.proofs.making.Making.{Itself, Others, made}
use Rattle.file_table.specs.OpenFiles as files

-- The state after it: process p is m, with these open files, pipes, console and free frames
pub record Filed (k : Kernel) (h : Hart) (k' : Kernel) (h' : Hart) (o : Own) (wakes : Channel → Bool) (on : Option Channel) (m : Live)
    (left : FinMap nat_cmp OpenFile) (ends : FinMap nat_cmp Pipe) (console : Console) (free : ℕ) : Type 0 where
  pub sound : IsSound k' h'
  pub table : files.IsTable k'.files
  pub counted : AreCounted k'.files k'.table
  pub frames : frame_count k' ≡ frame_count k
  pub last : k'.table.last ≡ k.table.last
  -- its own place, and all others, where those wake who sleep on one of these channels
  pub after : Process
  pub is : place_at k'.table (slot_now k) ≡ Some after
  pub pid : after.pid ≡ pid_now k
  pub channel : channel_of after ≡ on
  pub current : k'.current ≡ cond (is_some on) None (Some (slot_now k))
  pub others : (j : ℕ) → j ≢ slot_now k → place_at k'.table j ≡ option_map (woken_by wakes) (place_at k.table j)
  -- the state
  pub state : state_of k' h' ≡ changed_state (pid_now k) m left ends console free (state_of k h)
  pub well : WellFormed (frame_count k) (changed_state (pid_now k) m left ends console free (state_of k h))
  -- if it is in a read or a write that has moved bytes, its buffer is there
  pub buffer : KeepsBuffer m.call m.image
  pub targets : KeepsTargets (state_of k h) (pid_now k) left ⊎ FilesLeft (state_of k h) (changed_state (pid_now k) m left ends console free (state_of k h))
  -- who waits for something that was shut wakes exactly where it is open now
  pub opens : (c : Condition) (channel : Channel) → is_for c channel ≡ true → is_open (state_of k h) c ≡ false
      → wakes channel ≡ is_open (changed_state (pid_now k) m left ends console free (state_of k h)) c
  -- where the process sleeps, it does so on a channel of what it waits for, and couldn't go on
  pub waits : (c : Channel) → on ≡ Some c → let t = changed_state (pid_now k) m left ends console free (state_of k h) in
      (is_for (waits_for t (pid_now k) m) c ≡ true) × (ready (view_of t (pid_now k) m) ≡ false)
  pub law : After (state_of k h) (pid_now k) (live_now k h) o (changed_state (pid_now k) m left ends console free (state_of k h))
  pub keeps : KeepsAll (state_of k h) o
  pub blocked : IsBlocked o.answer → IsSome on
  pub sleeps : IsSome on → IsBlocked o.answer

module _ {k : Kernel} {h : Hart} {k' : Kernel} {h' : Hart} {o : Own} {wakes : Channel → Bool} {on : Option Channel} {m : Live}
    {left : FinMap nat_cmp OpenFile} {ends : FinMap nat_cmp Pipe} {console : Console} {free : ℕ}
    (whole : IsWhole k h) (runs : IsRunning k) (x : Filed k h k' h' o wakes on m left ends console free) where
  abbrev s : State
  s = state_of k h

  abbrev p : ℕ
  p = pid_now k

  abbrev t : State
  t = changed_state p m left ends console free s

  live-here : live t p ≡ Some m
  live-here = ap live_part (get_same s.processes p (Alive m))

  live-other : (q : ℕ) → q ≢ p → live t q ≡ live s q
  live-other q apart = ap live_part (get_other s.processes p (Alive m) q apart)

  itself : Itself k h k' h' on
  itself = record {
    after = x.after;
    is = x.is;
    pid = x.pid;
    channel = x.channel;
    current = x.current;
    waits = λ c n is-on lives.
        let same : n ≡ m = same_Some n m (sym lives ∙ ap (λ (u : State). live u p) x.state ∙ live-here) in
        subst (λ (y : State × Live). (is_for (waits_for y.0 p y.1) c ≡ true) × (ready (view_of y.0 p y.1) ≡ false)) (λ i. (sym x.state i, sym same i)) (x.waits c is-on);
  }

  others : Others k h k' h' (λ q c. wakes c)
  others = record {
    stays = λ j y c other at is-on. changed-stays (λ q. wakes) (woken_by wakes) (λ y. refl) (woken-channel wakes) (x.others j other) y c at is-on;
    slept = λ j y c other at is-on. changed-slept (λ q. wakes) (woken_by wakes) (λ y. refl) (woken-channel wakes) (x.others j other) y c at is-on;
    waits = subst (λ u. (q : ℕ) (l n : Live) → q ≢ p → live s q ≡ Some l → live u q ≡ Some n → (waits_for u q n ≡ waits_for s q l) × (l.killed ≡ true → n.killed ≡ true)) (sym x.state)
        ((waits_stay (frame_count k) s p (live_now k h) whole.well (live-is k h whole.sound runs)).0 m left ends console free x.targets);
    due = λ q l n c other was now for-c unmarked shut.
        let same : n ≡ l = same_Some n l (sym now ∙ ap (λ (u : State). live u q) x.state ∙ live-other q other ∙ was) in
        x.opens (waits_for s q l) c for-c shut
        ∙ (λ i. (sym (ap (λ (y : Live). y.killed) same ∙ unmarked)) i || is_open (sym x.state i) (waits_for s q l));
  }

  keeps-slots : slots_of k'.table ≡ slots_of k.table
  keeps-slots =
      let r = running k h whole.sound runs in
      slots-same k.table k'.table (λ j. elim (cases_eq j (slot_now k)) [
        | inl e ↦
            ap (pid_at k'.table) e ∙ ap (option_map process_pid) x.is ∙ ap Some (x.pid ∙ ap (λ (a : Option Process). (or_nobody a).pid) r.is.is)
            ∙ sym (ap (pid_at k.table) e ∙ ap (option_map process_pid) r.is.is)
        | inr other ↦ ap (option_map process_pid) (x.others j other) ∙ same-pid (woken_by wakes) (λ y. refl) (place_at k.table j)
      ])

  pub filed-makes : Makes k h o k' h'
  filed-makes = made whole runs (record {
    leaves = record {
      sound = x.sound;
      well = subst (WellFormed (frame_count k)) (sym x.state) x.well;
      files = x.table;
      counted = x.counted;
      frames = x.frames;
      buffers = changed-buffers s (state_of k' h') p m (ap (λ (u : State). u.processes) x.state) x.buffer whole.buffers;
      itself = itself;
      others = others;
    };
    last = x.last;
    slots = slots-kept k h k' o whole.sound.table keeps-slots x.keeps;
    after = subst (After s p (live_now k h) o) (sym x.state) x.law;
    alive = x.keeps.stays;
    blocked = x.blocked;
    sleeps = x.sleeps;
  })

-- A step after which the process that ran is there still: it makes what `own` tells, whatever it did to itself, to open files, to pipes, to the console and to other processes.
-- What is asked for is said of each part by itself: its own place, those who slept, the slots, and the state.
use Rattle.kcall_core.proofs.Prelude.{ℕ, ◌||◌, ◌∙◌, ◌≡◌, ◌≢◌, After, Answer, ap, AreCounted, Blocked, Bool, both_ways, Called, cases_eq, Channel, channel_of, cond, contains, Exited, false, Faulted}
use Rattle.kcall_core.proofs.Prelude.{frame_count, gone_with, halts_with, Hart, inl, inr, is_for, is_open, is_some, IsBlocked, IsEnd, IsRunning, IsSome, IsSound, IsWhole, KeepBuffers, Kernel, Live}
use Rattle.kcall_core.proofs.Prelude.{live, live_now, Makes, minus_one, None, none-some, NPROC, Option, option_map, or_nobody, or_zero, OthersWaitOn, Own, pid_now, place_at, Process, ready, ready_is}
use Rattle.kcall_core.proofs.Prelude.{refl, same_Some, sleepers_below, slot_now, Some, State, state_of, stays_current, Step_of, Stepped, subst, sym, Ticked, true, turns_of, view_of, waits_for}
use Rattle.kcall_core.proofs.Prelude.{WellFormed}
use Rattle.kcall_core.proofs.turns.Turned.{sleeps-is}
use Rattle.kcall_core.proofs.turns.StepSlots.{SlotsAfter}
use Rattle.kcall_core.proofs.making.Sleepers.{Sleeping, elsewhere, another, slept-before, wakes-due, on-channels, unready}
use Rattle.file_table.specs.OpenFiles as files

-- The process that ran keeps its slot and pid. It runs on, or it sleeps on a channel of what it waits for, and isn't ready
pub record Itself (k : Kernel) (h : Hart) (k' : Kernel) (h' : Hart) (on : Option Channel) : Type 0 where
  pub after : Process
  pub is : place_at k'.table (slot_now k) ≡ Some after
  pub pid : after.pid ≡ pid_now k
  pub channel : channel_of after ≡ on
  pub current : k'.current ≡ cond (is_some on) None (Some (slot_now k))
  pub waits : (c : Channel) (m : Live) → on ≡ Some c → live (state_of k' h') (pid_now k) ≡ Some m
      → (is_for (waits_for (state_of k' h') (pid_now k) m) c ≡ true) × (ready (view_of (state_of k' h') (pid_now k) m) ≡ false)

-- Those in other slots who slept sleep on, but for those who wake; nobody else sleeps there. Each waits for what it waited for, and those wake who are marked now, or may go on
pub record Others (k : Kernel) (h : Hart) (k' : Kernel) (h' : Hart) (wakes : ℕ → Channel → Bool) : Type 0 where
  pub stays : (j : ℕ) (x : Process) (c : Channel) → j ≢ slot_now k → place_at k.table j ≡ Some x → channel_of x ≡ Some c
      → (y : Process) × (place_at k'.table j ≡ Some y) × (y.pid ≡ x.pid) × (channel_of y ≡ cond (wakes x.pid c) None (Some c))
  pub slept : (j : ℕ) (y : Process) (c : Channel) → j ≢ slot_now k → place_at k'.table j ≡ Some y → channel_of y ≡ Some c
      → (x : Process) × (place_at k.table j ≡ Some x) × (y.pid ≡ x.pid) × (channel_of x ≡ Some c)
  pub waits : OthersWaitOn (state_of k h) (pid_now k) (state_of k' h')
  pub due : (q : ℕ) (l m : Live) (c : Channel) → q ≢ pid_now k → live (state_of k h) q ≡ Some l → live (state_of k' h') q ≡ Some m → is_for (waits_for (state_of k h) q l) c ≡ true → l.killed ≡ false
      → is_open (state_of k h) (waits_for (state_of k h) q l) ≡ false → wakes q c ≡ (m.killed || is_open (state_of k' h') (waits_for (state_of k h) q l))

-- What the step leaves of a kernel that was whole
pub record Leaves (k : Kernel) (h : Hart) (k' : Kernel) (h' : Hart) (wakes : ℕ → Channel → Bool) (on : Option Channel) : Type 0 where
  pub sound : IsSound k' h'
  pub well : WellFormed (frame_count k) (state_of k' h')
  pub files : files.IsTable k'.files
  pub counted : AreCounted k'.files k'.table
  pub frames : frame_count k' ≡ frame_count k
  pub buffers : KeepBuffers (state_of k' h')
  pub itself : Itself k h k' h' on
  pub others : Others k h k' h' wakes

pub record IsMade (k : Kernel) (h : Hart) (k' : Kernel) (h' : Hart) (o : Own) (wakes : ℕ → Channel → Bool) (on : Option Channel) : Type 0 where
  pub leaves : Leaves k h k' h' wakes on
  pub last : k'.table.last ≡ k.table.last
  pub slots : SlotsAfter k k' o
  pub after : After (state_of k h) (pid_now k) (live_now k h) o (state_of k' h')
  pub alive : gone_with o.answer ≡ None
  pub blocked : IsBlocked o.answer → IsSome on
  pub sleeps : IsSome on → IsBlocked o.answer

module _ {k : Kernel} {h : Hart} {k' : Kernel} {h' : Hart} {wakes : ℕ → Channel → Bool} {on : Option Channel} (whole : IsWhole k h) (runs : IsRunning k) (x : Leaves k h k' h' wakes on) where
  abbrev t : State
  t = state_of k' h'

  abbrev pid : ℕ
  pid = pid_now k

  -- ---- who sleeps

  no-tick : (answer : Answer) → Step_of pid answer ≡ Ticked → ⊥
  no-tick answer e = cc

  no-end : (answer : Answer) → gone_with answer ≡ None → IsEnd (Step_of pid answer) → ⊥
  no-end answer alive (p, a, e, some) = let same : answer ≡ a = cc in both_ways _ (ap is_some (ap gone_with (sym same) ∙ alive)) some

  -- whatever it answered, unless it is gone
  sleeping : (answer : Answer) → gone_with answer ≡ None → Sleeping k h k' h' (Step_of pid answer) pid on wakes
  sleeping answer alive = record {
    stays = λ j y c at on-it. x.others.stays j y c (elsewhere whole runs j y c at on-it) at on-it;
    slept = λ j y c at on-it. elim (cases_eq j (slot_now k)) [
      | inl here ↦
          let same : y ≡ x.itself.after = same_Some y x.itself.after (sym at ∙ ap (place_at k'.table) here ∙ x.itself.is) in
          inr (ap (λ (p : Process). p.pid) same ∙ x.itself.pid, sym x.itself.channel ∙ sym (ap channel_of same) ∙ on-it)
      | inr other ↦ inl (x.others.slept j y c other at on-it)
    ];
    itself = x.itself.waits;
    waits = λ q z l m was is. (x.others.waits q l m (another whole runs q z) was is).0;
    due = λ q z l m was is its unmarked shut.
        let exactly : wakes q z.channel ≡ ready (view_of t q m) =
        x.others.due q l m z.channel (another whole runs q z) was is its unmarked shut
        ∙ ap (λ c. m.killed || is_open t c) (sym (x.others.waits q l m (another whole runs q z) was is).0) ∙ sym (ready_is t q m) in (
          λ up. inl (sym exactly ∙ up),
          λ due. elim due [
            | inl may ↦ exactly ∙ may
            | inr more ↦ elim more [ inl tick ↦ absurd (no-tick answer tick.1) | inr end ↦ absurd (no-end answer alive end.2) ]
          ],
        );
  }

  -- ---- what is true of every kernel stays so

  leaves-awake : (slot : ℕ) (p : Process) → k'.current ≡ Some slot → place_at k'.table slot ≡ Some p → channel_of p ≡ None
  leaves-awake slot p is at = by on refl
    where
      by : (a : Option Channel) → on ≡ a → channel_of p ≡ None
      by None e =
          let here : Some slot ≡ Some (slot_now k) = sym is ∙ x.itself.current ∙ ap (λ (a : Option Channel). cond (is_some a) None (Some (slot_now k))) e in
          let same : p ≡ x.itself.after = same_Some p x.itself.after (sym at ∙ ap (place_at k'.table) (same_Some slot (slot_now k) here) ∙ x.itself.is) in
          ap channel_of same ∙ x.itself.channel ∙ e
      by (Some c) e = absurd (none-some slot (sym (x.itself.current ∙ ap (λ (a : Option Channel). cond (is_some a) None (Some (slot_now k))) e) ∙ is))

  pub leaves-whole : IsWhole k' h'
  leaves-whole = record {
    sound = x.sound;
    well = subst (λ n. WellFormed n t) (sym x.frames) x.well;
    files = x.files;
    counted = x.counted;
    channels = on-channels whole x.sound (sleeping Stepped refl);
    awake = leaves-awake;
    unready = unready whole x.sound (sleeping Stepped refl);
    buffers = x.buffers;
  }

-- ---- so it makes the step

module _ {k : Kernel} {h : Hart} {k' : Kernel} {h' : Hart} {o : Own} {wakes : ℕ → Channel → Bool} {on : Option Channel} (whole : IsWhole k h)
    (runs : IsRunning k) (x : IsMade k h k' h' o wakes on) where
  slept : Sleeping k h k' h' (Step_of (pid_now k) o.answer) (pid_now k) on wakes
  slept = sleeping whole runs x.leaves o.answer x.alive

  made-current : option_map (λ _. pid_now k') k'.current ≡ stays_current (pid_now k) o.answer
  made-current = by on refl o.answer refl x.alive
    where
      here : on ≡ None → pid_now k' ≡ pid_now k
      here e =
          let current : k'.current ≡ Some (slot_now k) = x.leaves.itself.current ∙ ap (λ (a : Option Channel). cond (is_some a) None (Some (slot_now k))) e in
          ap (λ c. (or_nobody (place_at k'.table (or_zero c))).pid) current ∙ ap (λ c. (or_nobody c).pid) x.leaves.itself.is ∙ x.leaves.itself.pid

      clash : {A : Type 0} → on ≡ None → IsSome on → A
      clash e some = let no : ⊥ = both_ways _ (ap is_some e) some in absurd no

      by : (a : Option Channel) → on ≡ a → (answer : Answer) → o.answer ≡ answer → gone_with answer ≡ None → option_map (λ _. pid_now k') k'.current ≡ stays_current (pid_now k) answer
      by None e Stepped is alive = ap (option_map (λ _. pid_now k')) (x.leaves.itself.current ∙ ap (λ (a : Option Channel). cond (is_some a) None (Some (slot_now k))) e) ∙ ap Some (here e)
      by None e (Called number value) is alive = ap (option_map (λ _. pid_now k'))
          (x.leaves.itself.current ∙ ap (λ (a : Option Channel). cond (is_some a) None (Some (slot_now k))) e) ∙ ap Some (here e)
      by None e (Blocked number) is alive = clash e (x.blocked (number, is))
      by None e (Exited status) is alive = absurd (none-some status (sym alive))
      by None e (Faulted cause) is alive = absurd (none-some minus_one (sym alive))
      by (Some c) e answer is alive =
          let (number, blocks) = x.sleeps (ap is_some e) in
          ap (option_map (λ _. pid_now k')) (x.leaves.itself.current ∙ ap (λ (a : Option Channel). cond (is_some a) None (Some (slot_now k))) e) ∙ ap (stays_current (pid_now k)) (sym blocks ∙ is)

  pub made : Makes k h o k' h'
  unfolding turns_of
  made = record {
    whole = leaves-whole whole runs x.leaves;
    state = x.after;
    turns = record {
      last = x.last;
      current = made-current;
      halted = refl;
      held = x.slots.held;
      given_up = x.slots.given_up;
      newborn = x.slots.newborn;
      blocked = λ is. now-asleep (x.blocked is);
      awake = λ q asleep. elim (slept-before whole x.leaves.sound slept q asleep) [ inl before ↦ inl before | inr ran ↦ inr (ran.0, x.sleeps ran.1) ];
    };
    wakes = wakes-due whole x.leaves.sound slept (halts_with (pid_now k) o.answer);
    kept = λ status is. absurd (none-some status (sym x.alive ∙ is));
    frames = x.leaves.frames;
  }
    where
      now-asleep : IsSome on → contains (sleepers_below k'.table NPROC) (pid_now k) ≡ true
      now-asleep some = by on refl some
        where
          by : (a : Option Channel) → on ≡ a → IsSome a → contains (sleepers_below k'.table NPROC) (pid_now k) ≡ true
          by None e is = let no : ⊥ = cc in absurd no
          by (Some c) e is = ap (contains (sleepers_below k'.table NPROC)) (sym x.leaves.itself.pid)
              ∙ sleeps-is k'.table x.leaves.sound.table (slot_now k) x.leaves.itself.after c x.leaves.itself.is (x.leaves.itself.channel ∙ e)

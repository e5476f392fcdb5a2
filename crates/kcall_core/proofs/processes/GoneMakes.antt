-- The end of a process, in the kernel's words: it makes the step that `gone` tells.
use Rattle.kcall_core.proofs.Prelude.{ℕ, ℤ, ◌||◌, ◌↔◌, ◌∙◌, ◌≡◌, ◌≢◌, ◌⊎◌, After, Answer, ap, Bool, Channel, Child_of, Condition, contains, end_wakes, false, FinMap, get, get_same, gone, gone_law}
use Rattle.kcall_core.proofs.Prelude.{gone_state, gone_with, halts_with, Hart, inl, inr, is_for, is_open, is_some, IsEnd, IsInCall, IsLive, IsRunning, IsWhole, Kernel, length, Live, live, live_now}
use Rattle.kcall_core.proofs.Prelude.{Makes, nat_cmp, None, none-some, NPROC, OpenFile, or_right, orphans, Outcome, pid_now, ready, ready_is, refl, sleepers_below, Some, State, state_of, Step_of}
use Rattle.kcall_core.proofs.Prelude.{subst, sym, Ticked, true, view_now, view_of, waits_for, WellFormed, Zombie}
use Rattle.kcall_core.proofs.turns.Turned.{live-is}
use Rattle.kcall_core.proofs.making.Buffers.{ended-buffers}
use Rattle.kcall_core.proofs.making.Sleepers.{Sleeper, Sleeping, another, slept-before, wakes-due, on-channels, unready}
use Rattle.kcall_core.proofs.processes.Departs.{Departs}
use Rattle.kernel_spec.proofs.well.WellLaws as well
use Rattle.kernel_spec.proofs.waking.ChildWaits as calls
use Rattle.kernel_spec.proofs.waking.GoneOpens as opens
use Rattle.kcall_core.proofs.turns.GoneTurns as turns

module _ (k k' : Kernel) (h h' : Hart) (status : ℤ) (left : FinMap nat_cmp OpenFile) (wakes : Channel → Bool) (whole : IsWhole k h) (runs : IsRunning k) (d : Departs k h k' h' status left wakes) where
  abbrev p : ℕ
  p = pid_now k

  abbrev l : Live
  l = live_now k h

  abbrev s : State
  s = state_of k h

  abbrev frames : ℕ
  frames = length k.memories.ram

  abbrev dead : State
  dead = gone_state p l status left s

  was : IsLive s p l
  was = live-is k h whole.sound runs

  -- ---- who sleeps

  -- each other process is what it was, without the parent that is gone
  others-away : (q : ℕ) (m n : Live) → q ≢ p → live s q ≡ Some m → live dead q ≡ Some n → n ≡ opens.away frames s p l status left whole.well was d.named m
  others-away q m n other is after = let e : Some (opens.away frames s p l status left whole.well was d.named m) ≡ Some n =
      sym (opens.live-away frames s p l status left whole.well was d.named q m other is) ∙ after in cc

  waits-same : (q : ℕ) (m n : Live) → q ≢ p → live s q ≡ Some m → live dead q ≡ Some n → waits_for dead q n ≡ waits_for s q m
  waits-same q m n other is after =
      ap (waits_for dead q) (others-away q m n other is after) ∙ opens.waits-away frames s p l status left whole.well was d.named q m other is

  module _ (answer : Answer) (ends : gone_with answer ≡ Some status) where
    abbrev event : Outcome
    event = Step_of p answer

    is-end : IsEnd event
    is-end = (p, answer, refl, ap is_some ends)

    module _ (q : ℕ) (z : Sleeper k q) (m n : Live) (is : live s q ≡ Some m) (now : live dead q ≡ Some n)
        (its : is_for (waits_for s q m) z.channel ≡ true) (unmarked : m.killed ≡ false) (shut : is_open s (waits_for s q m) ≡ false) where
      abbrev c : Condition
      c = waits_for s q m

      other : q ≢ p
      other = another whole runs q z

      -- the channel that it sleeps on is woken where what it waits for is
      by-condition : wakes z.channel ≡ opens.end_wakes_for l.parent s.pipes dead.pipes c
      by-condition =
          d.exactly z.channel
          ∙ ap (λ (t : State). end_wakes l.parent s.pipes t.pipes z.channel) d.state
          ∙ opens.wakes-for l.parent s.pipes dead.pipes c z.channel its

      still-unmarked : n.killed ≡ false
      still-unmarked = ap (λ (x : Live). x.killed) (others-away q m n other is now) ∙ unmarked

      call-same : n.call ≡ m.call
      call-same = ap (λ (x : Live). x.call) (others-away q m n other is now)

      wakes-for-it : wakes z.channel ≡ true → (ready (view_of dead q n) ≡ true) ⊎ (IsInCall 3 (view_of dead q n) × (q ≡ 1))
      wakes-for-it up = elim (opens.wakes-due frames s p l status left whole.well was d.named c (sym by-condition ∙ up)) [
        | inl opened ↦ inl (ready_is dead q n ∙ or_right n.killed (is_open dead (waits_for dead q n)) (ap (is_open dead) (waits-same q m n other is now) ∙ opened))
        | inr first ↦ let (one, waiting) = calls.waits-for-child s q m 1 first in inr (calls.is-in-wait s q m dead n call-same waiting, one)
      ]

      may-wakes : ready (view_of dead q n) ≡ true → wakes z.channel ≡ true
      may-wakes may =
          let opened : is_open dead c ≡ true = ap (is_open dead) (sym (waits-same q m n other is now))
          ∙ (λ i. sym still-unmarked i || is_open dead (waits_for dead q n)) ∙ sym (ready_is dead q n) ∙ may in
          by-condition ∙ opens.due-wakes frames s p l status left whole.well was d.named c shut opened (λ own. other (calls.waits-for-child s q m p own).0)

      first-wakes : q ≡ 1 → IsInCall 3 (view_of dead q n) → wakes z.channel ≡ true
      first-wakes one call = by-condition ∙ opens.first-wakes l.parent s.pipes dead.pipes c (calls.waits-in-wait s q m (calls.in-wait s q m dead n call-same call) ∙ ap Child_of one)

      exactly-due : (wakes z.channel ≡ true) ↔ ((ready (view_of dead q n) ≡ true) ⊎ (IsInCall 13 (view_of dead q n) × (event ≡ Ticked)) ⊎ ((q ≡ 1) × IsInCall 3 (view_of dead q n) × IsEnd event))
      exactly-due = (
        λ up. elim (wakes-for-it up) [ inl may ↦ inl may | inr first ↦ inr (inr (first.1, first.0, is-end)) ],
        λ due. elim due [
          | inl may ↦ may-wakes may
          | inr more ↦ elim more [
            | inl tick ↦ let no : Step_of p answer ≡ Ticked = tick.1 in let bad : ⊥ = cc in absurd bad
            | inr end ↦ first-wakes end.0 end.1
          ]
        ],
      )

    sleeping : Sleeping k h k' h' event p None (λ q. wakes)
    sleeping = record {
      stays = turns.stays k k' h h' status left wakes whole runs d;
      slept = λ j y c at on. inl (turns.slept k k' h h' status left wakes whole runs d j y c at on);
      itself = λ c m is lives. absurd (none-some c is);
      waits = λ q z m n is now.
          ap (λ (t : State). waits_for t q n) d.state ∙ waits-same q m n (another whole runs q z) is (ap (λ (t : State). live t q) (sym d.state) ∙ now);
      due = λ q z m n is now its unmarked shut.
          subst (λ (t : State). (wakes z.channel ≡ true) ↔
          ((ready (view_of t q n) ≡ true) ⊎ (IsInCall 13 (view_of t q n) × (event ≡ Ticked))
          ⊎ ((q ≡ 1) × IsInCall 3 (view_of t q n) × IsEnd event))) (sym d.state)
          (exactly-due q z m n is (ap (λ (t : State). live t q) (sym d.state) ∙ now) its unmarked shut);
    }

    slept-on : (q : ℕ) → contains (sleepers_below k'.table NPROC) q ≡ true → contains (sleepers_below k.table NPROC) q ≡ true
    slept-on q e = elim (slept-before whole d.sound sleeping q e) [ inl before ↦ before | inr fell ↦ let no : ⊥ = cc in absurd no ]

    -- ---- all of it

    well-after : WellFormed (length k'.memories.ram) (state_of k' h')
    well-after =
        subst (λ (n : ℕ). WellFormed n (state_of k' h')) (sym d.frames)
        (subst (λ (t : State). WellFormed frames t) (sym d.state) (well.gone frames s p l status left whole.well was d.named))

    kept-status : (z : ℤ) → Some status ≡ Some z → get (state_of k' h').processes p ≡ Some (Zombie l.parent z)
    kept-status z e =
        let same : status ≡ z = cc in
        ap (λ (t : State). get t.processes p) d.state ∙ get_same (orphans p s).processes p (Zombie l.parent status) ∙ ap (λ n. Some (Zombie l.parent n)) same

    after : After s p l (gone answer (view_now k h)) (state_of k' h')
    after = subst (λ (t : State). After s p l (gone answer (view_now k h)) t) (sym d.state) (gone_law frames s p l answer status left whole.well was ends d.named)

    pub gone-makes : Makes k h (gone answer (view_now k h)) k' h'
    gone-makes = record {
      whole = record {
        sound = d.sound;
        well = well-after;
        files = d.files;
        counted = d.counted;
        channels = on-channels whole d.sound sleeping;
        awake = λ slot x current. absurd (none-some slot (sym d.stopped ∙ current));
        unready = unready whole d.sound sleeping;
        buffers = ended-buffers s p l (gone answer (view_now k h)) (state_of k' h') after refl refl whole.buffers;
      };
      state = after;
      turns = turns.gone-turns k k' h h' status left wakes whole runs d answer ends slept-on;
      wakes = wakes-due whole d.sound sleeping (halts_with p answer);
      kept = λ z is. kept-status z (sym ends ∙ is);
      frames = d.frames;
    }

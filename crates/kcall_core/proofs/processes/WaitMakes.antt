-- A wait that takes an ended child makes the step that its row tells.
use Rattle.kcall_core.proofs.Prelude.{ℕ, ℤ, ◌&&◌, ◌+◌, ◌<◌, ◌||◌, ◌∙◌, ◌≡◌, ◌≢◌, After, Alive, ap, AreCounted, arith, Blocked, Bool, by_pid, Call, Called, cases_eq, cast_unsigned, changed_at, cond}
use Rattle.kcall_core.proofs.Prelude.{Contains, descriptors_at, each_of, emptied_at, entry_at, entry_of, eq-eqb, eqb-true, eqb_tells, false, false_from_ne_true, FinMap, frame_count, get, get_at}
use Rattle.kcall_core.proofs.Prelude.{get_or, get_or-set_other, get_or-set_same, get_other, get_without, goes_on, gone_with, halts_with, Hart, HasImage, held_at, Image, in_call, inl, inr, insert}
use Rattle.kcall_core.proofs.Prelude.{is_listed, is_none, is_open, is_some, IsBlocked, IsLive, IsRunning, IsSound, IsTable, IsWhole, Kernel, keys, le_bytes, least_zombie, length, Live, live, live_now}
use Rattle.kcall_core.proofs.Prelude.{live_of, Makes, nat_cmp, nat_cmp-IsAntisymmetric, nat_cmp_total, nat_eq, None, none-some, not, not_listed, NPROC, opens_reaped, Option, or_nobody, OthersWaitOn}
use Rattle.kcall_core.proofs.Prelude.{Own, own_state, pid_now, pids_emptied, place_at, place_is_live, place_now, pos, price, Process, refl, remove, remove_zombie, same_map, same_Some, set_live}
use Rattle.kcall_core.proofs.Prelude.{slot_entry, slot_now, Slots, slots_of, Some, State, state_of, status_of, subst, sym, TakesLeast, told_image, true, turns_of, view_now, view_of, wait, waited}
use Rattle.kcall_core.proofs.Prelude.{waited_state, waits_for, waits_stay, WellFormed, with_answer, writable_now, write_image, Zombie}
use Rattle.std.specs.Int.{w32}
use Rattle.std.proofs.Math.ListN.{length-set}
use Rattle.kcall_core.proofs.table.ByPid.{by_pid-remove}
use Rattle.kcall_core.proofs.table.States.{entry-pid, slot-inside, running}
use Rattle.kcall_core.proofs.turns.Chosen.{noted}
use Rattle.kcall_core.proofs.turns.Turned.{sleeper-lives, live-is}
use Rattle.kcall_core.proofs.table.OnePlace.{ItsPlace, changed-place, place-counted, place-slots, in-call-lives, in-call-channel}
use Rattle.kcall_core.proofs.turns.WhoRuns.{place-is, place-lives}
use Rattle.kcall_core.proofs.turns.StepSlots.{SlotsAfter, none-born, has-entry}
use Rattle.kernel_spec.proofs.waking.ChildWaits.{waits-for-child}
use Rattle.kcall_core.proofs.making.CallAnswers.{IsDone}
use Rattle.kcall_core.proofs.making.Buffers.{is_in_no_call, ended-buffers}
use Rattle.kcall_core.proofs.making.Making.{Itself, Others, made}
use Rattle.kcall_core.proofs.table.Zombies.{zombie-is, least-is}
use Rattle.file_table.specs.OpenFiles as files
use Rattle.kernel_spec.specs.views.Processes as meaning
use Rattle.kernel_spec.proofs.steps.WaitIsItsRow as step
use Rattle.kernel_spec.proofs.steps.FamilyLawsHold as family
use Rattle.kernel_spec.proofs.well.WellLaws as well

-- ---- the ended child is gone

abbrev no-process : Option Process
no-process = None

slot-pid : (j : ℕ) (o : Option Process) (e : ℕ × ℕ) → slot_entry j o ≡ Some e → (y : Process) × (o ≡ Some y) × (e.0 ≡ y.pid)
slot-pid j None e is = absurd (none-some e is)
slot-pid j (Some y) e is = (y, refl, ap (λ (z : ℕ × ℕ). z.0) (sym (same_Some (y.pid, j) e is)))

told-price : (a : ℕ) (status : ℤ) (i : Image) → price (told_image a status i) ≡ price i
told-price a status i = by (nat_eq a 0)
  where
    by : (b : Bool) → price (cond b i (write_image i a (le_bytes 4 (cast_unsigned w32 status)))) ≡ price i
    by true = refl
    by false = well.writes_take_nothing i a (le_bytes 4 (cast_unsigned w32 status))

-- who takes q away and changes p changes p and takes q away
either-order : (m : FinMap nat_cmp meaning.Process) (p q : ℕ) (a b : meaning.Process) → q ≢ p → insert (insert (remove m q) p a) p b ≡ remove (insert m p b) q
either-order m p q a b ne = same_map nat_cmp_total nat_cmp-IsAntisymmetric (insert (insert (remove m q) p a) p b) (remove (insert m p b) q) (λ r.
    get_at (insert (remove m q) p a) p b r
    ∙ ap (cond (nat_eq r p) (Some b)) (get_at (remove m q) p a r ∙ ap (cond (nat_eq r p) (Some a)) (get_without m q r))
    ∙ by r (nat_eq r p) (nat_eq r q) refl refl
    ∙ sym (get_without (insert m p b) q r ∙ ap (cond (nat_eq r q) None) (get_at m p b r)))
  where
    by : (r : ℕ) (u w : Bool) → nat_eq r p ≡ u → nat_eq r q ≡ w → cond u (Some b) (cond u (Some a) (cond w None (get m r))) ≡ cond w None (cond u (Some b) (get m r))
    by r true true is at = absurd (ne (sym (eqb-true r q at) ∙ eqb-true r p is))
    by r true false is at = refl
    by r false w is at = refl

module _ {k : Kernel} {h : Hart} (q : ℕ) (status : ℤ) (whole : IsWhole k h) (runs : IsRunning k) (new : Slots) (x : TakesLeast k.table new (pid_now k) q status) where
  abbrev s : State
  s = state_of k h

  abbrev p : ℕ
  p = pid_now k

  abbrev l : Live
  l = live_now k h

  abbrev z : ℕ
  z = x.slot

  abbrev k1 : Kernel
  k1 = noted k (emptied_at z k.table)

  was : IsLive s p l
  was = live-is k h whole.sound runs

  inside : z < 64
  inside = slot-inside k h whole.sound z x.child x.held

  here : place_at k1.table z ≡ no-process
  here = get_or-set_same k.table.places z no-process no-process (omega (arith, inside, whole.sound.table.places))

  there : (j : ℕ) → j ≢ z → place_at k1.table j ≡ place_at k.table j
  there j ne = get_or-set_other k.table.places z j no-process no-process ne

  not-ended : (j : ℕ) (y : Process) → place_at k.table j ≡ Some y → status_of y ≡ None → j ≢ z
  not-ended j y at lives e = none-some status (sym lives ∙ ap status_of (same_Some y x.child (sym at ∙ ap (place_at k.table) e ∙ x.held)) ∙ x.status_is)

  running-apart : slot_now k ≢ z
  running-apart = not-ended (slot_now k) (place_now k) (place-is k h whole.sound runs) (place-lives k h whole.sound runs)

  was-at : (j : ℕ) (y : Process) → place_at k1.table j ≡ Some y → (j ≢ z) × (place_at k.table j ≡ Some y)
  was-at j y at =
      let ne : j ≢ z = λ e. none-some y (sym here ∙ sym (ap (place_at k1.table) e) ∙ at) in
      (ne, sym (there j ne) ∙ at)

  table1 : IsTable k1.table
  table1 = record {
    places = length-set k.table.places z no-process ∙ whole.sound.table.places;
    descriptors = whole.sound.table.descriptors;
    last = whole.sound.table.last;
    first = whole.sound.table.first;
    next = whole.sound.table.next;
    pids = pids_emptied k.table.places k.table.next z whole.sound.table.pids;
  }

  sound1 : IsSound k1 h
  sound1 = record {
    memories = whole.sound.memories;
    table = table1;
    lives = λ j y at lives. whole.sound.lives j y (was-at j y at).1 lives;
    ended = λ j y over at is. whole.sound.ended j y over (was-at j y at).1 is;
    vacant = λ j at. elim (cases_eq j z) [
      | inl e ↦ ap (λ n. get_or (each_of k.memories) n None) e ∙ whole.sound.ended z x.child status x.held x.status_is
      | inr ne ↦ whole.sound.vacant j (sym (there j ne) ∙ at)
    ];
    current = λ j is. let now = whole.sound.current j is in record { process = now.process; is = there j (not-ended j now.process now.is now.live) ∙ now.is; live = now.live; runs = now.runs };
    idle = whole.sound.idle;
  }

  under : (j : ℕ) (o : Option Process) → entry_of k1 h j o ≡ entry_of k h j o
  under j None = refl
  under j (Some y) = refl

  processes1 : by_pid (entry_at k1 h) NPROC ≡ remove (by_pid (entry_at k h) NPROC) q
  processes1 =
      by_pid-remove (entry_at k h) (entry_at k1 h) 64 z q inside (ap (entry_of k1 h z) here) (λ j lt ne. ap (entry_of k1 h j) (there j ne) ∙ under j (place_at k.table j))
      (λ e is. let f = entry-pid k h z (place_at k.table z) e is in f.2 ∙ ap (λ o. (or_nobody o).pid) (sym f.1 ∙ x.held) ∙ x.pid_is)
      (λ j e lt ne is same. let f = entry-pid k h j (place_at k.table j) e is in ne (whole.sound.table.pids.apart j z f.0 x.child f.1 x.held (sym f.2 ∙ same ∙ sym x.pid_is)))

  state1 : state_of k1 h ≡ remove_zombie q s
  unfolding state_of
  state1 = ap (λ m. record (state_of k h) { processes = m }) processes1

  slots1 : slots_of k1.table ≡ remove (slots_of k.table) q
  unfolding slots_of
  slots1 =
      by_pid-remove (λ j. slot_entry j (place_at k.table j)) (λ j. slot_entry j (place_at k1.table j)) 64 z q inside (ap (slot_entry z) here) (λ j lt ne. ap (slot_entry j) (there j ne))
      (λ e is. let f = slot-pid z (place_at k.table z) e is in f.2 ∙ ap (λ o. (or_nobody o).pid) (sym f.1 ∙ x.held) ∙ x.pid_is)
      (λ j e lt ne is same. let f = slot-pid j (place_at k.table j) e is in ne (whole.sound.table.pids.apart j z f.0 x.child f.1 x.held (sym f.2 ∙ same ∙ sym x.pid_is)))

  zombie : get s.processes q ≡ Some (Zombie (Some p) status)
  zombie = zombie-is k h p whole.sound.table new q status x

  least : least_zombie (view_of s p l) ≡ Some q
  unfolding view_of
  least = least-is k h p whole.sound.table new q status x

  apart : q ≢ p
  apart e = let no : Some (Zombie (Some p) status) ≡ Some (Alive l) = sym zombie ∙ ap (get s.processes) e ∙ was in let bad : ⊥ = cc in bad

  pid1 : pid_now k1 ≡ p
  pid1 = ap (λ o. (or_nobody o).pid) (there (slot_now k) running-apart)

  live1 : live_now k1 h ≡ l
  live1 = ap (λ o. live_of (or_nobody o) (descriptors_at k.table (slot_now k)) (held_at (each_of k.memories) (slot_now k)) h.regs) (there (slot_now k) running-apart)

  counted1 : AreCounted k1.files k1.table
  counted1 = record {
    counts = whole.counted.counts;
    lists = whole.counted.lists;
    closed = λ j dead. elim (cases_eq j z) [
      | inl e ↦ whole.counted.closed j (ap (λ n. place_is_live (place_at k.table n)) e ∙ ap place_is_live x.held ∙ ap is_none x.status_is)
      | inr ne ↦ whole.counted.closed j (sym (ap place_is_live (there j ne)) ∙ dead)
    ];
  }

  pub reaped-sound : IsSound (noted k new) h
  reaped-sound = subst (λ (t : Slots). IsSound (noted k t) h) (sym x.after) sound1

  module _ (c : Call) (room : (not (nat_eq c.a0 0) && not (writable_now l.image c.a0 4)) ≡ false) where
    abbrev next : Live
    next = waited c q status l

    abbrev t : State
    t = waited_state p next q s

    row : wait c (view_now k h) ≡ goes_on (Called c.number (pos q)) (view_of (waited_state p (step.waited s p q l was c status zombie) q s) p (step.waited s p q l was c status zombie))
    row = step.wait_own s p q l was c status zombie room least

    pub gone-answer : (wait c (view_now k h)).answer ≡ Called c.number (pos q)
    gone-answer = ap (λ (o : Own). o.answer) row

    keeps : ((wait c (view_now k h)).child ≡ None) × (gone_with (wait c (view_now k h)).answer ≡ None)
    keeps = (ap (λ (o : Own). o.child) row, ap (λ (o : Own). gone_with o.answer) row)

    its-law : After s p l (wait c (view_now k h)) t
    its-law = family.reap_law s p q l c status was zombie room least

    well-after : WellFormed (frame_count k) t
    well-after =
        well.reaped (frame_count k) (own_state p next s) p q status
        (well.alone (frame_count k) s p l next.regs next.image None l.killed s.console s.free whole.well was
        (ap (λ n. s.free + (n + 1)) (told-price c.a0 status l.image)) (record { typed = whole.well.keys; sent_later = whole.well.to_send }))
        (get_other s.processes p (Alive next) q apart ∙ zombie)

    -- another process is what it was
    other-live : (r : ℕ) (a m : Live) → r ≢ p → live s r ≡ Some a → live t r ≡ Some m → m ≡ a
    other-live r a m ne before after = same_Some m a (sym after ∙ step.stays s p q l was c status zombie r a ne before ∙ before)

    stays-shut : (r : ℕ) (a : Live) → r ≢ p → is_open s (waits_for s r a) ≡ false → is_open t (waits_for s r a) ≡ false
    stays-shut r a ne shut =
        false_from_ne_true (is_open t (waits_for s r a)) (λ opens. ne (waits-for-child s r a p (opens_reaped s p q l next status was refl zombie (waits_for s r a) shut opens)).0)

    no-more : get t.processes q ≡ None
    no-more = get_without (insert s.processes p (Alive next)) q q ∙ ap (λ (b : Bool). cond b None (get (insert s.processes p (Alive next)) q)) (eq-eqb q q refl)

    module _ (k2 : Kernel) (has : HasImage k1 h (told_image c.a0 status (live_now k1 h).image) k2 h) where
      abbrev mid : Live
      mid = record l { image = told_image c.a0 status l.image }

      pid2 : pid_now k2 ≡ p
      pid2 = ap pid_now has.kernel ∙ pid1

      live2 : live_now k2 h ≡ mid
      live2 = has.live ∙ ap (λ (y : Live). record y { image = told_image c.a0 status y.image }) live1

      free2 : (state_of k2 h).free ≡ s.free
      free2 = omega (arith, has.state.free, told-price c.a0 status (live_now k1 h).image, ap (λ (u : State). u.free) state1)

      state2 : state_of k2 h ≡ set_live p mid (remove_zombie q s)
      state2 = has.state.state ∙ (λ i. record (set_live (pid1 i) (record (live1 i) { image = told_image c.a0 status (live1 i).image }) (state1 i)) { free = free2 i })

      module _ (k' : Kernel) (h' : Hart) (done : IsDone k2 h (pos q) k' h') where
        state-after : state_of k' h' ≡ t
        state-after =
            done.state ∙ (λ i. own_state (pid2 i) (with_answer (pos q) (live2 i)) (state2 i))
            ∙ ap (λ m. record s { processes = m }) (either-order s.processes p q (Alive mid) (Alive next) apart)

        place : ItsPlace k1.table k'.table (slot_now k) (place_now k) (in_call None (place_now k))
        place =
            let lives = place-lives k h whole.sound runs in
            changed-place k1.table k'.table (slot_now k) (place_now k) (in_call None) table1.places (running k h whole.sound runs).inside
            (there (slot_now k) running-apart ∙ place-is k h whole.sound runs) lives refl (in-call-lives None (place_now k) lives)
            (ap (λ (y : Kernel). y.table) done.kernel ∙ (λ i. changed_at (slot_now (has.kernel i)) (in_call None) (has.kernel i).table))

        same-files : k'.files ≡ k.files
        same-files = ap (λ (y : Kernel). y.files) done.kernel ∙ ap (λ (y : Kernel). y.files) has.kernel

        itself : Itself k h k' h' None
        itself = record {
          after = in_call None (place_now k);
          is = place.is;
          pid = refl;
          channel = in-call-channel None (place_now k) ∙ whole.awake (slot_now k) (place_now k) (running k h whole.sound runs).current (place-is k h whole.sound runs);
          current = ap (λ (y : Kernel). y.current) done.kernel ∙ ap (λ (y : Kernel). y.current) has.kernel ∙ (running k h whole.sound runs).current;
          waits = λ d m is lives. absurd (none-some d is);
        }

        others : Others k h k' h' (λ r d. false)
        others = record {
          stays = λ j y d ne at on-it. (y, place.others j ne ∙ there j (not-ended j y at (sleeper-lives y d on-it)) ∙ at, refl, on-it);
          slept = λ j y d ne at on-it. (y, (was-at j y (sym (place.others j ne) ∙ at)).1, refl, on-it);
          waits = subst (OthersWaitOn s p) (sym state-after) ((waits_stay (frame_count k) s p l whole.well was).2 next q);
          due = λ r a m d ne before after for-d unmarked shut.
              let same : m ≡ a = other-live r a m ne before (ap (λ (u : State). live u r) (sym state-after) ∙ after) in
              sym ((λ i. (ap (λ (y : Live). y.killed) same ∙ unmarked) i || is_open (state-after i) (waits_for s r a)) ∙ stays-shut r a ne shut);
        }

        slots-after : (r : ℕ) → get (slots_of k'.table) r ≡ cond (nat_eq r q) None (get (slots_of k.table) r)
        slots-after r = ap (λ m. get m r) (place-slots place ∙ slots1) ∙ get_without (slots_of k.table) q r

        held-after : (r : ℕ) → Contains (wait c (view_now k h)).left.pids r → get (slots_of k'.table) r ≡ get (slots_of k.table) r
        held-after r among = slots-after r ∙ elim (eqb_tells r q) [
          | inl e ↦ absurd (not_listed t.processes q no-more (subst (λ n. Contains (keys t.processes) n) e.1 (subst (λ pids. Contains pids r) (sym its-law.left.pids) among)))
          | inr e ↦ ap (λ (b : Bool). cond b None (get (slots_of k.table) r)) e.0
        ]

        no-slot : (r : ℕ) → ¬ Contains (keys t.processes) r → get (slots_of k'.table) r ≡ None
        no-slot r absent = slots-after r ∙ elim (eqb_tells r q) [
          | inl e ↦ ap (λ (b : Bool). cond b None (get (slots_of k.table) r)) e.0
          | inr e ↦ ap (λ (b : Bool). cond b None (get (slots_of k.table) r)) e.0 ∙ by (get (slots_of k.table) r) refl e.0
        ]
          where
            some-other : (b : Bool) (o : Option meaning.Process) → is_some o ≡ true → is_some (cond b (Some (Alive next)) o) ≡ true
            some-other true o e = refl
            some-other false o e = e

            by : (a : Option ℕ) → get (slots_of k.table) r ≡ a → nat_eq r q ≡ false → a ≡ None
            by None e ne = refl
            by (Some j) e ne =
                absurd (absent (is_listed t.processes r (ap is_some
                (get_without (insert s.processes p (Alive next)) q r
                ∙ ap (λ (b : Bool). cond b None (get (insert s.processes p (Alive next)) r)) ne ∙ get_at s.processes p (Alive next) r)
                ∙ some-other (nat_eq r p) (get s.processes r) (has-entry k h whole.sound.table r j e))))

        slots : SlotsAfter k k' (wait c (view_now k h))
        unfolding turns_of
        slots = record {
          held = λ r among some. held-after r among;
          given_up = λ r absent. no-slot r (subst (λ pids. ¬ Contains pids r) (sym its-law.left.pids) absent);
          newborn = none-born (turns_of k None) (turns_of k' (halts_with p (wait c (view_now k h)).answer)) (wait c (view_now k h)).child keeps.0;
        }

        not-blocked : IsBlocked (wait c (view_now k h)).answer → ⊥
        not-blocked (n, is) = let e : Called c.number (pos q) ≡ Blocked n = sym gone-answer ∙ is in cc

        after : After s p l (wait c (view_now k h)) (state_of k' h')
        after = subst (After s p l (wait c (view_now k h))) (sym state-after) its-law

        pub wait-makes : Makes k h (wait c (view_now k h)) k' h'
        unfolding view_of
        wait-makes = made whole runs (record {
          leaves = record {
            sound = done.sound;
            well = subst (WellFormed (frame_count k)) (sym state-after) well-after;
            files = subst files.IsTable (sym same-files) whole.files;
            counted = subst (λ f. AreCounted f k'.table) (sym same-files) (place-counted place counted1);
            frames = ap (λ (y : Kernel). length y.memories.ram) done.kernel ∙ has.frames;
            buffers = ended-buffers s p l (wait c (view_now k h)) (state_of k' h') after (ap (λ (o : Own). is_in_no_call o.next) row) (ap (λ (o : Own). is_in_no_call o.child) row) whole.buffers;
            itself = itself;
            others = others;
          };
          last = place.last;
          slots = slots;
          after = after;
          alive = keeps.1;
          blocked = λ is. absurd (not-blocked is);
          sleeps = λ some. let no : ⊥ = cc in absurd no;
        })

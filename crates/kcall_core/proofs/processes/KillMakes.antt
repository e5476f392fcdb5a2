-- The row kill, as the code goes through it: the process of a pid is marked and awake, whatever it slept on, and the call is done.
use Rattle.kcall_core.proofs.Prelude.{ℕ, ℤ, ◌<◌, ◌||◌, ◌∙◌, ◌≡◌, ◌≢◌, After, Alive, ap, AreCounted, arith, Blocked, Bool, by_pid, c_int, Call, Called, cases_eq, change, changed_at, Channel}
use Rattle.kcall_core.proofs.Prelude.{channel_of, cond, descriptors_at, done, each_of, entry_at, entry_of, eq-eqb, eqb-true, eqb_tells, false, false_from_ne_true, FinMap, frame_count, get, get-change}
use Rattle.kcall_core.proofs.Prelude.{get_at, get_or-set_other, get_or-set_same, Hart, Held, held_at, in_call, inl, inr, insert, is_none, is_open, is_some, is_this, IsBlocked, IsLive, IsRunning}
use Rattle.kcall_core.proofs.Prelude.{IsSound, IsTable, IsWhole, Kernel, keys, kill, kill_pid, kill_same, kill_state, killed, killed_by, killer, length, List, list_any, listed, Live, live, live_now}
use Rattle.kcall_core.proofs.Prelude.{Live_state, Makes, mark, marked, marked_again, nat_cmp, nat_cmp-IsAntisymmetric, nat_cmp_total, nat_eq, negsuc, None, none-some, not, NPROC, opens_marked}
use Rattle.kcall_core.proofs.Prelude.{opens_nothing, Option, option_map, or_false, or_nobody, or_right, OthersWaitOn, Own, own_state, pid_now, place_at, place_is_live, place_now, pos, Process}
use Rattle.kcall_core.proofs.Prelude.{process_of, process_pid, refl, refused, Registers, regs_at, same_map, same_Some, set, slot_now, slot_of, slots_of, Some, State, state_channel, state_killed}
use Rattle.kcall_core.proofs.Prelude.{state_of, state_status, status_of, subst, sym, table_at, true, turn, unless, unless_woken, View, view_now, view_of, waits_for, waits_stay, WellFormed}
use Rattle.kcall_core.proofs.Prelude.{with_answer, Zombie_state}
use Rattle.xk_base.proofs.Options.{some_chosen}
use Rattle.kcall_core.specs.Kills.{asked_pid}
use Rattle.kernel_spec.proofs.steps.ViewsAfterSetLive.{live-set_live_there}
use Rattle.kcall_core.proofs.table.ByPid.{by_pid-insert}
use Rattle.kcall_core.proofs.table.States.{entry-pid, slot-inside, running}
use Rattle.kcall_core.proofs.table.Stops.{read-some}
use Rattle.kcall_core.proofs.turns.Chosen.{noted}
use Rattle.kcall_core.proofs.table.Observed.{slot-found, entry-held, pid-missing}
use Rattle.kcall_core.proofs.turns.Turned.{slots-same, live-is}
use Rattle.kcall_core.proofs.table.OnePlace.{ItsPlace, changed-place, place-counted, place-slots, in-call-lives, in-call-channel}
use Rattle.kcall_core.proofs.turns.WhoRuns.{place-is, place-lives, now-is}
use Rattle.kcall_core.proofs.turns.StepSlots.{KeepsAll, same-pid, slots-kept}
use Rattle.kcall_core.proofs.making.CallAnswers.{IsDone}
use Rattle.kcall_core.proofs.making.Sleepers.{changed-stays, changed-slept}
use Rattle.kcall_core.proofs.making.Buffers.{is_in_no_call, ended-buffers}
use Rattle.kcall_core.proofs.making.Making.{Itself, Others, made}
use Rattle.file_table.specs.OpenFiles as files
use Rattle.proc_table.specs.declared.process.State as table
use Rattle.kernel_spec.specs.views.Processes as meaning
use Rattle.kernel_spec.proofs.steps.KillIsItsRow as step
use Rattle.kernel_spec.proofs.steps.FamilyLawsHold as family
use Rattle.kernel_spec.proofs.well.WellLaws as well
use Rattle.kernel_spec.proofs.well.WellSteps as steps

-- ---- the row

shut-at : (b : Bool) (n q : ℕ) → nat_eq n 0 ≡ b → cond b None (Some n) ≡ Some q → (n ≡ q) × (nat_eq n 0 ≡ false)
shut-at true n q is e = absurd (none-some q e)
shut-at false n q is e = (same_Some n q e, is)

-- a pid above 0
pub asked-is : (z : ℤ) (q : ℕ) → asked_pid z ≡ Some q → (z ≡ pos q) × (nat_eq q 0 ≡ false)
asked-is (pos n) q e = let r = shut-at (nat_eq n 0) n q refl e in (ap pos r.0, ap (λ m. nat_eq m 0) (sym r.0) ∙ r.1)
asked-is (negsuc k) q e = absurd (none-some q e)

by-number : (c : Call) (v : View) (z : ℤ) → asked_pid z ≡ None → kill_pid c v z ≡ refused c v
by-number c v (pos n) e = ap (λ b. unless b c v (λ _. killed_by c v n)) (some_chosen (nat_eq n 0) n e)
by-number c v (negsuc k) e = refl

module _ (c : Call) (v : View) (z : ℤ) (asked : z ≡ c_int c.a0) where
  pub none-row : asked_pid z ≡ None → kill c v ≡ refused c v
  none-row e = kill_same c v ∙ by-number c v (c_int c.a0) (ap asked_pid (sym asked) ∙ e)

  pub pid-row : (q : ℕ) → asked_pid z ≡ Some q → kill c v ≡ killed_by c v q
  pid-row q e =
      let r = asked-is (c_int c.a0) q (ap asked_pid (sym asked) ∙ e) in
      kill_same c v ∙ ap (kill_pid c v) r.0 ∙ ap (λ b. unless b c v (λ _. killed_by c v q)) r.1

-- which pids are in use
in-use : (k : Kernel) (h : Hart) (q : ℕ) (o : Option ℕ) → IsTable k.table → slot_of k.table q ≡ o → list_any (nat_eq q) (keys (state_of k h).processes) ≡ is_some o
in-use k h q None is_table e = listed (state_of k h).processes q ∙ ap is_some (pid-missing k h is_table q e)
in-use k h q (Some slot) is_table e =
    let f = slot-found k.table q slot e in
    listed (state_of k h).processes q ∙ ap is_some (ap (get (state_of k h).processes) (sym f.2) ∙ entry-held k h is_table slot f.0 f.1)

pub unknown-row : (k : Kernel) (h : Hart) (c : Call) (q : ℕ) → IsTable k.table → slot_of k.table q ≡ None → killed_by c (view_now k h) q ≡ refused c (view_now k h)
unfolding view_of
unknown-row k h c q is_table e =
    ap (λ b. unless (not b) c (view_now k h)
    (λ _. record (done c (pos 0) (record (view_now k h) { killed = (view_now k h).killed || nat_eq q (view_now k h).pid })) { marked = Some q }))
    (in-use k h q None is_table e)

-- ---- a process that is killed

killed-status : (x : Process) → status_of (killed x) ≡ status_of x
killed-status x = by x.state
  where
    by : (s : table.State) → state_status (state_killed s) ≡ state_status s
    by (Live_state life) = refl
    by (Zombie_state status) = refl

killed-awake : (x : Process) → channel_of (killed x) ≡ None
killed-awake x = by x.state
  where
    by : (s : table.State) → state_channel (state_killed s) ≡ None
    by (Live_state life) = refl
    by (Zombie_state status) = refl

killed-means : (x : Process) (fs : List (Option ℕ)) (held : Held) (regs : Registers) → process_of (killed x) fs held regs ≡ marked (process_of x fs held regs)
killed-means x fs held regs = by x.state
  where
    by : (s : table.State) → process_of (killed (record x { state = s })) fs held regs ≡ marked (process_of (record x { state = s }) fs held regs)
    by (Live_state life) = refl
    by (Zombie_state status) = refl

-- marked, if it has this pid
abbrev pub marker : ℕ → Process → Process
marker q x = cond (nat_eq x.pid q) (killed x) x

marker-pid : (q : ℕ) (x : Process) → (marker q x).pid ≡ x.pid
marker-pid q x = by (nat_eq x.pid q)
  where
    by : (b : Bool) → (cond b (killed x) x).pid ≡ x.pid
    by true = refl
    by false = refl

marker-status : (q : ℕ) (x : Process) → status_of (marker q x) ≡ status_of x
marker-status q x = by (nat_eq x.pid q)
  where
    by : (b : Bool) → status_of (cond b (killed x) x) ≡ status_of x
    by true = killed-status x
    by false = refl

marker-channel : (q : ℕ) (x : Process) → channel_of (marker q x) ≡ unless_woken (λ c. nat_eq x.pid q) (channel_of x)
marker-channel q x = by (nat_eq x.pid q)
  where
    awake : (o : Option Channel) → None ≡ unless_woken (λ c. true) o
    awake None = refl
    awake (Some c) = refl

    asleep : (o : Option Channel) → o ≡ unless_woken (λ c. false) o
    asleep None = refl
    asleep (Some c) = refl

    by : (b : Bool) → channel_of (cond b (killed x) x) ≡ unless_woken (λ c. b) (channel_of x)
    by true = killed-awake x ∙ awake (channel_of x)
    by false = asleep (channel_of x)

module _ {k : Kernel} {h : Hart} (q slot : ℕ) (sound : IsSound k h) (at : slot_of k.table q ≡ Some slot) where
  abbrev pub k1 : Kernel
  k1 = noted k (changed_at slot killed k.table)

  found : (x : Process) × (place_at k.table slot ≡ Some x) × (x.pid ≡ q)
  found = slot-found k.table q slot at

  inside : slot < 64
  inside = slot-inside k h sound slot found.0 found.1

  here : place_at k1.table slot ≡ Some (killed found.0)
  here = get_or-set_same k.table.places slot (option_map killed (place_at k.table slot)) None (omega (arith, inside, sound.table.places)) ∙ ap (option_map killed) found.1

  there : (j : ℕ) → j ≢ slot → place_at k1.table j ≡ place_at k.table j
  there j ne = get_or-set_other k.table.places slot j (option_map killed (place_at k.table slot)) None ne

  pub places : (j : ℕ) → place_at k1.table j ≡ option_map (marker q) (place_at k.table j)
  places j = elim (cases_eq j slot) [
    | inl e ↦
        ap (place_at k1.table) e ∙ here ∙ ap (λ (b : Bool). Some (cond b (killed found.0) found.0)) (sym (eq-eqb found.0.pid q found.2))
        ∙ sym (ap (λ n. option_map (marker q) (place_at k.table n)) e ∙ ap (option_map (marker q)) found.1)
    | inr ne ↦ there j ne ∙ other (place_at k.table j) refl ne
  ]
    where
      other : (o : Option Process) → place_at k.table j ≡ o → j ≢ slot → o ≡ option_map (marker q) o
      other None is ne = refl
      other (Some x) is ne = elim (eqb_tells x.pid q) [
        | inl same ↦ absurd (ne (sound.table.pids.apart j slot x found.0 is found.1 (same.1 ∙ sym found.2)))
        | inr apart ↦ ap (λ (b : Bool). Some (cond b (killed x) x)) (sym apart.0)
      ]

  came-from : (j : ℕ) (y : Process) → place_at k1.table j ≡ Some y → (x : Process) × (place_at k.table j ≡ Some x) × (marker q x ≡ y)
  came-from j y is = by (place_at k.table j) refl (sym (places j) ∙ is)
    where
      by : (o : Option Process) → place_at k.table j ≡ o → option_map (marker q) o ≡ Some y → (x : Process) × (place_at k.table j ≡ Some x) × (marker q x ≡ y)
      by None was e = absurd (none-some y e)
      by (Some x) was e = (x, was, same_Some (marker q x) y e)

  vacant-before : (j : ℕ) → place_at k1.table j ≡ None → place_at k.table j ≡ None
  vacant-before j is = by (place_at k.table j) refl (sym (places j) ∙ is)
    where
      by : (o : Option Process) → place_at k.table j ≡ o → option_map (marker q) o ≡ None → place_at k.table j ≡ None
      by None was e = was
      by (Some x) was e = absurd (none-some (marker q x) (sym e))

  table1 : IsTable k1.table
  table1 =
      subst IsTable (ap (λ o. record k.table { places = set k.table.places slot (option_map killed o) }) (sym found.1))
      (table_at k.table slot (Some found.0) found.0 (killed found.0) sound.table inside (sym (read-some k.table.places slot found.0 found.1)) refl refl)

  pub marked-sound : IsSound k1 h
  marked-sound = record {
    memories = sound.memories;
    table = table1;
    lives = λ j y is lives. let x = came-from j y is in sound.lives j x.0 x.1 (sym (marker-status q x.0) ∙ ap status_of x.2 ∙ lives);
    ended = λ j y status is over. let x = came-from j y is in sound.ended j x.0 status x.1 (sym (marker-status q x.0) ∙ ap status_of x.2 ∙ over);
    vacant = λ j is. sound.vacant j (vacant-before j is);
    current = λ j is. let now =
        sound.current j is in
        record {
          process = marker q now.process;
          is = places j ∙ ap (option_map (marker q)) now.is;
          live = marker-status q now.process
              ∙ now.live;
          runs = now.runs;
        };
    idle = sound.idle;
  }

  abbrev before : meaning.Process
  before = process_of found.0 (descriptors_at k.table slot) (held_at (each_of k.memories) slot) (regs_at k h slot)

  entry1 : entry_at k1 h slot ≡ Some (q, marked before)
  entry1 = ap (entry_of k1 h slot) here ∙ (λ i. Some (found.2 i, killed-means found.0 (descriptors_at k.table slot) (held_at (each_of k.memories) slot) (regs_at k h slot) i))

  processes1 : by_pid (entry_at k1 h) NPROC ≡ insert (by_pid (entry_at k h) NPROC) q (marked before)
  processes1 =
      by_pid-insert (entry_at k h) (entry_at k1 h) 64 slot q (marked before) inside entry1
      (λ j lt ne. ap (entry_of k1 h j) (there j ne) ∙ under j (place_at k.table j))
      (λ e is. let f = entry-pid k h slot (place_at k.table slot) e is in f.2 ∙ ap (λ o. (or_nobody o).pid) (sym f.1 ∙ found.1) ∙ found.2)
      (λ j e lt ne is same. let f = entry-pid k h j (place_at k.table j) e is in ne (sound.table.pids.apart j slot f.0 found.0 f.1 found.1 (sym f.2 ∙ same ∙ sym found.2)))
    where
      under : (j : ℕ) (o : Option Process) → entry_of k1 h j o ≡ entry_of k h j o
      under j None = refl
      under j (Some x) = refl

  held : get (state_of k h).processes q ≡ Some before
  held = ap (get (state_of k h).processes) (sym found.2) ∙ entry-held k h sound.table slot found.0 found.1

  pub marked-state : state_of k1 h ≡ mark q (state_of k h)
  unfolding state_of
  marked-state = ap (λ m. record (state_of k h) { processes = m }) (processes1 ∙ sym (ap (change marked q (state_of k h).processes) held))

-- ---- the call is done

or-after : (a b : Bool) (l : Live) → l.killed ≡ a → cond b (option_map marked (Some (Alive l))) (Some (Alive l)) ≡ Some (Alive (record l { killed = a || b }))
or-after true true l e = refl
or-after true false l e = λ i. Some (Alive (record l { killed = e i }))
or-after false true l e = refl
or-after false false l e = λ i. Some (Alive (record l { killed = e i }))

-- who marks q and is done is done and marks q
either-order : (m : FinMap nat_cmp meaning.Process) (p q : ℕ) (l : Live) → (nat_eq q p ≡ true → l.killed ≡ true)
    → insert (change marked q m (get m q)) p (Alive l) ≡ change marked q (insert m p (Alive l)) (get (insert m p (Alive l)) q)
either-order m p q l itself = same_map nat_cmp_total nat_cmp-IsAntisymmetric (insert (change marked q m (get m q)) p (Alive l))
    (change marked q (insert m p (Alive l)) (get (insert m p (Alive l)) q)) (λ r.
    get_at (change marked q m (get m q)) p (Alive l) r
    ∙ ap (cond (nat_eq r p) (Some (Alive l))) (get-change marked marked_again m q r (get m q) refl)
    ∙ by r (nat_eq r p) (nat_eq r q) (λ a b. itself (eq-eqb q p (sym (eqb-true r q b) ∙ eqb-true r p a)))
    ∙ sym (get-change marked marked_again (insert m p (Alive l)) q r (get (insert m p (Alive l)) q) refl ∙ ap (λ o. cond (nat_eq r q) (option_map marked o) o) (get_at m p (Alive l) r)))
  where
    by : (r : ℕ) (a b : Bool) → (a ≡ true → b ≡ true → l.killed ≡ true)
        → cond a (Some (Alive l)) (cond b (option_map marked (get m r)) (get m r)) ≡ cond b (option_map marked (cond a (Some (Alive l)) (get m r))) (cond a (Some (Alive l)) (get m r))
    by r true true itself = λ i. Some (Alive (record l { killed = itself refl refl i }))
    by r true false itself = refl
    by r false b itself = refl

module _ {k : Kernel} {h : Hart} (q slot : ℕ) (whole : IsWhole k h) (runs : IsRunning k) (at : slot_of k.table q ≡ Some slot) (c : Call) where
  abbrev s : State
  s = state_of k h

  abbrev p : ℕ
  p = pid_now k

  abbrev l : Live
  l = live_now k h

  abbrev mid : Kernel
  mid = noted k (changed_at slot killed k.table)

  was : IsLive s p l
  was = live-is k h whole.sound runs

  sound1 : IsSound mid h
  sound1 = marked-sound q slot whole.sound at

  state1 : state_of mid h ≡ mark q s
  state1 = marked-state q slot whole.sound at

  place1 : (j : ℕ) → place_at mid.table j ≡ option_map (marker q) (place_at k.table j)
  place1 = places q slot whole.sound at

  mid-is : place_at mid.table (slot_now k) ≡ Some (marker q (place_now k))
  mid-is = place1 (slot_now k) ∙ ap (option_map (marker q)) (place-is k h whole.sound runs)

  mid-pid : pid_now mid ≡ p
  mid-pid = ap (λ o. (or_nobody o).pid) mid-is ∙ marker-pid q (place_now k)

  abbrev hurt : Live
  hurt = record l { killed = l.killed || nat_eq q p }

  mid-live : live_now mid h ≡ hurt
  mid-live =
      now-is mid h hurt sound1 runs
      (ap (get (state_of mid h).processes) mid-pid ∙ ap (λ (u : State). get u.processes p) state1
      ∙ get-change marked marked_again s.processes q p (get s.processes q) refl ∙ ap (λ o. cond (nat_eq p q) (option_map marked o) o) was
      ∙ or-after l.killed (nat_eq p q) l refl ∙ ap (λ b. Some (Alive (record l { killed = l.killed || b }))) (turn p q))

  abbrev next : Live
  next = killer p q l

  abbrev t : State
  t = kill_state p next q s

  known : not (list_any (nat_eq q) (keys s.processes)) ≡ false
  known = ap not (in-use k h q (Some slot) whole.sound.table at)

  killed-row : killed_by c (view_now k h) q ≡ record (done c (pos 0) (record (view_now k h) { killed = l.killed || nat_eq q p })) { marked = Some q }
  unfolding view_of
  killed-row = ap (λ b. unless b c (view_now k h) (λ _. record (done c (pos 0) (record (view_now k h) { killed = l.killed || nat_eq q p })) { marked = Some q })) known

  pub killed-answer : (killed_by c (view_now k h) q).answer ≡ Called c.number (pos 0)
  killed-answer = ap (λ (o : Own). o.answer) killed-row

  keeps : KeepsAll s (killed_by c (view_now k h) q)
  unfolding view_of
  keeps = subst (KeepsAll s) (sym killed-row) (record { child = refl; stays = refl; pids = refl })

  law : After s p l (killed_by c (view_now k h) q) t
  law = family.kill_law s p q l c was known

  well-after : WellFormed (frame_count k) t
  well-after =
      steps.well_marked (frame_count k) (own_state p next s) q
      (well.alone (frame_count k) s p l next.regs l.image None next.killed s.console s.free whole.well was refl (record { typed = whole.well.keys; sent_later = whole.well.to_send }))

  -- another process is what it was, and marked where it is q
  other-live : (r : ℕ) (a m : Live) → r ≢ p → live s r ≡ Some a → live t r ≡ Some m → m.killed ≡ (a.killed || nat_eq r q)
  other-live r a m apart before after =
      let now : live t r ≡ Some (record a { killed = a.killed || is_this r (Some q) }) = step.live_after s p q l was c r a (live-set_live_there s p l next was refl r apart ∙ before) in
      ap (λ (y : Live). y.killed) (same_Some m (record a { killed = a.killed || is_this r (Some q) }) (sym after ∙ now)) ∙ ap (λ b. a.killed || b) (turn q r)

  -- nothing else comes
  stays-shut : (r : ℕ) (a : Live) → is_open s (waits_for s r a) ≡ false → is_open t (waits_for s r a) ≡ false
  stays-shut r a shut =
      let still : is_open (own_state p next s) (waits_for s r a) ≡ false =
      false_from_ne_true (is_open (own_state p next s) (waits_for s r a))
      (λ yes. opens_nothing s p l next s.files s.free was refl (waits_for s r a) shut yes) in
      false_from_ne_true (is_open t (waits_for s r a)) (λ yes. opens_marked (own_state p next s) q (waits_for s r a) still yes)

  module _ (k' : Kernel) (h' : Hart) (done : IsDone mid h (pos 0) k' h') where
    state-after : state_of k' h' ≡ t
    state-after =
        done.state ∙ (λ i. own_state (mid-pid i) (with_answer (pos 0) (mid-live i)) (state1 i))
        ∙ ap (λ m. record (own_state p next s) { processes = m }) (either-order s.processes p q next (λ e. or_right l.killed (nat_eq q p) e))

    place : ItsPlace mid.table k'.table (slot_now k) (marker q (place_now k)) (in_call None (marker q (place_now k)))
    place =
        let lives = marker-status q (place_now k) ∙ place-lives k h whole.sound runs in
        changed-place mid.table k'.table (slot_now k) (marker q (place_now k)) (in_call None) sound1.table.places
        (running k h whole.sound runs).inside mid-is lives refl (in-call-lives None (marker q (place_now k)) lives)
        (ap (λ (y : Kernel). y.table) done.kernel)

    counted1 : AreCounted mid.files mid.table
    counted1 = record {
      counts = whole.counted.counts;
      lists = whole.counted.lists;
      closed = λ j dead. whole.counted.closed j (sym (ap place_is_live (place1 j) ∙ same-life (place_at k.table j)) ∙ dead);
    }
      where
        same-life : (o : Option Process) → place_is_live (option_map (marker q) o) ≡ place_is_live o
        same-life None = refl
        same-life (Some x) = ap is_none (marker-status q x)

    others-place : (j : ℕ) → j ≢ slot_now k → place_at k'.table j ≡ option_map (marker q) (place_at k.table j)
    others-place j ne = place.others j ne ∙ place1 j

    now-awake : channel_of (in_call None (marker q (place_now k))) ≡ None
    now-awake =
        in-call-channel None (marker q (place_now k)) ∙ marker-channel q (place_now k)
        ∙ ap (unless_woken (λ c. nat_eq (place_now k).pid q)) (whole.awake (slot_now k) (place_now k) (running k h whole.sound runs).current (place-is k h whole.sound runs))

    itself : Itself k h k' h' None
    itself = record {
      after = in_call None (marker q (place_now k));
      is = place.is;
      pid = marker-pid q (place_now k);
      channel = now-awake;
      current = ap (λ (y : Kernel). y.current) done.kernel ∙ (running k h whole.sound runs).current;
      waits = λ d m is lives. absurd (none-some d is);
    }

    others : Others k h k' h' (λ r d. nat_eq r q)
    others = record {
      stays = λ j x d ne is on-it. changed-stays (λ r d. nat_eq r q) (marker q) (marker-pid q) (marker-channel q) (others-place j ne) x d is on-it;
      slept = λ j y d ne is on-it. changed-slept (λ r d. nat_eq r q) (marker q) (marker-pid q) (marker-channel q) (others-place j ne) y d is on-it;
      waits = subst (OthersWaitOn s p) (sym state-after) ((waits_stay (frame_count k) s p l whole.well was).1 next q);
      due = λ r a m d apart before after for-d unmarked shut.
          let now : live t r ≡ Some m = ap (λ (u : State). live u r) (sym state-after) ∙ after in
          sym ((λ i. other-live r a m apart before now i || is_open (state-after i) (waits_for s r a)) ∙ (λ i. (unmarked i || nat_eq r q) || stays-shut r a shut i) ∙ sym (or_false (nat_eq r q)));
    }

    keeps-slots : slots_of k'.table ≡ slots_of k.table
    keeps-slots = place-slots place ∙ slots-same k.table mid.table (λ j. ap (option_map process_pid) (place1 j) ∙ same-pid (marker q) (marker-pid q) (place_at k.table j))

    not-blocked : IsBlocked (killed_by c (view_now k h) q).answer → ⊥
    not-blocked (n, is) = let e : Called c.number (pos 0) ≡ Blocked n = sym killed-answer ∙ is in cc

    after : After s p l (killed_by c (view_now k h) q) (state_of k' h')
    after = subst (After s p l (killed_by c (view_now k h) q)) (sym state-after) law

    pub kill-makes : Makes k h (killed_by c (view_now k h) q) k' h'
    kill-makes = made whole runs (record {
      leaves = record {
        sound = done.sound;
        well = subst (WellFormed (frame_count k)) (sym state-after) well-after;
        files = subst files.IsTable (sym (ap (λ (y : Kernel). y.files) done.kernel)) whole.files;
        counted = subst (λ f. AreCounted f k'.table) (sym (ap (λ (y : Kernel). y.files) done.kernel)) (place-counted place counted1);
        frames = ap (λ (y : Kernel). length y.memories.ram) done.kernel;
        buffers = ended-buffers s p l (killed_by c (view_now k h) q) (state_of k' h') after (ap (λ (o : Own). is_in_no_call o.next) killed-row)
            (ap (λ (o : Own). is_in_no_call o.child) killed-row) whole.buffers;
        itself = itself;
        others = others;
      };
      last = place.last;
      slots = slots-kept k h k' (killed_by c (view_now k h) q) whole.sound.table keeps-slots keeps;
      after = after;
      alive = keeps.stays;
      blocked = λ is. absurd (not-blocked is);
      sleeps = λ some. let no : ⊥ = cc in absurd no;
    })

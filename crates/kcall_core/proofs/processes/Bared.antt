-- A process that runs closes all its descriptors, and then it ends: together it departs.
use Rattle.kcall_core.proofs.Prelude.{ℕ, ℤ, ◌+◌, ◌<◌, ◌∙◌, ◌≡◌, ◌≢◌, Alive, Answer, ap, AreCounted, arith, Bool, cases_eq, changed_at, changed_state, Channel, closes_wake, cond, CountedFile}
use Rattle.kcall_core.proofs.Prelude.{descriptor_map, descriptors_at, each_changed, empty, end_wakes, ended, ext_get_or, family_wakes, fewer_on_all, FilesLeft, freed_on_all, gathered-get, get}
use Rattle.kcall_core.proofs.Prelude.{get-empty, get_or, get_or-replicate, get_or-set_other, get_same, given, gone, gone_state, gone_with, Hart, inl, inr, is_live, IsRunning, IsSound, IsWhole, Kernel}
use Rattle.kcall_core.proofs.Prelude.{length, length-replicate, List, live_now, Live_state, lt-ltb, Makes, namings, nat_cmp, nat_cmp-IsAntisymmetric, nat_cmp_total, NOFILE, None, none_named, Option}
use Rattle.kcall_core.proofs.Prelude.{option_map, or_nobody, or_zero, pid_now, place_at, place_is_live, Process, refl, same_live, same_map, slot_now, Slots, Some, State, state_of, state_woken, subst}
use Rattle.kcall_core.proofs.Prelude.{sym, view_now, woken, Zombie_state}
use Rattle.kcall_core.proofs.table.States.{running}
use Rattle.kcall_core.proofs.turns.Turned.{live-is}
use Rattle.kcall_core.proofs.processes.Departs.{OthersWake, Departs}
use Rattle.kcall_core.proofs.table.OthersWake.{others-join, others-end, own-end, end_in, parent_woken}
use Rattle.kcall_core.proofs.table.Woken.{place-each}
use Rattle.kcall_core.proofs.processes.GoneAfter.{gone-after}
use Rattle.kcall_core.proofs.processes.GoneMakes.{gone-makes}
use Rattle.file_table.specs.OpenFiles as files
use Rattle.proc_table.specs.declared.channel.Channel.TheVariants as on
use Rattle.proc_table.specs.declared.process.State as table

-- k1 is k but for the descriptors of the process that runs, which are closed
pub record IsBared (k : Kernel) (h : Hart) (k1 : Kernel) : Type 0 where
  pub sound : IsSound k1 h
  pub running : IsRunning k1
  pub files : files.IsTable k1.files
  pub counted : AreCounted k1.files k1.table
  pub current : k1.current ≡ k.current
  pub pid : pid_now k1 ≡ pid_now k
  pub last : k1.table.last ≡ k.table.last
  pub frames : length k1.memories.ram ≡ length k.memories.ram
  pub others : OthersWake (slot_now k) (closes_wake (state_of k h).pipes (state_of k1 h).pipes) k.table k1.table
  pub none : (d : ℕ) → get (live_now k1 h).descriptors d ≡ None
  pub state : let s = state_of k h in let t = state_of k1 h in
      t ≡ changed_state (pid_now k) (record (live_now k h) { descriptors = (live_now k1 h).descriptors }) t.files t.pipes s.console t.free s
  pub pipes : (state_of k1 h).pipes ≡ fewer_on_all (state_of k h) (live_now k h) NOFILE (state_of k h).pipes
  pub free : (state_of k1 h).free ≡ (state_of k h).free + freed_on_all (state_of k h) (live_now k h) NOFILE (state_of k h).pipes

-- k' is k1 where the process that ran has ended with a status, and its parent and pid 1 are awake
pub record IsEndedIn (k1 : Kernel) (h : Hart) (parent : Option ℕ) (status : ℤ) (k' : Kernel) (h' : Hart) : Type 0 where
  pub sound : IsSound k' h'
  pub stopped : k'.current ≡ None
  pub frames : length k'.memories.ram ≡ length k1.memories.ram
  pub files : k'.files ≡ k1.files
  pub table : k'.table ≡ end_in (slot_now k1) (pid_now k1) parent status k1.table
  pub state : state_of k' h' ≡ gone_state (pid_now k1) (live_now k1 h) status (state_of k1 h).files (state_of k1 h)

-- ---- no descriptor is in use

nothing-named : (ds : List (Option ℕ)) → length ds ≡ NOFILE → ((d : ℕ) → get (descriptor_map ds) d ≡ None) → ds ≡ none_named
nothing-named ds long none =
    ext_get_or None ds none_named (long ∙ sym (length-replicate NOFILE nobody))
    (λ d below. seen d (omega (arith, below, long)) ∙ sym (get_or-replicate NOFILE d nobody None (omega (arith, below, long))))
  where
    nobody : Option ℕ
    nobody = None

    seen : (d : ℕ) → d < NOFILE → get_or ds d None ≡ None
    seen d below = sym (gathered-get (λ e. get_or ds e None) NOFILE d ∙ ap (λ b. cond b (get_or ds d None) None) (lt-ltb d NOFILE below)) ∙ none d

-- ---- the open files count as many

live-woken : (channel : Channel) (o : Option Process) → place_is_live (option_map (woken channel) o) ≡ place_is_live o
live-woken channel None = refl
live-woken channel (Some p) = by p.state
  where
    by : (s : table.State) → is_live (record p { state = state_woken channel s }) ≡ is_live (record p { state = s })
    by (Live_state life) = refl
    by (Zombie_state status) = refl

live-given : (pid : ℕ) (o : Option Process) → place_is_live (option_map (given pid 1) o) ≡ place_is_live o
live-given pid None = refl
live-given pid (Some p) = refl

module _ (slot pid : ℕ) (parent : Option ℕ) (status : ℤ) (t : Slots) where
  -- all but the processes stays
  parent-descriptors : (o : Option ℕ) (u : Slots) → (parent_woken o u).descriptors ≡ u.descriptors
  parent-descriptors None u = refl
  parent-descriptors (Some q) u = refl

  end-descriptors : (end_in slot pid parent status t).descriptors ≡ t.descriptors
  end-descriptors = parent-descriptors parent (changed_at slot (ended status) (each_changed (given pid 1) t))

  parent-last : (o : Option ℕ) (u : Slots) → (parent_woken o u).last ≡ u.last
  parent-last None u = refl
  parent-last (Some q) u = refl

  end-last : (end_in slot pid parent status t).last ≡ t.last
  end-last = parent-last parent (changed_at slot (ended status) (each_changed (given pid 1) t))

  parent-live : (o : Option ℕ) (u : Slots) (j : ℕ) → place_is_live (place_at (parent_woken o u) j) ≡ place_is_live (place_at u j)
  parent-live None u j = refl
  parent-live (Some q) u j = ap place_is_live (place-each (woken (on.Children q)) u j) ∙ live-woken (on.Children q) (place_at u j)

  -- who lives in another slot lives on
  end-live : (j : ℕ) → j ≢ slot → place_is_live (place_at (end_in slot pid parent status t) j) ≡ place_is_live (place_at t j)
  end-live j other =
      let adopted : Slots = each_changed (given pid 1) t in
      let zombie : Slots = changed_at slot (ended status) adopted in
      ap place_is_live (place-each (woken (on.Children 1)) (parent_woken parent zombie) j) ∙ live-woken (on.Children 1) (place_at (parent_woken parent zombie) j)
      ∙ parent-live parent zombie j
      ∙ ap place_is_live (get_or-set_other adopted.places slot j (option_map (ended status) (place_at adopted slot)) None other)
      ∙ ap place_is_live (place-each (given pid 1) t j) ∙ live-given pid (place_at t j)

  end-counted : (files : List (Option CountedFile)) → AreCounted files t → descriptors_at t slot ≡ none_named → AreCounted files (end_in slot pid parent status t)
  end-counted files counted bare = record {
    counts = λ file. counted.counts file ∙ ap (λ (ds : List (List (Option ℕ))). namings (record t { descriptors = ds }) file) (sym end-descriptors);
    lists = λ j below. ap length (same j) ∙ counted.lists j below;
    closed = λ j over. same j ∙ elim (cases_eq j slot) [
      | inl e ↦ ap (descriptors_at t) e ∙ bare
      | inr other ↦ counted.closed j (sym (end-live j other) ∙ over)
    ];
  }
    where
      same : (j : ℕ) → descriptors_at (end_in slot pid parent status t) j ≡ descriptors_at t j
      same j = ap (λ (ds : List (List (Option ℕ))). get_or ds j none_named) end-descriptors

-- ---- both together

module _ (k k1 k' : Kernel) (h h' : Hart) (status : ℤ) (bared : IsBared k h k1) (ends : IsEndedIn k1 h (live_now k h).parent status k' h') where
  same-slot : slot_now k1 ≡ slot_now k
  same-slot = ap or_zero bared.current

  -- the open files count the descriptors that are left
  pub ended-counted : AreCounted k'.files k'.table
  ended-counted =
      let ds = descriptors_at k1.table (slot_now k1) in
      let r = running k1 h bared.sound bared.running in
      let bare : ds ≡ none_named = nothing-named ds (bared.counted.lists (slot_now k1) r.inside) bared.none in
      subst (λ (fs : List (Option CountedFile)). AreCounted fs k'.table) (sym ends.files)
      (subst (λ (t : Slots). AreCounted k1.files t) (sym ends.table) (end-counted (slot_now k1) (pid_now k1) (live_now k h).parent status k1.table k1.files bared.counted bare))

  bare-live : live_now k1 h ≡ record (live_now k h) { descriptors = (live_now k1 h).descriptors }
  bare-live =
      let bare = record (live_now k h) { descriptors = (live_now k1 h).descriptors } in
      same_live (live_now k1 h) bare
      (sym (live-is k1 h bared.sound bared.running) ∙ (λ i. get (bared.state i).processes (bared.pid i)) ∙ get_same (state_of k h).processes (pid_now k) (Alive bare))

  no-descriptors : (live_now k1 h).descriptors ≡ empty
  no-descriptors = same_map nat_cmp_total nat_cmp-IsAntisymmetric (live_now k1 h).descriptors empty (λ d. bared.none d ∙ sym (get-empty nat_cmp d))

  ended-state : state_of k' h' ≡ gone_state (pid_now k) (live_now k h) status (state_of k1 h).files (state_of k h)
  ended-state =
      let t = state_of k1 h in
      ends.state ∙ (λ i. gone_state (bared.pid i) (bare-live i) status t.files (bared.state i))
      ∙ gone-after (state_of k h) (pid_now k) (live_now k h) status (live_now k1 h).descriptors t.files t.pipes t.free no-descriptors bared.pipes bared.free

  same-pipes : (state_of k1 h).pipes ≡ (state_of k' h').pipes
  same-pipes = bared.pipes ∙ ap (λ (t : State). t.pipes) (sym ended-state)

  abbrev wakes : Channel → Bool
  wakes = end_wakes (live_now k h).parent (state_of k h).pipes (state_of k1 h).pipes

  pub departs : FilesLeft (state_of k h) (state_of k' h') → Departs k h k' h' status (state_of k1 h).files wakes
  departs named =
      let r = running k1 h bared.sound bared.running in
      let own = own-end (slot_now k1) (pid_now k1) (live_now k h).parent status k1.table r.is.process (omega (arith, r.inside, bared.sound.table.places)) r.is.is in
      let pid : r.is.process.pid ≡ pid_now k = ap (λ o. (or_nobody o).pid) (sym r.is.is) ∙ bared.pid in
      record {
        sound = ends.sound;
        stopped = ends.stopped;
        frames = ends.frames ∙ bared.frames;
        state = ended-state;
        named = subst (λ (t : State). FilesLeft (state_of k h) t) ended-state named;
        files = subst files.IsTable (sym ends.files) bared.files;
        counted = ended-counted;
        last = ap (λ (t : Slots). t.last) ends.table ∙ end-last (slot_now k1) (pid_now k1) (live_now k h).parent status k1.table ∙ bared.last;
        own = (
          own.0,
          ap (λ (t : Slots). place_at t (slot_now k)) ends.table
              ∙ ap (place_at (end_in (slot_now k1) (pid_now k1) (live_now k h).parent status k1.table)) (sym same-slot) ∙ own.1,
          own.2 ∙ pid,
          own.3,
        );
        others = subst (λ (t : Slots). OthersWake (slot_now k) wakes k.table t) (sym ends.table)
            (subst (λ (i : ℕ). OthersWake (slot_now k) wakes k.table (end_in i (pid_now k1) (live_now k h).parent status k1.table)) (sym same-slot)
            (others-join (closes_wake (state_of k h).pipes (state_of k1 h).pipes) (family_wakes (live_now k h).parent) k.table k1.table
            (end_in (slot_now k) (pid_now k1) (live_now k h).parent status k1.table) bared.others
            (others-end (slot_now k) (pid_now k1) (live_now k h).parent status k1.table)));
        exactly = λ channel. ap (λ m. end_wakes (live_now k h).parent (state_of k h).pipes m channel) same-pipes;
      }

  -- so the process makes the step that its end is
  pub end-makes : IsWhole k h → IsRunning k → FilesLeft (state_of k h) (state_of k' h') → (answer : Answer) → gone_with answer ≡ Some status → Makes k h (gone answer (view_now k h)) k' h'
  end-makes whole runs named answer is = gone-makes k k' h h' status (state_of k1 h).files wakes whole runs (departs named) answer is

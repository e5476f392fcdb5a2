-- The call dup, where its descriptor is in use and another is free: what it leaves makes the step that its row tells.
use Rattle.kcall_core.proofs.Prelude.{ℕ, ℤ, ◌+◌, ◌<◌, ◌||◌, ◌∙◌, ◌≡◌, After, ap, AreCounted, arith, c_int, Call, Called, changed_state, cond, CountedFile, Descriptor, descriptor_at, descriptor_on}
use Rattle.kcall_core.proofs.Prelude.{descriptors_at, dup, dup_at, dup_case, dup_law, dup_number, dup_on, dup_pipe_law, dup_same, End, eqb_tells, false, File, FinMap, frame_count, free_of, fun_ext}
use Rattle.kcall_core.proofs.Prelude.{gathered, get, get_at, Hart, has_bytes, has_room, inl, inr, insert, InUse, is_some, IsLive, IsRunning, IsSome, IsSound, IsWhole, joined, Joins, Kernel}
use Rattle.kcall_core.proofs.Prelude.{least_on_pipe, least_there, length, Live, live_now, lowest_free, lt-ltb, Makes, Memories, more_at, more_on, named_at, named_by, nat_cmp, nat_eq, nat_lt, negsuc}
use Rattle.kcall_core.proofs.Prelude.{NOFILE, None, none-some, numbered, OnPipe, open_file_at, OPEN_FILES, OpenFile, Option, option_map, or_gone, or_new, or_parts, Own, pid_now, Pipe, PIPE_BYTES}
use Rattle.kcall_core.proofs.Prelude.{pipe_cost, Pipe_end, pipe_name, pipe_named, pipe_of_target, pipes_of, place_at, place_is_live, pos, Reading, refl, refused, rename, set, show, slot_now, Slots}
use Rattle.kcall_core.proofs.Prelude.{Some, State, state_of, subst, sym, Target, Terminal, true, View, view_now, view_of, well_dup, well_dup_pipe, WellFormed, with_answer, with_named, with_sharer}
use Rattle.kcall_core.proofs.Prelude.{woken_by, Writing}
use Rattle.file_table.specs.OpenFiles.{entry_at}
use Rattle.kcall_core.proofs.table.States.{slot-inside}
use Rattle.kcall_core.proofs.table.Stops.{live-place, now-slot}
use Rattle.kcall_core.proofs.turns.Turned.{live-is}
use Rattle.kcall_core.proofs.table.Woken.{place-each, each-none}
use Rattle.kcall_core.proofs.files.Namings.{named-seen}
use Rattle.kcall_core.proofs.turns.StepSlots.{KeepsAll}
use Rattle.kcall_core.proofs.making.CallAnswers.{IsDone}
use Rattle.kcall_core.proofs.files.Taking.{Shares}
use Rattle.kcall_core.proofs.files.Putting.{put-sound, put-state}
use Rattle.kcall_core.proofs.files.Sharing.{more-file, more-table, shared-counted}
use Rattle.kcall_core.proofs.files.OpenRoom.{whole_has_room}
use Rattle.kcall_core.proofs.making.Midway.{WakeOn, Midway, midway-done}
use Rattle.kcall_core.proofs.making.Moved.{nobody}
use Rattle.file_table.specs.OpenFiles as files
use Rattle.kernel_spec.specs.steps.Updates as update

-- with one descriptor more, what was shut stays so
module _ (x : Pipe) (end : End) where
  up : (n : ℕ) → nat_eq (n + 1) 0 ≡ false
  up n = elim (eqb_tells (n + 1) 0) [ inl zero ↦ absurd (omega (arith, zero.1)) | inr other ↦ other.0 ]

  bytes-shut : has_bytes x ≡ false → has_bytes (joined x end 1) ≡ false
  bytes-shut shut = by end
    where
      by : (e : End) → has_bytes (joined x e 1) ≡ false
      by Reading = shut
      by Writing = let e = or_parts (nat_lt 0 (length x.bytes)) (nat_eq x.writers 0) shut in (λ i. e.0 i || up x.writers i)

  room-shut : has_room x ≡ false → has_room (joined x end 1) ≡ false
  room-shut shut = by end
    where
      by : (e : End) → has_room (joined x e 1) ≡ false
      by Reading = let e = or_parts (nat_lt (length x.bytes) PIPE_BYTES) (nat_eq x.readers 0) shut in (λ i. e.0 i || up x.readers i)
      by Writing = shut

same-wake : (m : FinMap nat_cmp Pipe) (k : Kernel) (h : Hart) → WakeOn nobody m m (state_of k h).console (state_of k h).console
same-wake m k h = record { bytes = λ i shut. sym shut; room = λ i shut. sym shut; keys = λ shut. sym shut; sending = λ shut. sym shut; children = λ q. refl; clock = refl }

more-wake : (target : Target) (m : FinMap nat_cmp Pipe) (k : Kernel) (h : Hart) → WakeOn nobody m (more_on (Some target) m) (state_of k h).console (state_of k h).console
more-wake Terminal m k h = same-wake m k h
more-wake (File program offset) m k h = same-wake m k h
more-wake (Pipe_end i end) m k h = by (get m i) refl
  where
    by : (o : Option Pipe) → get m i ≡ o → WakeOn nobody m (more_at i end m o) (state_of k h).console (state_of k h).console
    by None is = same-wake m k h
    by (Some x) is = record {
      bytes = λ j shut. elim (eqb_tells j i) [
        | inl e ↦ sym (ap (λ o. has_bytes (or_gone o)) (get_at m i (joined x end 1) j ∙ ap (λ b. cond b (Some (joined x end 1)) (get m j)) e.0)
            ∙ bytes-shut x end (sym (ap (λ o. has_bytes (or_gone o)) (ap (get m) e.1 ∙ is)) ∙ shut))
        | inr e ↦ sym (ap (λ o. has_bytes (or_gone o)) (get_at m i (joined x end 1) j ∙ ap (λ b. cond b (Some (joined x end 1)) (get m j)) e.0) ∙ shut)
      ];
      room = λ j shut. elim (eqb_tells j i) [
        | inl e ↦ sym (ap (λ o. has_room (or_gone o)) (get_at m i (joined x end 1) j ∙ ap (λ b. cond b (Some (joined x end 1)) (get m j)) e.0)
            ∙ room-shut x end (sym (ap (λ o. has_room (or_gone o)) (ap (get m) e.1 ∙ is)) ∙ shut))
        | inr e ↦ sym (ap (λ o. has_room (or_gone o)) (get_at m i (joined x end 1) j ∙ ap (λ b. cond b (Some (joined x end 1)) (get m j)) e.0) ∙ shut)
      ];
      keys = λ shut. sym shut;
      sending = λ shut. sym shut;
      children = λ q. refl;
      clock = refl;
    }

module _ (k : Kernel) (h : Hart) (c : Call) (slot j d g : ℕ) (x : OpenFile) (whole : IsWhole k h) (runs : IsRunning k) (is : k.current ≡ Some slot)
    (source-below : j < NOFILE) (source : InUse k h j g x) (below : d < NOFILE) (free : named_by (descriptors_at k.table slot) d ≡ None) where
  abbrev s : State
  s = state_of k h

  abbrev p : ℕ
  p = pid_now k

  abbrev l : Live
  l = live_now k h

  was : IsLive s p l
  was = live-is k h whole.sound runs

  inside : slot < 64
  inside = let now = whole.sound.current slot is in slot-inside k h whole.sound slot now.process now.is

  unused : get l.descriptors d ≡ None
  unused =
      named-seen (descriptors_at k.table (slot_now k)) d
      ∙ ap (λ b. cond b (named_by (descriptors_at k.table (slot_now k)) d) None) (lt-ltb d NOFILE below)
      ∙ ap (λ n. named_by (descriptors_at k.table n) d) (sym (now-slot slot whole.sound is)) ∙ free

  abbrev shown : Descriptor
  shown = rename (numbered s l) (record { file = g; read = x.read; write = x.write; shown = show s x.target })

  seen : (view_now k h).descriptors j ≡ Some shown
  unfolding view_of
  seen = named_at (numbered s l) j source-below ∙ ap (option_map (rename (numbered s l))) (ap (descriptor_at s) source.used ∙ ap (descriptor_on s g) source.opened)

  abbrev shared_to : Live → Target → State
  shared_to m target = changed_state p m s.files (more_on (Some target) s.pipes) s.console s.free s

  -- ---- the laws, whatever the descriptor is on

  module _ (i : ℕ) (end : End) (e : x.target ≡ Pipe_end i end) (z : Pipe) (at : get s.pipes i ≡ Some z) where
    opened-there : get s.files g ≡ Some (record { read = x.read; write = x.write; target = Pipe_end i end })
    opened-there = source.opened ∙ ap (λ (t : Target). Some (record x { target = t })) e

    is-there : pipe_name (numbered s l j) ≡ Some i
    is-there = ap (λ o. pipe_name (descriptor_at s o)) source.used ∙ ap (λ o. pipe_name (descriptor_on s g o)) opened-there

    named-least : (n : ℕ) × (least_on_pipe (numbered s l) i ≡ Some n)
    named-least = by (least_on_pipe (numbered s l) i) refl (least_there (numbered s l) i j source-below is-there (least_on_pipe (numbered s l) i) refl)
      where
        by : (o : Option ℕ) → least_on_pipe (numbered s l) i ≡ o → is_some o ≡ true → (n : ℕ) × (least_on_pipe (numbered s l) i ≡ Some n)
        by None least some = let no : ⊥ = cc in absurd no
        by (Some n) least some = (n, least)

    on-it : OnPipe s p l j i named-least.0 end z
    on-it = record { was = was; below = source-below; file = g; named_file = source.used; read = x.read; write = x.write; opened = opened-there; pipe = at; names = named-least.1 }

    to : (m : Live) → shared_to m (Pipe_end i end) ≡ changed_state p m s.files (insert s.pipes i (joined z end 1)) s.console s.free s
    to m = λ t. changed_state p m s.files (more_at i end s.pipes (at t)) s.console s.free s

  pipe-some : (i : ℕ) (end : End) → x.target ≡ Pipe_end i end → (z : Pipe) × (get s.pipes i ≡ Some z)
  pipe-some i end e = by (get s.pipes i) refl (whole.well.ends g i x end source.opened e)
    where
      by : (o : Option Pipe) → get s.pipes i ≡ o → IsSome o → (z : Pipe) × (get s.pipes i ≡ Some z)
      by None at some = let no : ⊥ = cc in absurd no
      by (Some z) at some = (z, at)

  law-at : (target : Target) → x.target ≡ target → After s p l (dup_at c (view_now k h) j shown (Some d)) (shared_to (with_answer (pos d) (update.with_named d g l)) target)
  unfolding on-it
  law-at Terminal e = dup_law s p l c j d g x shown was source-below source.used unused source.opened (ap pipe_of_target e) seen
  law-at (File program offset) e = dup_law s p l c j d g x shown was source-below source.used unused source.opened (ap pipe_of_target e) seen
  law-at (Pipe_end i end) e =
      let z = pipe-some i end e in
      subst (After s p l (dup_at c (view_now k h) j shown (Some d))) (sym (to i end e z.0 z.1 (with_answer (pos d) (update.with_named d g l))))
      (dup_pipe_law s p l c j d i (named-least i end e z.0 z.1).0 end z.0 shown (on-it i end e z.0 z.1) unused seen)

  well-at : (target : Target) → x.target ≡ target → WellFormed (frame_count k) (shared_to (update.with_named d g l) target)
  unfolding on-it
  well-at Terminal e = well_dup (frame_count k) s p l (update.with_named d g l) j d g x whole.well was below unused source.used source.opened (ap pipe_of_target e) (refl, refl, refl)
  well-at (File program offset) e = well_dup (frame_count k) s p l (update.with_named d g l) j d g x whole.well was below unused source.used source.opened (ap pipe_of_target e) (refl, refl, refl)
  well-at (Pipe_end i end) e =
      let z = pipe-some i end e in
      subst (WellFormed (frame_count k)) (sym (to i end e z.0 z.1 (update.with_named d g l)))
      (well_dup_pipe (frame_count k) s p l (update.with_named d g l) j d i (named-least i end e z.0 z.1).0 end z.0 (on-it i end e z.0 z.1) whole.well below unused (refl, refl, refl))

  -- ---- the memories

  record Joined (m : Memories) (target : Target) : Type 0 where
    shares : Shares k.memories m
    pipes : pipes_of m ≡ more_on (Some target) s.pipes
    free-same : free_of m ≡ s.free
    frames : length m.ram ≡ length k.memories.ram

  joined-at : (m : Memories) (target : Target) → x.target ≡ target → Joins target k.memories m → Joined m target
  unfolding state_of
  joined-at m Terminal e same = subst (λ n. Joined n Terminal) (sym same)
      (record { shares = record { sound = whole.sound.memories; each = refl; runs = λ a hart r. r }; pipes = refl; free-same = refl; frames = refl })
  joined-at m (File program offset) e same = subst (λ n. Joined n (File program offset)) (sym same)
      (record { shares = record { sound = whole.sound.memories; each = refl; runs = λ a hart r. r }; pipes = refl; free-same = refl; frames = refl })
  joined-at m (Pipe_end i end) e changes =
      let z = pipe-some i end e in
      let new : joined (pipe_named (pipes_of k.memories) i) end 1 ≡ joined z.0 end 1 = ap (λ o. joined (or_new o) end 1) z.1 in
      record {
        shares = record { sound = changes.sound; each = changes.each; runs = changes.runs };
        pipes = changes.pipes ∙ ap (insert s.pipes i) new ∙ sym (ap (more_at i end s.pipes) z.1);
        free-same = omega (arith, changes.free, ap pipe_cost z.1);
        frames = changes.frames;
      }

  -- ---- the code: the descriptor is there, and the call is done

  module _ (k1 : Kernel) (table : k1.table ≡ record k.table
      { descriptors = set k.table.descriptors slot (with_named d (Some g) (descriptors_at k.table slot)) }) (kept : k1.files ≡ with_sharer g k.files)
      (joins : Joins x.target k.memories k1.memories) (rest : k1 ≡ record k { table = k1.table; files = k1.files; memories = k1.memories }) where
    its-memories : Joined k1.memories x.target
    its-memories = joined-at k1.memories x.target refl joins

    current1 : k1.current ≡ k.current
    current1 = ap (λ (n : Kernel). n.current) rest

    fits : d < length (descriptors_at k.table slot)
    fits = omega (arith, below, whole.counted.lists slot inside)

    pub shared-sound : IsSound k1 h
    shared-sound = put-sound k k1 h slot d g whole.sound is current1 its-memories.shares fits below table

    its-entry : (e : CountedFile) × (entry_at k.files g ≡ Some e)
    its-entry = by (entry_at k.files g) refl source.kind
      where
        by : (o : Option CountedFile) → entry_at k.files g ≡ o → option_map files.entry_file o ≡ Some x → (e : CountedFile) × (entry_at k.files g ≡ Some e)
        by None at f = absurd (none-some x f)
        by (Some e) at f = (e, at)

    same-files : (state_of k1 h).files ≡ s.files
    unfolding state_of
    same-files = ap (λ f. gathered f OPEN_FILES) (fun_ext (λ n. ap (λ fs. open_file_at fs n) kept ∙ more-file k.files g whole.files its-entry.0 its-entry.1 n))

    state1 : state_of k1 h ≡ shared_to (update.with_named d g l) x.target
    unfolding state_of
    state1 =
        put-state k k1 h slot d g whole.sound is current1 its-memories.shares fits below table (ap (λ (n : Kernel). n.console) rest)
        (ap (λ (n : Kernel). n.programs.items) rest) (ap (λ (n : Kernel). n.clock) rest)
        ∙ (λ i. changed_state p (update.with_named d g l) (same-files i) (its-memories.pipes i) s.console (its-memories.free-same i) s)

    midway : Midway k h k1 h nobody (update.with_named d g l) s.files (more_on (Some x.target) s.pipes) s.console s.free
    midway = record {
      sound = shared-sound;
      table = subst files.IsTable (sym kept) (more-table k.files g whole.files its-entry.0 its-entry.1
          ((whole_has_room k h whole).sharers g its-entry.0.count (ap (option_map files.entry_count) its-entry.1)));
      counted = subst (λ fs. AreCounted fs k1.table) (sym kept)
          (shared-counted k.files k.table k1.table slot d g its-entry.0 whole.counted whole.files its-entry.1 inside below whole.sound.table.descriptors free (ap (λ (t : Slots). t.descriptors) table)
          (λ n. ap (λ (t : Slots). place_is_live (place_at t n)) table) (let now = whole.sound.current slot is in live-place k slot now.process now.is now.live));
      frames = its-memories.frames;
      current = current1;
      last = ap (λ (t : Slots). t.last) table;
      places = λ n. ap (λ (t : Slots). place_at t n) table ∙ ap (λ (t : Slots). place_at t n) (each-none nobody k.table (λ c. refl)) ∙ place-each (woken_by nobody) k.table n;
      state = state1;
      well = subst (WellFormed (frame_count k)) (sym state1) (well-at x.target refl);
      parent = refl;
      wake = more-wake x.target s.pipes k h;
      targets = inl (λ q e f other at. refl);
    }

    -- d is the lowest that is free
    module _ (is-fd : c_int c.a0 ≡ pos j) (lowest : lowest_free (view_now k h).descriptors ≡ Some d) where
      row : dup c (view_now k h) ≡ dup_at c (view_now k h) j shown (Some d)
      row = dup_case c (view_now k h) shown j 0 is-fd seen ∙ ap (dup_at c (view_now k h) j shown) lowest

      pub dup-answer : (dup c (view_now k h)).answer ≡ Called c.number (pos d)
      dup-answer = ap (λ (o : Own). o.answer) row

      keeps : KeepsAll s (dup c (view_now k h))
      unfolding view_of
      keeps = subst (KeepsAll s) (sym row) (record { child = refl; stays = refl; pids = refl })

      pub dup-makes : (k' : Kernel) (h' : Hart) → IsDone k1 h (pos d) k' h' → Makes k h (dup c (view_now k h)) k' h'
      dup-makes k' h' done = midway-done whole runs midway k' h' (pos d) (dup c (view_now k h)) c.number done dup-answer keeps
          (subst (λ o. After s p l o (shared_to (with_answer (pos d) (update.with_named d g l)) x.target)) (sym row) (law-at x.target refl))

-- ---- no descriptor in use, or none free

dup-unused : (c : Call) (v : View) (z : ℤ) → ((d : ℕ) → z ≡ pos d → v.descriptors d ≡ None) → dup_number c v z ≡ refused c v
dup-unused c v (pos d) none = ap (dup_on c v d) (none d refl)
dup-unused c v (negsuc k) none = refl

pub dup-refused : (c : Call) (v : View) → ((d : ℕ) → c_int c.a0 ≡ pos d → v.descriptors d ≡ None) → dup c v ≡ refused c v
dup-refused c v none = dup_same c v ∙ dup-unused c v (c_int c.a0) none

pub dup-full : (k : Kernel) (h : Hart) (c : Call) (j g : ℕ) (x : OpenFile) → j < NOFILE → InUse k h j g x → c_int c.a0 ≡ pos j
    → lowest_free (view_now k h).descriptors ≡ None → dup c (view_now k h) ≡ refused c (view_now k h)
unfolding view_of
dup-full k h c j g x below source is-fd full =
    let t = numbered (state_of k h) (live_now k h) in
    let y : Descriptor = rename t (record { file = g; read = x.read; write = x.write; shown = show (state_of k h) x.target }) in
    dup_case c (view_now k h) y j 0 is-fd (named_at t j below ∙ ap (option_map (rename t)) (ap (descriptor_at (state_of k h)) source.used ∙ ap (descriptor_on (state_of k h) g) source.opened))
    ∙ ap (dup_at c (view_now k h) j y) full

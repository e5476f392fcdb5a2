-- The call pipe: what it leaves makes the step that its row tells.
use Rattle.kcall_core.proofs.Prelude.{ℕ, ◌++◌, ◌+◌, ◌-◌, ◌<◌, ◌∙◌, ◌≡◌, ◌≢◌, After, Alive, ap, AreCounted, arith, at_start, Bool, brought, Call, Called, cases_lt, changed_state, cond, Console}
use Rattle.kcall_core.proofs.Prelude.{descriptors_at, each_of, eqb_tells, false, File, FinMap, frame_count, free_of, gathered, get, get_at, get_or, get_or-set_other, get_or-set_same, get_other, Hart}
use Rattle.kcall_core.proofs.Prelude.{has_bytes, has_room, held_at, inl, inr, insert, insert-twice, IsLive, IsReady, IsRunning, IsSome, IsSound, IsUnready, IsWhole, Kernel, le_bytes, length, List}
use Rattle.kcall_core.proofs.Prelude.{Live, live_now, live_of, lowest_free, lowest_free_above, lowest_place, make_pipe, Makes, Memories, named_by, nat_cmp, nat_eq, new_pipe, NobodyHas, NobodyNames}
use Rattle.kcall_core.proofs.Prelude.{NOFILE, None, none-some, open_file_at, OPEN_FILES, OpenFile, Option, or_gone, or_nothing, Own, pages_at, pid_now, Pipe, pipe_case, pipe_cost, Pipe_end, pipe_file}
use Rattle.kcall_core.proofs.Prelude.{pipe_full, pipe_law, pipe_none, pipe_of_file, pipe_of_open, pipe_of_target, pipe_ready, pipe_unwritable, PipeChanges, piped, pipes_of, place_at, place_is_live}
use Rattle.kcall_core.proofs.Prelude.{place_now, pos, price, Reading, refl, refused, RunsIn, same_Some, set, slot_now, SlotChanges, Slots, Some, State, state_of, subst, sym, Target, target_of_open}
use Rattle.kcall_core.proofs.Prelude.{Terminal, touch-dear, touch-view, true, true≢false, view_now, view_of, well_made_pipe, WellFormed, with_answer, with_bytes, with_image, with_named, with_opened}
use Rattle.kcall_core.proofs.Prelude.{writable_now, write_image, Writing}
use Rattle.file_table.specs.OpenFiles.{entry_at}
use Rattle.kcall_core.proofs.table.States.{running, slot-inside, Goes, goes-processes, goes-sound}
use Rattle.kcall_core.proofs.table.Stops.{live-place, now-slot}
use Rattle.kcall_core.proofs.memory.Changes.{some-inside}
use Rattle.kcall_core.proofs.turns.Turned.{live-is}
use Rattle.kcall_core.proofs.files.Taking.{Shares}
use Rattle.kcall_core.proofs.files.Putting.{put-sound, put-state, put-pid, put-now}
use Rattle.kcall_core.proofs.files.Opened.{lowest-place-free, new-here, new-other, new-table, opened-counted, opened-files, unnamed, free-seen}
use Rattle.kcall_core.proofs.turns.StepSlots.{KeepsAll}
use Rattle.kcall_core.proofs.making.CallAnswers.{IsDone}
use Rattle.kcall_core.proofs.making.Prepared.{over}
use Rattle.kcall_core.proofs.making.Midway.{WakeOn, Midway, midway-done}
use Rattle.kcall_core.proofs.making.Moved.{nobody, still}
use Rattle.file_table.specs.OpenFiles as files
use Rattle.kernel_spec.specs.others.Quiet as quiet
use Rattle.kernel_spec.specs.steps.Updates as update
use Rattle.kcall_core.specs.Memories as memories
use Rattle.kcall_core.proofs.files.Sharing as sharing
use Rattle.kernel_spec.proofs.well.WellLaws as well

-- ---- the tests

module _ (k : Kernel) (h : Hart) (c : Call) where
  -- where its buffer can't be written, or its absent pages and the pipe's frame aren't free, a pipe is refused
  pub pipe-unready : IsUnready c.a0 8 1 k h → make_pipe c (view_now k h) ≡ refused c (view_now k h)
  unfolding view_of
  pipe-unready unready =
      let ps = pages_at c.a0 8 in
      let image = (live_now k h).image in
      elim unready [
        | inl bad ↦ pipe_unwritable c (view_now k h) bad
        | inr dear ↦ elim (cases_lt (price image + (state_of k h).free) (price (brought ps image))) [
          | inl more ↦ pipe_none c (view_now k h) (touch-dear (view_now k h) ps more)
          | inr fits ↦
              let none : (state_of k h).free + price image - price (brought ps image) ≡ 0 = omega (arith, dear, fits) in
              pipe_full c (view_now k h) (record (view_now k h) { image = brought ps image; free = 0 }) (touch-view (view_now k h) ps 0 fits none) refl
        ]
      ]

  -- its buffer and a frame are there: what the row comes to then
  pub pipe-ready : {k' : Kernel} (r w : ℕ) → lowest_free (view_now k h).descriptors ≡ Some r
      → lowest_free_above (view_now k h).descriptors r ≡ Some w → IsReady c.a0 8 1 k h k' h → make_pipe c (view_now k h) ≡ make_pipe c (view_now k' h)
  unfolding view_of
  pipe-ready {k'} r w least above ready = pipe_ready c (view_now k h) (view_now k' h) r w ready.may least above ready.touched.view (elim (eqb_tells (state_of k' h).free 0) [
    | inl zero ↦ absurd (omega (arith, ready.free, zero.1))
    | inr some ↦ some.0
  ])

-- ---- nobody waits for a pipe that isn't there

pub new-wake : (m : FinMap nat_cmp Pipe) (i : ℕ) (console : Console) → get m i ≡ None → WakeOn nobody m (insert m i new_pipe) console console
new-wake m i console absent = record {
  bytes = λ j shut. elim (eqb_tells j i) [
    | inl e ↦ absurd (true≢false (sym (ap (λ o. has_bytes (or_gone o)) (ap (get m) e.1 ∙ absent)) ∙ shut))
    | inr e ↦ sym (ap (λ o. has_bytes (or_gone o)) (get_at m i new_pipe j ∙ ap (λ b. cond b (Some new_pipe) (get m j)) e.0) ∙ shut)
  ];
  room = λ j shut. elim (eqb_tells j i) [
    | inl e ↦ absurd (true≢false (sym (ap (λ o. has_room (or_gone o)) (ap (get m) e.1 ∙ absent)) ∙ shut))
    | inr e ↦ sym (ap (λ o. has_room (or_gone o)) (get_at m i new_pipe j ∙ ap (λ b. cond b (Some new_pipe) (get m j)) e.0) ∙ shut)
  ];
  keys = λ shut. sym shut;
  sending = λ shut. sym shut;
  children = λ q. refl;
  clock = refl;
}

-- nor is anybody on it
pub nobody-on : {k : Kernel} {h : Hart} {i : ℕ} → IsWhole k h → get (state_of k h).pipes i ≡ None → NobodyHas (state_of k h) i
nobody-on {k} {h} {i} whole absent q d on = by (quiet.file_at (state_of k h) q d) on
  where
    missing : IsSome (get (state_of k h).pipes i) → ⊥
    missing some = let e : false ≡ true = sym (ap is-there absent) ∙ some in cc
      where
        is-there : Option Pipe → Bool
        is-there None = false
        is-there (Some x) = true

    by-target : (n : ℕ) (x : OpenFile) → get (state_of k h).files n ≡ Some x → (t : Target) → x.target ≡ t → pipe_of_target t ≡ Some i → ⊥
    by-target n x at Terminal is e = none-some i e
    by-target n x at (File program offset) is e = none-some i e
    by-target n x at (Pipe_end j end) is e = missing (subst (λ z. IsSome (get (state_of k h).pipes z)) (same_Some j i e) (whole.well.ends n j x end at is))

    by-file : (n : ℕ) (o : Option OpenFile) → get (state_of k h).files n ≡ o → pipe_of_open o ≡ Some i → ⊥
    by-file n None at e = none-some i e
    by-file n (Some x) at e = by-target n x at x.target refl e

    by : (o : Option ℕ) → pipe_of_file (state_of k h) o ≡ Some i → ⊥
    by None e = none-some i e
    by (Some n) e = by-file n (get (state_of k h).files n) refl e

-- ---- the memories: a frame keeps a new pipe, and the numbers are stored

pub record Equips (old new : Memories) (slot i a : ℕ) (bytes : List ℕ) : Type 0 where
  pub sound : memories.AreSound new
  pub each : each_of new ≡ set (each_of old) slot (Some (with_image (write_image (held_at (each_of old) slot).image a bytes) (held_at (each_of old) slot)))
  pub pipes : pipes_of new ≡ insert (pipes_of old) i new_pipe
  pub some : 0 < free_of old
  pub free : free_of new ≡ free_of old - 1
  pub frames : length new.ram ≡ length old.ram
  pub runs : (hart : Hart) → RunsIn old slot hart → RunsIn new slot hart

pub equips : {old mid new : Memories} {slot i a : ℕ} {bytes : List ℕ} → get (pipes_of old) i ≡ None → PipeChanges old mid i (Some new_pipe)
    → SlotChanges mid new slot (Some (with_image (write_image (held_at (each_of mid) slot).image a bytes) (held_at (each_of mid) slot)))
    → free_of new ≡ free_of mid → ((hart : Hart) → RunsIn mid slot hart → RunsIn new slot hart)
    → Equips old new slot i a bytes
equips {old} {mid} {new} {slot} {i} {a} {bytes} absent made written free runs = record {
  sound = written.sound;
  each = subst (λ e. each_of new ≡ set e slot (Some (with_image (write_image (held_at e slot).image a bytes) (held_at e slot)))) made.each written.each;
  pipes = written.pipes ∙ made.pipes;
  some = omega (arith, made.free, ap pipe_cost absent);
  free = omega (arith, made.free, ap pipe_cost absent, free);
  frames = written.frames ∙ made.frames;
  runs = λ hart x. runs hart (made.runs slot hart x);
}

module _ {k : Kernel} {h : Hart} {slot i a : ℕ} {bytes : List ℕ} {m : Memories} (whole : IsWhole k h) (runs : IsRunning k)
    (is : k.current ≡ Some slot) (equipped : Equips k.memories m slot i a bytes) where
  abbrev s : State
  s = state_of k h

  abbrev p : ℕ
  p = pid_now k

  abbrev l : Live
  l = live_now k h

  abbrev told : Live
  told = with_bytes a bytes l

  slot-is : slot ≡ slot_now k
  slot-is = now-slot slot whole.sound is

  each-now : each_of m ≡ set (each_of k.memories) (slot_now k) (Some (with_image (write_image (held_at (each_of k.memories) (slot_now k)).image a bytes) (held_at (each_of k.memories) (slot_now k))))
  each-now = subst (λ n. each_of m ≡ set (each_of k.memories) n (Some (with_image (write_image (held_at (each_of k.memories) n).image a bytes) (held_at (each_of k.memories) n)))) slot-is equipped.each

  its-memory : IsSome (get_or (each_of k.memories) (slot_now k) None)
  its-memory = let r = running k h whole.sound runs in whole.sound.lives (slot_now k) r.is.process r.is.is r.is.live

  here : get_or (each_of m) (slot_now k) None ≡ Some (with_image (write_image (held_at (each_of k.memories) (slot_now k)).image a bytes) (held_at (each_of k.memories) (slot_now k)))
  here =
      ap (λ e. get_or e (slot_now k) None) each-now
      ∙ get_or-set_same (each_of k.memories) (slot_now k)
      (Some (with_image (write_image (held_at (each_of k.memories) (slot_now k)).image a bytes) (held_at (each_of k.memories) (slot_now k)))) None
      (some-inside (each_of k.memories) (slot_now k) its-memory)

  goes : Goes k (over k m)
  goes = record {
    table = refl;
    current = refl;
    each = λ j ne. ap (λ e. get_or e j None) each-now ∙ get_or-set_other (each_of k.memories) (slot_now k) j
        (Some (with_image (write_image (held_at (each_of k.memories) (slot_now k)).image a bytes) (held_at (each_of k.memories) (slot_now k)))) None ne;
  }

  pub equipped-sound : IsSound (over k m) h
  equipped-sound =
      goes-sound k (over k m) h h whole.sound runs goes equipped.sound (subst (λ o. IsSome o) (sym here) refl)
      (subst (λ n. RunsIn m n h) slot-is (equipped.runs h (subst (λ n. RunsIn k.memories n h) (sym slot-is) (running k h whole.sound runs).is.runs)))

  pub equipped-live : live_now (over k m) h ≡ told
  equipped-live = ap (λ o. live_of (place_now k) (descriptors_at k.table (slot_now k)) (or_nothing o) h.regs) here

  pub equipped-state : state_of (over k m) h ≡ changed_state p told s.files (insert s.pipes i new_pipe) s.console (s.free - 1) s
  unfolding state_of
  equipped-state =
      let processes = goes-processes k (over k m) h h whole.sound runs goes in
      (λ t. record (state_of (over k m) h) { processes = processes t; pipes = equipped.pipes t; free = equipped.free t })
      ∙ ap (λ o. changed_state p (live_of (place_now k) (descriptors_at k.table (slot_now k)) (or_nothing o) h.regs) s.files (insert s.pipes i new_pipe) s.console (s.free - 1) s) here

-- ---- the ends are opened

-- a free descriptor names a new open file
pub record Opens (k : Kernel) (slot d g : ℕ) (y : OpenFile) (k' : Kernel) : Type 0 where
  pub place : lowest_place k.files ≡ Some g
  pub table : k'.table ≡ record k.table { descriptors = set k.table.descriptors slot (with_named d (Some g) (descriptors_at k.table slot)) }
  pub files : k'.files ≡ with_opened g y k.files
  pub rest : k' ≡ record k { table = k'.table; files = k'.files }

module _ {k : Kernel} {h : Hart} {slot r w i a : ℕ} {bytes : List ℕ} {m : Memories} (whole : IsWhole k h) (runs : IsRunning k) (is : k.current ≡ Some slot)
    (r-below : r < NOFILE) (r-free : named_by (descriptors_at k.table slot) r ≡ None) (w-below : w < NOFILE) (w-free : named_by (descriptors_at k.table slot) w ≡ None) (apart : r ≢ w)
    (absent : get (state_of k h).pipes i ≡ None) (equipped : Equips k.memories m slot i a bytes)
    {f : ℕ} {k1 : Kernel} (first : Opens (over k m) slot r f (pipe_file i Reading) k1) where
  abbrev st : State
  st = state_of k h

  abbrev pid : ℕ
  pid = pid_now k

  abbrev lv : Live
  lv = live_now k h

  abbrev reader : OpenFile
  reader = pipe_file i Reading

  inside : slot < 64
  inside = let now = whole.sound.current slot is in slot-inside k h whole.sound slot now.process now.is

  lives : place_is_live (place_at k.table slot) ≡ true
  lives = let now = whole.sound.current slot is in live-place k slot now.process now.is now.live

  -- the read end

  empty1 : (entry_at k.files f ≡ None) × (f < length k.files)
  empty1 = lowest-place-free k.files f first.place

  sound0 : IsSound (over k m) h
  sound0 = equipped-sound whole runs is equipped

  current1 : k1.current ≡ k.current
  current1 = ap (λ (n : Kernel). n.current) first.rest

  shares1 : Shares m k1.memories
  shares1 = subst (λ (n : Kernel). Shares m n.memories) (sym first.rest) (record { sound = equipped.sound; each = refl; runs = λ b hart x. x })

  fits1 : r < length (descriptors_at k.table slot)
  fits1 = omega (arith, r-below, whole.counted.lists slot inside)

  pub read-end-sound : IsSound k1 h
  read-end-sound = put-sound (over k m) k1 h slot r f sound0 is current1 shares1 fits1 r-below first.table

  live1 : live_now k1 h ≡ update.with_named r f (with_bytes a bytes lv)
  live1 = put-now (over k m) k1 h slot r f sound0 is current1 shares1 fits1 r-below first.table ∙ ap (update.with_named r f) (equipped-live whole runs is equipped)

  pid1 : pid_now k1 ≡ pid
  pid1 = put-pid (over k m) k1 h slot r f sound0 is current1 shares1 fits1 r-below first.table

  place1 : (j : ℕ) → place_at k1.table j ≡ place_at k.table j
  place1 j = ap (λ (t : Slots). place_at t j) first.table

  state1 : state_of k1 h ≡ changed_state pid (update.with_named r f (live_now (over k m) h)) (state_of k1 h).files (pipes_of k1.memories)
      (state_of (over k m) h).console (free_of k1.memories) (state_of (over k m) h)
  state1 =
      put-state (over k m) k1 h slot r f sound0 is current1 shares1 fits1 r-below first.table
      (ap (λ (n : Kernel). n.console) first.rest) (ap (λ (n : Kernel). n.programs.items) first.rest) (ap (λ (n : Kernel). n.clock) first.rest)

  pub read-end-table : files.IsTable k1.files
  read-end-table = subst files.IsTable (sym first.files) (new-table k.files f reader empty1.0 empty1.1 whole.files)

  pub read-end-counted : AreCounted k1.files k1.table
  read-end-counted = subst (λ fs. AreCounted fs k1.table) (sym first.files)
      (opened-counted k.files k.table k1.table slot r f reader whole.counted empty1.0 empty1.1 inside r-below whole.sound.table.descriptors r-free (ap (λ (t : Slots). t.descriptors) first.table)
      (λ j. ap place_is_live (place1 j)) lives)

  -- the write end is still free then
  pub write-end-free : named_by (descriptors_at k1.table slot) w ≡ None
  write-end-free =
      ap (λ ds. named_by ds w) (sharing.put-here k.table k1.table slot r f inside r-below whole.sound.table.descriptors
      (whole.counted.lists slot inside) r-free (ap (λ (t : Slots). t.descriptors) first.table))
      ∙ get_or-set_other (descriptors_at k.table slot) r w (Some f) None (λ e. apart (sym e)) ∙ w-free

  -- ---- the write end

  module _ {g : ℕ} {k2 : Kernel} (second : Opens k1 slot w g (pipe_file i Writing) k2) where
    abbrev writer : OpenFile
    writer = pipe_file i Writing

    -- what the process is before its answer
    abbrev maker : Live
    maker = update.with_named w g (update.with_named r f (with_bytes a bytes lv))

    abbrev two-more : FinMap nat_cmp OpenFile
    two-more = insert (insert st.files f reader) g writer

    is1 : k1.current ≡ Some slot
    is1 = current1 ∙ is

    empty2 : (entry_at k1.files g ≡ None) × (g < length k1.files)
    empty2 = lowest-place-free k1.files g second.place

    current2 : k2.current ≡ k1.current
    current2 = ap (λ (n : Kernel). n.current) second.rest

    shares2 : Shares k1.memories k2.memories
    shares2 = subst (λ (n : Kernel). Shares k1.memories n.memories) (sym second.rest) (record { sound = shares1.sound; each = refl; runs = λ b hart x. x })

    fits2 : w < length (descriptors_at k1.table slot)
    fits2 = omega (arith, w-below, read-end-counted.lists slot inside)

    pub ends-sound : IsSound k2 h
    ends-sound = put-sound k1 k2 h slot w g read-end-sound is1 current2 shares2 fits2 w-below second.table

    state2 : state_of k2 h ≡ changed_state (pid_now k1) (update.with_named w g (live_now k1 h)) (state_of k2 h).files (pipes_of k2.memories)
        (state_of k1 h).console (free_of k2.memories) (state_of k1 h)
    state2 =
        put-state k1 k2 h slot w g read-end-sound is1 current2 shares2 fits2 w-below second.table
        (ap (λ (n : Kernel). n.console) second.rest) (ap (λ (n : Kernel). n.programs.items) second.rest) (ap (λ (n : Kernel). n.clock) second.rest)

    counted2 : AreCounted k2.files k2.table
    counted2 = subst (λ fs. AreCounted fs k2.table) (sym second.files)
        (opened-counted k1.files k1.table k2.table slot w g writer read-end-counted empty2.0 empty2.1 inside w-below read-end-sound.table.descriptors
        write-end-free (ap (λ (t : Slots). t.descriptors) second.table)
        (λ j. ap (λ (t : Slots). place_is_live (place_at t j)) second.table) (ap place_is_live (place1 slot) ∙ lives))

    table2 : files.IsTable k2.files
    table2 = subst files.IsTable (sym second.files) (new-table k1.files g writer empty2.0 empty2.1 read-end-table)

    -- ---- the state

    memories2 : k2.memories ≡ m
    memories2 = ap (λ (n : Kernel). n.memories) second.rest ∙ ap (λ (n : Kernel). n.memories) first.rest

    files-now : (state_of k2 h).files ≡ two-more
    unfolding state_of
    files-now =
        ap (λ xs. gathered (open_file_at xs) OPEN_FILES) second.files ∙ opened-files k1.files g writer empty2.0 empty2.1 read-end-table.places
        ∙ ap (λ fs. insert fs g writer) (ap (λ xs. gathered (open_file_at xs) OPEN_FILES) first.files ∙ opened-files k.files f reader empty1.0 empty1.1 whole.files.places)

    pipes-now : pipes_of k2.memories ≡ insert st.pipes i new_pipe
    unfolding state_of
    pipes-now = ap pipes_of memories2 ∙ equipped.pipes

    free-now : free_of k2.memories ≡ st.free - 1
    unfolding state_of
    free-now = ap free_of memories2 ∙ equipped.free

    console-now : (state_of k1 h).console ≡ st.console
    unfolding state_of
    console-now = ap (λ (n : Kernel). n.console) first.rest

    ends-state : state_of k2 h ≡ changed_state pid maker two-more (insert st.pipes i new_pipe) st.console (st.free - 1) st
    ends-state =
        state2
        ∙ (λ t. changed_state (pid1 t) (update.with_named w g (live1 t)) (files-now t) (pipes-now t) (console-now t) (free-now t) (state1 t))
        ∙ ap (λ u. changed_state pid maker two-more (insert st.pipes i new_pipe) st.console (st.free - 1)
        (changed_state pid (update.with_named r f (live_now (over k m) h)) (state_of k1 h).files (pipes_of k1.memories)
        (state_of (over k m) h).console (free_of k1.memories) u)) (equipped-state whole runs is equipped)
        ∙ (λ t. record (changed_state pid maker two-more (insert st.pipes i new_pipe) st.console (st.free - 1) st) {
          processes = (insert-twice (insert st.processes pid (Alive (with_bytes a bytes lv))) pid
              (Alive (update.with_named r f (live_now (over k m) h))) (Alive maker)
              ∙ insert-twice st.processes pid (Alive (with_bytes a bytes lv)) (Alive maker)) t;
        })

    -- ---- it is well-formed

    was : IsLive st pid lv
    was = live-is k h whole.sound runs

    apart-files : f ≢ g
    apart-files e =
        none-some (record { file = reader; count = 1 })
        (sym empty2.0 ∙ ap (λ fs. entry_at fs g) first.files ∙ ap (entry_at (with_opened f reader k.files)) (sym e) ∙ new-here k.files f reader empty1.0 empty1.1)

    empty-before : entry_at k.files g ≡ None
    empty-before = sym (new-other k.files f reader empty1.0 empty1.1 g (λ e. apart-files (sym e))) ∙ sym (ap (λ fs. entry_at fs g) first.files) ∙ empty2.0

    nobody-f : NobodyNames st f
    nobody-f = unnamed whole empty1.0

    nobody-g : NobodyNames st g
    nobody-g = unnamed whole empty-before

    some-free : 0 < st.free
    unfolding state_of
    some-free = equipped.some

    ends-well : WellFormed (frame_count k) (changed_state pid maker two-more (insert st.pipes i new_pipe) st.console (st.free - 1) st)
    ends-well = well_made_pipe (frame_count k) st pid lv maker r w f g i whole.well was r-below w-below apart apart-files (free-seen whole is r-below r-free) (free-seen whole is w-below w-free)
        nobody-f nobody-g (nobody-on whole absent) absent some-free (refl, well.writes_take_nothing lv.image a bytes, refl)

    others-stay : (q d n : ℕ) → quiet.file_at st q d ≡ Some n → get two-more n ≡ get st.files n
    others-stay q d n at = get_other (insert st.files f reader) g writer n (λ e. nobody-g q d (at ∙ ap Some e)) ∙ get_other st.files f reader n (λ e. nobody-f q d (at ∙ ap Some e))

    pub ends-midway : Midway k h k2 h nobody maker two-more (insert st.pipes i new_pipe) st.console (st.free - 1)
    ends-midway = record {
      sound = ends-sound;
      table = table2;
      counted = counted2;
      frames = ap (λ (n : Memories). length n.ram) memories2 ∙ equipped.frames;
      current = current2 ∙ current1;
      last = ap (λ (t : Slots). t.last) second.table ∙ ap (λ (t : Slots). t.last) first.table;
      places = λ j. ap (λ (t : Slots). place_at t j) second.table ∙ place1 j ∙ (still whole runs).places j;
      state = ends-state;
      well = subst (WellFormed (frame_count k)) (sym ends-state) ends-well;
      parent = refl;
      wake = new-wake st.pipes i st.console absent;
      targets = inl (λ q d n other at. ap (λ o. at_start (target_of_open o)) (others-stay q d n at));
    }

    -- ---- the call is done

    module _ (c : Call) (address : c.a0 ≡ a) (numbers : bytes ≡ le_bytes 4 r ++ le_bytes 4 w) (room : writable_now (view_now k h).image c.a0 8 ≡ true) (frame : nat_eq (view_now k h).free 0 ≡ false)
        (lowest : lowest_free (view_now k h).descriptors ≡ Some r) (above : lowest_free_above (view_now k h).descriptors r ≡ Some w) where
      row : make_pipe c (view_now k h) ≡ piped c (view_now k h) r (Some w)
      row = pipe_case c (view_now k h) r room frame lowest ∙ ap (piped c (view_now k h) r) above

      pub pipe-answer : (make_pipe c (view_now k h)).answer ≡ Called c.number (pos 0)
      pipe-answer = ap (λ (o : Own). o.answer) row

      pipe-keeps : KeepsAll st (make_pipe c (view_now k h))
      unfolding view_of
      pipe-keeps = subst (KeepsAll st) (sym row) (record { child = refl; stays = refl; pids = refl })

      law : After st pid lv (make_pipe c (view_now k h)) (changed_state pid (with_answer (pos 0) maker) two-more (insert st.pipes i new_pipe) st.console (st.free - 1) st)
      law =
          let at-once = pipe_law st pid lv c r w f g i was r-below w-below apart apart-files (free-seen whole is r-below r-free)
          (free-seen whole is w-below w-free) nobody-f nobody-g (nobody-on whole absent) in
          subst (λ o. After st pid lv o (changed_state pid (with_answer (pos 0) maker) two-more (insert st.pipes i new_pipe) st.console (st.free - 1) st)) (sym row)
          (subst (λ (z : ℕ × List ℕ). After st pid lv (piped c (view_now k h) r (Some w))
          (changed_state pid (with_answer (pos 0) (update.with_named w g (update.with_named r f (with_bytes z.0 z.1 lv)))) two-more
          (insert st.pipes i new_pipe) st.console (st.free - 1) st))
          (λ t. (address t, sym numbers t)) at-once)

      pub pipe-makes : (k' : Kernel) (h' : Hart) → IsDone k2 h (pos 0) k' h' → Makes k h (make_pipe c (view_now k h)) k' h'
      pipe-makes k' h' finished = midway-done whole runs ends-midway k' h' (pos 0) (make_pipe c (view_now k h)) c.number finished pipe-answer pipe-keeps law

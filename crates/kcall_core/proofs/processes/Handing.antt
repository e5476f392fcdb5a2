-- The child gets the descriptors of the process that runs, one after another.
use Rattle.kcall_core.proofs.Prelude.{ℕ, ℤ, ◌+◌, ◌<◌, ◌^◌, ◌∙◌, ◌≡◌, ◌≢◌, ◌≤◌, among, ap, AreCounted, arith, Bears, both_ways, cases_eq, cases_lt, cond, count_on, CountedFile, descriptors_at, each_of}
use Rattle.kcall_core.proofs.Prelude.{End, END_COUNT_MAX, end_of, File, free_of, fresh, get, get-more_on_all, get_or, get_or-set_other, get_or-set_same, Hart, HasMemory, HasRoom, held_at, held_cost}
use Rattle.kcall_core.proofs.Prelude.{inl, inr, IsClosing, IsRunning, IsShared, IsSome, IsSound, IsTable, IsWhole, Joins, Kernel, le-ltb, length, length-map, length-set, Live, live_now, lt-ltb}
use Rattle.kcall_core.proofs.Prelude.{MayShare, Memories, more_at, more_on, more_on_all, named_by, named_in, nat_lt, newborn, NOFILE, None, none-some, none_named, NPROC, open_file_at, OPEN_FILES}
use Rattle.kcall_core.proofs.Prelude.{OpenFile, Option, option_map, or_new, or_zero, PID_MAX, pid_now, Pipe, pipe_cost, Pipe_end, pipe_named, pipes_of, place_at, place_is_live, plus, Process, Reading}
use Rattle.kcall_core.proofs.Prelude.{refl, slot_now, Slots, Some, State, state_of, status_of, subst, suc, sum_same, sym, table_new, Target, target_of_open, Terminal, true, with_named, with_new}
use Rattle.kcall_core.proofs.Prelude.{with_saved, Writing}
use Rattle.file_table.specs.OpenFiles.{entry_at}
use Rattle.kcall_core.proofs.processes.HandedDown.{IsHanded}
use Rattle.kcall_core.proofs.memory.Births.{get_or-same}
use Rattle.kcall_core.proofs.files.Namings.{named-seen, file-seen, file-inside, named-counts, counted-entry}
use Rattle.kcall_core.proofs.memory.PipeEdges.{there-is}
use Rattle.kcall_core.proofs.files.OpenRoom.{has-room}
use Rattle.kcall_core.proofs.files.Room.{file-room, ends-few, count-few}
use Rattle.kcall_core.proofs.files.Sharing.{more-file, more-table, shared-counted}
use Rattle.kcall_core.proofs.table.States.{Running, running}
use Rattle.kcall_core.proofs.files.Taking.{Shares}
use Rattle.kcall_core.proofs.processes.FreeSlot.{IsForNew}
use Rattle.file_table.specs.OpenFiles as files
use Rattle.kcall_core.specs.Memories as memories

-- between calls each open file may have one descriptor more
pub closing-may : (k : Kernel) (h : Hart) (file : ℕ) → IsClosing k h → IsSome (entry_at k.files file) → MayShare k file
unfolding state_of
closing-may k h file closing there-open = record {
  sound = closing.sound.memories;
  opened = there-open;
  room = room.sharers file;
  there = λ x i end is on. closing.well.ends file i x end (file-seen k h file (file-inside k.files file x closing.files is) ∙ is) on;
  ends = λ x i end is on.
      let there = closing.well.ends file i x end (file-seen k h file (file-inside k.files file x closing.files is) ∙ is) on in
      room.ends i _ end (there-is (get (pipes_of k.memories) i) there);
}
  where
    room : HasRoom k h
    room = has-room k h _ closing.well closing.files closing.counted

-- ---- one descriptor more, as the memories see it

record Joined (old new : Memories) (target : Target) : Type 0 where
  shares : Shares old new
  pipes : pipes_of new ≡ more_on (Some target) (pipes_of old)
  free : free_of new ≡ free_of old
  frames : length new.ram ≡ length old.ram

joined-at : (old new : Memories) (target : Target) → memories.AreSound old
    → ((i : ℕ) (end : End) → target ≡ Pipe_end i end → IsSome (get (pipes_of old) i)) → Joins target old new → Joined old new target
joined-at old new Terminal sound there same = subst (λ n. Joined old n Terminal) (sym same)
    (record { shares = record { sound = sound; each = refl; runs = λ a hart r. r }; pipes = refl; free = refl; frames = refl })
joined-at old new (File program offset) sound there same =
    subst (λ n. Joined old n (File program offset)) (sym same)
    (record { shares = record { sound = sound; each = refl; runs = λ a hart r. r }; pipes = refl; free = refl; frames = refl })
joined-at old new (Pipe_end i end) sound there changes =
    let at = there-is (get (pipes_of old) i) (there i end refl) in
    record {
      shares = record { sound = changes.sound; each = changes.each; runs = changes.runs };
      pipes = changes.pipes ∙ sym (ap (more_at i end (pipes_of old)) at);
      free = omega (arith, changes.free, ap pipe_cost at);
      frames = changes.frames;
    }

lt-more : (d n : ℕ) → d ≢ n → nat_lt d n ≡ nat_lt d (suc n)
lt-more d n ne = elim (cases_lt d n) [
  | inl less ↦ lt-ltb d n less ∙ sym (lt-ltb d (suc n) (omega (arith, less)))
  | inr more ↦ le-ltb d n more ∙ sym (le-ltb d (suc n) (omega (arith, more, ne)))
]

module _ {k : Kernel} {h : Hart} (whole : IsWhole k h) (runs : IsRunning k) (child : ℕ) (new : IsForNew k h whole.sound child) where
  abbrev s : State
  s = state_of k h

  abbrev l : Live
  l = live_now k h

  abbrev slot : ℕ
  slot = slot_now k

  abbrev first : Process
  first = newborn k.table.next (Some (pid_now k))

  now : Running k h
  now = running k h whole.sound runs

  pub apart : slot ≢ child
  apart e = none-some now.is.process (sym new.vacant ∙ sym (ap (place_at k.table) e) ∙ now.is.is)

  -- ---- the child is there

  module _ (pid : ℕ) (k1 : Kernel) (b : Bears k child pid k1) where
    here : place_at k1.table child ≡ Some first
    here = ap (λ (t : Slots). place_at t child) b.table ∙ get_or-set_same k.table.places child (Some first) None (omega (arith, new.below, whole.sound.table.places))

    other : (j : ℕ) → j ≢ child → place_at k1.table j ≡ place_at k.table j
    other j ne = ap (λ (t : Slots). place_at t j) b.table ∙ get_or-set_other k.table.places child j (Some first) None ne

    none-here : descriptors_at k1.table child ≡ none_named
    none-here = ap (λ (t : Slots). descriptors_at t child) b.table ∙ get_or-set_same k.table.descriptors child none_named none_named (omega (arith, new.below, whole.sound.table.descriptors))

    had-none : descriptors_at k.table child ≡ none_named
    had-none = whole.counted.closed child (ap place_is_live new.vacant)

    all-same : (j : ℕ) → descriptors_at k1.table j ≡ descriptors_at k.table j
    all-same j = elim (cases_eq j child) [
      | inl e ↦ ap (descriptors_at k1.table) e ∙ none-here ∙ sym (ap (descriptors_at k.table) e ∙ had-none)
      | inr ne ↦ ap (λ (t : Slots). descriptors_at t j) b.table ∙ get_or-set_other k.table.descriptors child j none_named none_named ne
    ]

    inside-each : child < length (each_of k.memories)
    unfolding each_of
    inside-each = omega (arith, new.below, whole.sound.memories.slots, length-map k.memories.each.items (memories.held_in k.memories.ram))

    memory-here : IsSome (get_or (each_of k1.memories) child None)
    memory-here = subst (λ o. IsSome o) (sym (ap (λ xs. get_or xs child None) b.memories.each
        ∙ get_or-set_same (each_of k.memories) child (Some (with_saved (fresh 0) (held_at (each_of k.memories) slot))) None inside-each)) refl

    memory-other : (j : ℕ) → j ≢ child → get_or (each_of k1.memories) j None ≡ get_or (each_of k.memories) j None
    memory-other j ne = ap (λ xs. get_or xs j None) b.memories.each ∙ get_or-set_other (each_of k.memories) child j (Some (with_saved (fresh 0) (held_at (each_of k.memories) slot))) None ne

    not-zombie : (p : Process) (status : ℤ) → Some first ≡ Some p → status_of p ≡ Some status → ⊥
    not-zombie p status same over = let e : first ≡ p = cc in none-some status (ap status_of e ∙ over)

    current : k1.current ≡ k.current
    current = ap (λ (y : Kernel). y.current) b.rest

    kept : k1.files ≡ k.files
    kept = ap (λ (y : Kernel). y.files) b.rest

    pids-left : k.table.next < 2 ^ 31
    unfolding state_of
    pids-left = elim (cases_lt PID_MAX k.table.next) [ inl less ↦ absurd (both_ways _ new.pids (lt-ltb PID_MAX k.table.next less)) | inr more ↦ omega (arith, more) ]

    born-sound : IsSound k1 h
    born-sound = record {
      memories = b.memories.sound;
      table = subst IsTable (sym b.table) (table_new k.table child first none_named whole.sound.table refl pids-left);
      lives = λ j p at live. elim (cases_eq j child) [
        | inl e ↦ subst (HasMemory (each_of k1.memories)) (sym e) memory-here
        | inr ne ↦ subst (λ o. IsSome o) (sym (memory-other j ne)) (whole.sound.lives j p (sym (other j ne) ∙ at) live)
      ];
      ended = λ j p status at over. elim (cases_eq j child) [
        | inl e ↦ absurd (not-zombie p status (sym (ap (place_at k1.table) e ∙ here) ∙ at) over)
        | inr ne ↦ memory-other j ne ∙ whole.sound.ended j p status (sym (other j ne) ∙ at) over
      ];
      vacant = λ j at. elim (cases_eq j child) [
        | inl e ↦ absurd (none-some first (sym at ∙ ap (place_at k1.table) e ∙ here))
        | inr ne ↦ memory-other j ne ∙ whole.sound.vacant j (sym (other j ne) ∙ at)
      ];
      current = λ j at.
          let c = whole.sound.current j (sym current ∙ at) in
          let ne : j ≢ child = λ e. none-some c.process (sym new.vacant ∙ sym (ap (place_at k.table) e) ∙ c.is) in
          record { process = c.process; is = other j ne ∙ c.is; live = c.live; runs = b.memories.runs j h ne c.runs };
      idle = λ at. absurd (none-some slot (sym at ∙ current ∙ now.current));
    }

    pub handed-none : IsHanded k h child 0 k1
    unfolding more_on_all state_of
    handed-none = record {
      sound = born-sound;
      rest = b.rest ∙ (λ t. record k { table = k1.table; files = sym kept t; memories = k1.memories });
      table = b.table ∙ (λ t. record (with_new child (Some (pid_now k)) k.table) { descriptors = sym (ap (λ (u : Slots). u.descriptors) b.table) t });
      files = subst files.IsTable (sym kept) whole.files;
      counted = record {
        counts = λ f. ap (λ fs. or_zero (files.count_at fs f)) kept ∙ whole.counted.counts f
            ∙ sym (sum_same NPROC (λ j. named_in (descriptors_at k1.table j) f) (λ j. named_in (descriptors_at k.table j) f)
            (λ j lt. ap (λ ds. named_in ds f) (all-same j)));
        lists = λ j lt. ap length (all-same j) ∙ whole.counted.lists j lt;
        closed = λ j dead. elim (cases_eq j child) [
          | inl e ↦ ap (descriptors_at k1.table) e ∙ none-here
          | inr ne ↦ all-same j ∙ whole.counted.closed j (ap place_is_live (sym (other j ne)) ∙ dead)
        ];
      };
      same = λ f. ap (λ fs. open_file_at fs f) kept;
      others = λ j ne. all-same j;
      given = λ d. ap (λ ds. named_by ds d) none-here ∙ get_or-same None NOFILE d ∙ sym (ap (λ b. cond b (named_by (descriptors_at k.table slot) d) None) (le-ltb d 0 (omega arith)));
      each = b.memories.each;
      pipes = b.memories.pipes;
      free = omega (arith, b.memories.free, ap held_cost (whole.sound.vacant child new.vacant));
      frames = b.memories.frames;
    }

  -- ---- one descriptor more

  module _ (n : ℕ) (k1 : Kernel) (x : IsHanded k h child n k1) (below : n < NOFILE) where
    theirs : named_by (descriptors_at k1.table slot) n ≡ named_by (descriptors_at k.table slot) n
    theirs = ap (λ ds. named_by ds n) (x.others slot apart)

    -- the child's is free
    pub child-free : named_by (descriptors_at k1.table child) n ≡ None
    child-free = x.given n ∙ ap (λ b. cond b (named_by (descriptors_at k.table slot) n) None) (le-ltb n n (omega arith))

    pub next-none : named_by (descriptors_at k1.table slot) n ≡ None → IsHanded k h child (suc n) k1
    unfolding more_on_all
    next-none none =
        let unused : get l.descriptors n ≡ None = named-seen (descriptors_at k.table slot) n
        ∙ ap (λ b. cond b (named_by (descriptors_at k.table slot) n) None) (lt-ltb n NOFILE below) ∙ sym theirs ∙ none in
        record {
          sound = x.sound;
          rest = x.rest;
          table = x.table;
          files = x.files;
          counted = x.counted;
          same = x.same;
          others = x.others;
          given = λ d. elim (cases_eq d n) [
            | inl e ↦ ap (named_by (descriptors_at k1.table child)) e ∙ child-free ∙ sym (sym theirs ∙ none)
                ∙ sym (ap (λ b. cond b (named_by (descriptors_at k.table slot) n) None) (lt-ltb n (suc n) (omega arith)))
                ∙ ap (λ m. cond (nat_lt m (suc n)) (named_by (descriptors_at k.table slot) m) None) (sym e)
            | inr ne ↦ x.given d ∙ ap (λ b. cond b (named_by (descriptors_at k.table slot) d) None) (lt-more d n ne)
          ];
          each = x.each;
          pipes = x.pipes ∙ ap (λ o. more_on (end_of s o) (more_on_all s l n)) (sym unused);
          free = x.free;
          frames = x.frames;
        }

    module _ (g : ℕ) (used : named_by (descriptors_at k1.table slot) n ≡ Some g) where
      its-entry : (e : CountedFile) × (entry_at k1.files g ≡ Some e)
      its-entry = counted-entry k1.files g (omega (arith, x.counted.counts g, named-counts k1.table slot n g now.inside below used))

      opened : (y : OpenFile) → open_file_at k1.files g ≡ Some y → get s.files g ≡ Some y
      opened y is = let at = sym (x.same g) ∙ is in file-seen k h g (file-inside k.files g y whole.files at) ∙ at

      pipe-was : (y : OpenFile) (i : ℕ) (end : End) → open_file_at k1.files g ≡ Some y → y.target ≡ Pipe_end i end → IsSome (get s.pipes i)
      pipe-was y i end is on = whole.well.ends g i y end (opened y is) on

      pipe-now : (i : ℕ) → get (pipes_of k1.memories) i ≡ option_map (λ z. plus z (among s l n i Reading) (among s l n i Writing)) (get s.pipes i)
      pipe-now i = ap (λ m. get m i) x.pipes ∙ get-more_on_all s l n i

      still : (i : ℕ) → IsSome (get s.pipes i) → IsSome (get (pipes_of k1.memories) i)
      still i some = subst (λ o. IsSome o) (sym (pipe-now i ∙ ap (option_map (λ (z : Pipe). plus z (among s l n i Reading) (among s l n i Writing))) (there-is (get s.pipes i) some))) refl

      few : (i : ℕ) (end : End) → IsSome (get s.pipes i) → count_on end (pipe_named (pipes_of k1.memories) i) < END_COUNT_MAX
      few i end some =
          let at = there-is (get s.pipes i) some in
          let z = or_new (get s.pipes i) in
          let is : pipe_named (pipes_of k1.memories) i ≡ plus z (among s l n i Reading) (among s l n i Writing) =
          ap or_new (pipe-now i ∙ ap (option_map (λ (w : Pipe). plus w (among s l n i Reading) (among s l n i Writing))) at) in
          by end z is (ends-few k h _ i z end whole.well at)
        where
          by : (e : End) (z : Pipe) → pipe_named (pipes_of k1.memories) i ≡ plus z (among s l n i Reading) (among s l n i Writing)
              → count_on e z ≤ OPEN_FILES → count_on e (pipe_named (pipes_of k1.memories) i) < END_COUNT_MAX
          by Reading z is most = let a : among s l n i Reading ≤ n = count-few _ n in omega (arith, ap (count_on Reading) is, most, a, below)
          by Writing z is most = let a : among s l n i Writing ≤ n = count-few _ n in omega (arith, ap (count_on Writing) is, most, a, below)

      pub next-may : MayShare k1 g
      next-may = record {
        sound = x.sound.memories;
        opened = subst (λ o. IsSome o) (sym its-entry.1) refl;
        room = file-room k1.files k1.table g x.counted;
        there = λ y i end is on. still i (pipe-was y i end is on);
        ends = λ y i end is on. few i end (pipe-was y i end is on);
      }

      module _ (k2 : Kernel) (z : IsShared k1 child n g k2) where
        abbrev y : OpenFile
        y = files.entry_file its-entry.0

        is-open : open_file_at k1.files g ≡ Some y
        is-open = ap (option_map files.entry_file) its-entry.1

        joins : Joined k1.memories k2.memories y.target
        joins = joined-at k1.memories k2.memories y.target x.sound.memories (λ i end on. still i (pipe-was y i end is-open on)) (z.memories y is-open)

        put-place : (j : ℕ) → place_at k2.table j ≡ place_at k1.table j
        put-place j = ap (λ (t : Slots). place_at t j) z.table

        same-memory : (j : ℕ) → get_or (each_of k2.memories) j None ≡ get_or (each_of k1.memories) j None
        same-memory j = ap (λ xs. get_or xs j None) joins.shares.each

        current2 : k2.current ≡ k1.current
        current2 = ap (λ (w : Kernel). w.current) z.rest

        next-sound : IsSound k2 h
        next-sound = record {
          memories = joins.shares.sound;
          table = subst IsTable (sym z.table) (record {
            places = x.sound.table.places;
            descriptors = length-set k1.table.descriptors child (with_named n (Some g) (descriptors_at k1.table child)) ∙ x.sound.table.descriptors;
            last = x.sound.table.last;
            first = x.sound.table.first;
            next = x.sound.table.next;
            pids = x.sound.table.pids;
          });
          lives = λ j p at live. subst (λ o. IsSome o) (sym (same-memory j)) (x.sound.lives j p (sym (put-place j) ∙ at) live);
          ended = λ j p status at over. same-memory j ∙ x.sound.ended j p status (sym (put-place j) ∙ at) over;
          vacant = λ j at. same-memory j ∙ x.sound.vacant j (sym (put-place j) ∙ at);
          current = λ j at.
              let c = x.sound.current j (sym current2 ∙ at) in
              record { process = c.process; is = put-place j ∙ c.is; live = c.live; runs = joins.shares.runs j h c.runs };
          idle = λ at. absurd (none-some slot (sym at ∙ current2 ∙ ap (λ (w : Kernel). w.current) x.rest ∙ now.current));
        }

        lives-there : place_is_live (place_at k1.table child) ≡ true
        lives-there = ap place_is_live (ap (λ (t : Slots). place_at t child) x.table ∙ get_or-set_same k.table.places child (Some first) None (omega (arith, new.below, whole.sound.table.places)))

        long : n < length (descriptors_at k1.table child)
        long = omega (arith, below, x.counted.lists child new.below)

        put-here : descriptors_at k2.table child ≡ with_named n (Some g) (descriptors_at k1.table child)
        put-here = ap (λ (t : Slots). descriptors_at t child) z.table
            ∙ get_or-set_same k1.table.descriptors child (with_named n (Some g) (descriptors_at k1.table child)) none_named
            (omega (arith, new.below, x.sound.table.descriptors))

        named-now : get l.descriptors n ≡ Some g
        named-now = named-seen (descriptors_at k.table slot) n ∙ ap (λ b. cond b (named_by (descriptors_at k.table slot) n) None) (lt-ltb n NOFILE below) ∙ sym theirs ∙ used

        end-now : end_of s (get l.descriptors n) ≡ Some y.target
        end-now = ap (end_of s) named-now ∙ ap target_of_open (opened y is-open)

        pub next-some : IsHanded k h child (suc n) k2
        unfolding more_on_all
        next-some = record {
          sound = next-sound;
          rest = z.rest ∙ ap (λ (w : Kernel). record w { table = k2.table; files = k2.files; memories = k2.memories }) x.rest;
          table =
              z.table ∙ (λ t. record k1.table { descriptors = sym (ap (λ (u : Slots). u.descriptors) z.table) t })
              ∙ ap (λ (u : Slots). record u { descriptors = k2.table.descriptors }) x.table;
          files = subst files.IsTable (sym z.files) (more-table k1.files g x.files its-entry.0 its-entry.1
              (file-room k1.files k1.table g x.counted its-entry.0.count (ap (option_map files.entry_count) its-entry.1)));
          counted = subst (λ fs. AreCounted fs k2.table) (sym z.files)
              (shared-counted k1.files k1.table k2.table child n g its-entry.0 x.counted x.files its-entry.1 new.below below
              x.sound.table.descriptors child-free (ap (λ (u : Slots). u.descriptors) z.table) (λ j. ap place_is_live (put-place j)) lives-there);
          same = λ f. ap (λ fs. open_file_at fs f) z.files ∙ more-file k1.files g x.files its-entry.0 its-entry.1 f ∙ x.same f;
          others = λ j ne. ap (λ (t : Slots). descriptors_at t j) z.table
              ∙ get_or-set_other k1.table.descriptors child j (with_named n (Some g) (descriptors_at k1.table child)) none_named ne ∙ x.others j ne;
          given = λ d. elim (cases_eq d n) [
            | inl e ↦
                ap (named_by (descriptors_at k2.table child)) e ∙ ap (λ ds. named_by ds n) put-here ∙ get_or-set_same (descriptors_at k1.table child) n (Some g) None long
                ∙ sym (sym theirs ∙ used) ∙ sym (ap (λ b. cond b (named_by (descriptors_at k.table slot) n) None) (lt-ltb n (suc n) (omega arith)))
                ∙ ap (λ m. cond (nat_lt m (suc n)) (named_by (descriptors_at k.table slot) m) None) (sym e)
            | inr ne ↦
                ap (λ ds. named_by ds d) put-here ∙ get_or-set_other (descriptors_at k1.table child) n d (Some g) None ne
                ∙ x.given d ∙ ap (λ b. cond b (named_by (descriptors_at k.table slot) d) None) (lt-more d n ne)
          ];
          each = joins.shares.each ∙ x.each;
          pipes = joins.pipes ∙ ap (more_on (Some y.target)) x.pipes ∙ ap (λ o. more_on o (more_on_all s l n)) (sym end-now);
          free = omega (arith, joins.free, x.free);
          frames = joins.frames ∙ x.frames;
        }

  -- one descriptor on, whether it is in use or not
  pub handed-on : (n fd from : ℕ) (k1 k2 : Kernel) → IsHanded k h child n k1 → n < NOFILE → fd ≡ n → from ≡ slot → (named_by (descriptors_at k1.table from) fd ≡ None → k2 ≡ k1)
      → ((file : ℕ) → named_by (descriptors_at k1.table from) fd ≡ Some file → IsShared k1 child fd file k2) → IsHanded k h child (n + 1) k2
  handed-on n fd from k1 k2 x below same is kept shared = let more : suc n ≡ n + 1 = omega arith in subst (λ m. IsHanded k h child m k2) more (by (named_by (descriptors_at k1.table slot) n) refl)
    where
      there : named_by (descriptors_at k1.table from) fd ≡ named_by (descriptors_at k1.table slot) n
      there = λ t. named_by (descriptors_at k1.table (is t)) (same t)

      by : (o : Option ℕ) → named_by (descriptors_at k1.table slot) n ≡ o → IsHanded k h child (suc n) k2
      by None at = subst (IsHanded k h child (suc n)) (sym (kept (there ∙ at))) (next-none n k1 x below at)
      by (Some g) at = next-some n k1 x below g at k2 (subst (λ d. IsShared k1 child d g k2) same (shared g (there ∙ at)))

-- One descriptor of the process that runs is closed.
use Rattle.kcall_core.proofs.Prelude.{ℕ, ◌&&◌, ◌+◌, ◌<◌, ◌∙◌, ◌≡◌, ◌≤◌, ap, AreCounted, arith, Bool, changed_state, Closes, closes_wake, cond, count_below, count_on, count_some, CountedFile}
use Rattle.kcall_core.proofs.Prelude.{descriptor_at, descriptor_on, descriptors_at, each_changed, End, end_of, eq-eqb, false, fewer_at, fewer_on, File, FilesLeft, FinMap, free_of, freed_at, freed_on}
use Rattle.kcall_core.proofs.Prelude.{get, Hart, hits, hits_at, is_end, is_given_up, is_some, IsClosing, IsLive, IsOpen, IsSome, IsSound, Kernel, least_on_pipe, least_there, length, live_now, lt-ltb}
use Rattle.kcall_core.proofs.Prelude.{named_by, nat_cmp, nat_eq, NOFILE, None, none-some, numbered, on, on_end, OnPipe, open_file_at, OpenFile, Option, option_map, or_gone, or_zero, over_all, parted}
use Rattle.kcall_core.proofs.Prelude.{pid_now, Pipe, pipe_cost, Pipe_end, pipe_name, pipe_of_target, PipeChanges, pipes_of, place_at, place_is_live, Reading, refl, set, settled, slot_now, Slots, Some}
use Rattle.kcall_core.proofs.Prelude.{state_of, subst, sum_term, sym, Target, target_now, target_of_open, Terminal, true, well_closed, well_closed_pipe, WellFormed, with_closed, with_named}
use Rattle.kcall_core.proofs.Prelude.{without_sharer, woken_by, Writing}
use Rattle.file_table.specs.OpenFiles.{IsTable, entry_at}
use Rattle.kcall_core.proofs.memory.Changes.{some-inside}
use Rattle.kcall_core.proofs.turns.Turned.{live-is}
use Rattle.kcall_core.proofs.table.States.{slot-inside}
use Rattle.kcall_core.proofs.table.Stops.{live-place}
use Rattle.kcall_core.proofs.files.Namings.{named-seen, file-seen, file-inside, named-counts, counted-entry, files-left, fewer-kept, fewer-table, closed-counted}
use Rattle.kcall_core.proofs.files.Taking.{Shares, taken-sound, taken-state}
use Rattle.kcall_core.proofs.table.Woken.{place-each, live-woken, each-none, stirred-state, stirred-sound}
use Rattle.kcall_core.proofs.files.PipeLeft.{remainder, with-settled, ends-stay, same-wakes}

-- ---- what a descriptor in use names

-- it has one of the numbers of descriptors
pub used-below : {k : Kernel} {h : Hart} {slot d : ℕ} → IsClosing k h → k.current ≡ Some slot → IsSome (named_by (descriptors_at k.table slot) d) → d < NOFILE
used-below {k} {h} {slot} {d} closing is used =
    let now = closing.sound.current slot is in
    omega (arith, some-inside (descriptors_at k.table slot) d used, closing.counted.lists slot (slot-inside k h closing.sound slot now.process now.is))

module _ {k : Kernel} {h : Hart} {slot d g : ℕ} (closing : IsClosing k h) (is : k.current ≡ Some slot) (below : d < NOFILE) (used : named_by (descriptors_at k.table slot) d ≡ Some g) where
  slot-is : slot ≡ slot_now k
  slot-is = sym (ap or_zero is)

  pub slot-below : slot < 64
  slot-below = let now = closing.sound.current slot is in slot-inside k h closing.sound slot now.process now.is

  -- it is open
  pub used-entry : (e : CountedFile) × (entry_at k.files g ≡ Some e)
  used-entry = counted-entry k.files g (omega (arith, closing.counted.counts g, named-counts k.table slot d g slot-below below used))

  pub used-open : IsOpen k.files g
  used-open = ap is_some used-entry.1

  pub used-seen : get (live_now k h).descriptors d ≡ Some g
  used-seen =
      named-seen (descriptors_at k.table (slot_now k)) d
      ∙ ap (λ b. cond b (named_by (descriptors_at k.table (slot_now k)) d) None) (lt-ltb d NOFILE below)
      ∙ ap (λ n. named_by (descriptors_at k.table n) d) (sym slot-is)
      ∙ used

  module _ {x : OpenFile} (kind : open_file_at k.files g ≡ Some x) where
    pub opened-seen : get (state_of k h).files g ≡ Some x
    opened-seen = file-seen k h g (file-inside k.files g x closing.files kind) ∙ kind

    pub target-is : target_now k h d ≡ Some x.target
    target-is = ap (end_of (state_of k h)) used-seen ∙ ap target_of_open opened-seen

    -- an end of a pipe, which is there and counts it
    module _ (i : ℕ) (end : End) (at : x.target ≡ Pipe_end i end) where
      pub pipe-there : IsSome (get (state_of k h).pipes i)
      pipe-there = closing.well.ends g i x end opened-seen at

      on-it : hits i end (end_of (state_of k h) (get (live_now k h).descriptors d)) ≡ true
      on-it = ap (hits i end) (target-is ∙ ap Some at) ∙ here end
        where
          here : (e : End) → (nat_eq i i && is_end e e) ≡ true
          here Reading = ap (λ b. b && true) (eq-eqb i i refl)
          here Writing = ap (λ b. b && true) (eq-eqb i i refl)

      many : (e : End) → hits i e (end_of (state_of k h) (get (live_now k h).descriptors d)) ≡ true → 1 ≤ over_all (state_of k h) (on (state_of k h) i e)
      many e hit =
          let s = state_of k h in
          let l = live_now k h in
          let live : IsLive s (pid_now k) l = live-is k h closing.sound closing.running in
          let some = count_some NOFILE (λ n. on_end i e (numbered s l n)) d below (hits_at s i e (get l.descriptors d) ∙ hit) in
          let mine : on s i e (get s.processes (pid_now k)) ≡ count_below (λ n. on_end i e (numbered s l n)) NOFILE = ap (on s i e) live in
          let pid = closing.well.pids (pid_now k) (ap is_some live) in
          omega (arith, some.1, mine, sum_term s.next_pid (pid_now k) (λ q. on s i e (get s.processes q)) pid.1)

      pub pipe-counts : (y : Pipe) → get (state_of k h).pipes i ≡ Some y → 1 ≤ count_on end y
      pipe-counts y there = by end on-it
        where
          by : (e : End) → hits i e (end_of (state_of k h) (get (live_now k h).descriptors d)) ≡ true → 1 ≤ count_on e y
          by Reading hit = omega (arith, closing.well.readers i y there, many Reading hit)
          by Writing hit = omega (arith, closing.well.writers i y there, many Writing hit)

-- ---- what is left

module _ {k : Kernel} (k' : Kernel) {h : Hart} {slot d g : ℕ} {x : OpenFile} (closing : IsClosing k h) (is : k.current ≡ Some slot)
    (below : d < NOFILE) (used : named_by (descriptors_at k.table slot) d ≡ Some g) (kind : open_file_at k.files g ≡ Some x)
    (files : k'.files ≡ without_sharer g k.files) (current : k'.current ≡ k.current) (shares : Shares k.memories k'.memories) (frames : length k'.memories.ram ≡ length k.memories.ram)
    (table : k'.table ≡ each_changed (woken_by (closes_wake (state_of k h).pipes (state_of k' h).pipes))
    (record k.table { descriptors = set k.table.descriptors slot (with_named d None (descriptors_at k.table slot)) }))
    (console : k'.console ≡ k.console) (programs : k'.programs.items ≡ k.programs.items) (clock : k'.clock ≡ k.clock)
    (pipes : (state_of k' h).pipes ≡ fewer_on (Some x.target) (state_of k h).pipes) (free : (state_of k' h).free ≡ (state_of k h).free + freed_on (Some x.target) (state_of k h).pipes)
    (ends : (i : ℕ) (e : End) → count_on e (or_gone (get (state_of k h).pipes i)) ≡ 0 → count_on e (or_gone (get (state_of k' h).pipes i)) ≡ 0)
    (law : (left : FinMap nat_cmp OpenFile) → let s = state_of k h in
    let u = changed_state (pid_now k) (with_closed d (live_now k h)) left (fewer_on (Some x.target) s.pipes) s.console
    (s.free + freed_on (Some x.target) s.pipes) s in
    FilesLeft s u → WellFormed (length k.memories.ram) u) where
  -- before sleepers wake
  abbrev middle : Kernel
  middle = record k' { table = record k.table { descriptors = set k.table.descriptors slot (with_named d None (descriptors_at k.table slot)) } }

  entry : (e : CountedFile) × (entry_at k.files g ≡ Some e)
  entry = used-entry closing is below used

  long : length (descriptors_at k.table slot) ≡ NOFILE
  long = closing.counted.lists slot (slot-below closing is below used)

  fits : d < length (descriptors_at k.table slot)
  fits = omega (arith, below, long)

  sound-middle : IsSound middle h
  sound-middle = taken-sound k middle h slot d closing.sound is current shares fits refl

  state-middle : state_of k' h ≡ state_of middle h
  state-middle = stirred-state middle k' (closes_wake (state_of k h).pipes (state_of k' h).pipes) table refl h

  sound-after : IsSound k' h
  sound-after = stirred-sound middle k' (closes_wake (state_of k h).pipes (state_of k' h).pipes) table refl h sound-middle

  place-after : (j : ℕ) → place_at k'.table j ≡ option_map (woken_by (closes_wake (state_of k h).pipes (state_of k' h).pipes)) (place_at k.table j)
  place-after j = ap (λ (t : Slots). place_at t j) table ∙ place-each (woken_by (closes_wake (state_of k h).pipes (state_of k' h).pipes)) middle.table j

  counted-after : AreCounted k'.files k'.table
  counted-after =
      let now = closing.sound.current slot is in
      subst (λ fs. AreCounted fs k'.table) (sym files)
      (closed-counted k.files k.table k'.table slot d g entry.0 closing.counted closing.files entry.1 (slot-below closing is below used) below closing.sound.table.descriptors used
      (ap (λ (t : Slots). t.descriptors) table)
      (λ j. ap place_is_live (place-after j) ∙ live-woken (closes_wake (state_of k h).pipes (state_of k' h).pipes) (place_at k.table j))
      (live-place k slot now.process now.is now.live))

  kept-after : (file : ℕ) (y : OpenFile) → open_file_at k'.files file ≡ Some y → open_file_at k.files file ≡ Some y
  kept-after file y there = fewer-kept k.files g closing.files entry.0 entry.1 file y (sym (ap (λ fs. open_file_at fs file) files) ∙ there)

  table-after : IsTable k'.files
  table-after = subst IsTable (sym files) (fewer-table k.files g closing.files entry.0 entry.1)

  state-after : let s = state_of k h in
      state_of k' h ≡ changed_state (pid_now k) (with_closed d (live_now k h)) (state_of k' h).files (fewer_on (Some x.target) s.pipes) s.console (s.free + freed_on (Some x.target) s.pipes) s
  unfolding state_of
  state-after =
      let s = state_of k h in
      state-middle
      ∙ taken-state k middle h slot d closing.sound is current shares fits refl console programs clock
      ∙ (λ t. changed_state (pid_now k) (with_closed d (live_now k h)) (state_of k' h).files (pipes t) s.console (free t) s)

  pub one-closed : Closes k h d k'
  one-closed =
      let s = state_of k h in
      let p = pid_now k in
      let m = with_closed d (live_now k h) in
      let left : FilesLeft s (state_of k' h) = files-left k k' h h sound-after counted-after table-after kept-after in
      let well = law (state_of k' h).files (subst (FilesLeft s) state-after left) in
      record {
        after = record {
          sound = sound-after;
          running = subst (λ o. IsSome o) (sym current) closing.running;
          well = subst (λ n. WellFormed n (state_of k' h)) (sym frames) (subst (WellFormed (length k.memories.ram)) (sym state-after) well);
          files = table-after;
          counted = counted-after;
        };
        remains = record {
          current = current;
          last = ap (λ (t : Slots). t.last) table;
          frames = frames;
          files = kept-after;
          ends = ends;
          places = place-after;
        };
        state = subst (λ o. state_of k' h ≡ changed_state p m (state_of k' h).files (fewer_on o s.pipes) s.console (s.free + freed_on o s.pipes) s)
            (sym (target-is closing is below used kind)) state-after;
      }

-- ---- what is no pipe

no-fewer : (x : Target) (m : FinMap nat_cmp Pipe) → pipe_of_target x ≡ None → (fewer_on (Some x) m ≡ m) × (freed_on (Some x) m ≡ 0)
no-fewer Terminal m none = (refl, refl)
no-fewer (File program offset) m none = (refl, refl)
no-fewer (Pipe_end i end) m none = absurd (none-some i (sym none))

module _ {k : Kernel} (k' : Kernel) {h : Hart} {slot d g : ℕ} {x : OpenFile} (closing : IsClosing k h) (is : k.current ≡ Some slot)
    (below : d < NOFILE) (used : named_by (descriptors_at k.table slot) d ≡ Some g) (kind : open_file_at k.files g ≡ Some x)
    (files : k'.files ≡ without_sharer g k.files) where
  pub plain-closed : (none : pipe_of_target x.target ≡ None)
      → k'.table ≡ record k.table { descriptors = set k.table.descriptors slot (with_named d None (descriptors_at k.table slot)) }
      → k' ≡ record k { table = k'.table; files = k'.files } → Closes k h d k'
  unfolding state_of
  plain-closed none table rest =
      let s = state_of k h in
      let p = pid_now k in
      let l = live_now k h in
      let plain = no-fewer x.target s.pipes none in
      let same : (state_of k' h).pipes ≡ s.pipes = ap (λ (n : Kernel). pipes_of n.memories) rest in
      let taken = record k.table { descriptors = set k.table.descriptors slot (with_named d None (descriptors_at k.table slot)) } in
      let nobody = each-none (closes_wake s.pipes s.pipes) taken (same-wakes s.pipes) in
      one-closed k' closing is below used kind files (ap (λ (n : Kernel). n.current) rest)
      (subst (Shares k.memories) (sym (ap (λ (n : Kernel). n.memories) rest)) (record { sound = closing.sound.memories; each = refl; runs = λ j hart r. r }))
      (ap (λ (n : Kernel). length n.memories.ram) rest)
      (table ∙ nobody ∙ ap (λ m. each_changed (woken_by (closes_wake s.pipes m)) taken) (sym same))
      (ap (λ (n : Kernel). n.console) rest) (ap (λ (n : Kernel). n.programs.items) rest) (ap (λ (n : Kernel). n.clock) rest)
      (same ∙ sym plain.0)
      (ap (λ (n : Kernel). free_of n.memories) rest ∙ omega (arith, plain.1))
      (λ i e zero. ap (λ m. count_on e (or_gone (get m i))) same ∙ zero)
      (λ left left_ok.
      let to : changed_state p (with_closed d l) left (fewer_on (Some x.target) s.pipes) s.console (s.free + freed_on (Some x.target) s.pipes) s
      ≡ changed_state p (with_closed d l) left s.pipes s.console (s.free + 0) s =
      λ t. changed_state p (with_closed d l) left (plain.0 t) s.console (s.free + plain.1 t) s in
      subst (WellFormed (length k.memories.ram)) (sym to)
      (well_closed (length k.memories.ram) s p l (with_closed d l) d g x left closing.well (live-is k h closing.sound closing.running) below
      (used-seen closing is below used) (opened-seen closing is below used kind) none (refl, refl, refl) (subst (FilesLeft s) to left_ok)))

  -- ---- an end of a pipe

  module _ (i : ℕ) (end : End) (at : x.target ≡ Pipe_end i end) (y : Pipe) (there : get (state_of k h).pipes i ≡ Some y) where
    at-pipe : fewer_on (Some x.target) (state_of k h).pipes ≡ settled i (parted y end 1) (state_of k h).pipes
    at-pipe = ap (λ (t : Target). fewer_on (Some t) (state_of k h).pipes) at ∙ ap (fewer_at i end (state_of k h).pipes) there

    at-freed : freed_on (Some x.target) (state_of k h).pipes ≡ cond (is_given_up (parted y end 1)) 1 0
    at-freed = ap (λ (t : Target). freed_on (Some t) (state_of k h).pipes) at ∙ ap (freed_at end) there

    is-named : (n : ℕ) → least_on_pipe (numbered (state_of k h) (live_now k h)) i ≡ Some n → OnPipe (state_of k h) (pid_now k) (live_now k h) d i n end y
    is-named n least = record {
      was = live-is k h closing.sound closing.running;
      below = below;
      file = g;
      named_file = used-seen closing is below used;
      read = x.read;
      write = x.write;
      opened = opened-seen closing is below used kind ∙ ap (λ (t : Target). Some (record x { target = t })) at;
      pipe = there;
      names = least;
    }

    named-there : pipe_name (numbered (state_of k h) (live_now k h) d) ≡ Some i
    named-there =
        ap (λ o. pipe_name (descriptor_at (state_of k h) o)) (used-seen closing is below used)
        ∙ ap (λ o. pipe_name (descriptor_on (state_of k h) g o)) (opened-seen closing is below used kind ∙ ap (λ (t : Target). Some (record x { target = t })) at)

    pipe-law : (left : FinMap nat_cmp OpenFile) → let s = state_of k h in let z = parted y end 1 in
        let u = changed_state (pid_now k) (with_closed d (live_now k h)) left (settled i z s.pipes) s.console
        (s.free + cond (is_given_up z) 1 0) s in FilesLeft s u → WellFormed (length k.memories.ram) u
    pipe-law left left_ok = by (least_on_pipe (numbered (state_of k h) (live_now k h)) i) refl
        (least_there (numbered (state_of k h) (live_now k h)) i d below named-there (least_on_pipe (numbered (state_of k h) (live_now k h)) i) refl)
      where
        by : (o : Option ℕ) → least_on_pipe (numbered (state_of k h) (live_now k h)) i ≡ o → is_some o ≡ true
            → WellFormed (length k.memories.ram) (changed_state (pid_now k) (with_closed d (live_now k h)) left
            (settled i (parted y end 1) (state_of k h).pipes) (state_of k h).console ((state_of k h).free + cond (is_given_up (parted y end 1)) 1 0)
            (state_of k h))
        by None least some = let no : ⊥ = cc in absurd no
        by (Some n) least some = well_closed_pipe (length k.memories.ram) (state_of k h) (pid_now k) (live_now k h)
            (with_closed d (live_now k h)) d i n end y left (is-named n least) closing.well (refl, refl, refl) left_ok

    remainder-cost : (z : Pipe) → pipe_cost (remainder z) + cond (is_given_up z) 1 0 ≡ 1
    remainder-cost z = by (is_given_up z)
      where
        by : (b : Bool) → pipe_cost (cond b None (Some z)) + cond b 1 0 ≡ 1
        by true = refl
        by false = refl

    pub pipe-closed : PipeChanges k.memories k'.memories i (remainder (parted y end 1))
        → k'.table ≡ each_changed (woken_by (closes_wake (state_of k h).pipes (state_of k' h).pipes))
        (record k.table { descriptors = set k.table.descriptors slot (with_named d None (descriptors_at k.table slot)) })
        → k' ≡ record k { table = k'.table; files = k'.files; memories = k'.memories } → Closes k h d k'
    unfolding state_of
    pipe-closed changes table rest =
        let s = state_of k h in
        let p = pid_now k in
        let l = live_now k h in
        let z = parted y end 1 in
        one-closed k' closing is below used kind files (ap (λ (n : Kernel). n.current) rest)
        (record { sound = changes.sound; each = changes.each; runs = changes.runs })
        changes.frames
        table
        (ap (λ (n : Kernel). n.console) rest) (ap (λ (n : Kernel). n.programs.items) rest) (ap (λ (n : Kernel). n.clock) rest)
        (changes.pipes ∙ with-settled i z s.pipes ∙ sym at-pipe)
        (omega (arith, changes.free, remainder-cost z, ap pipe_cost there, at-freed))
        (λ j e zero. ap (λ m. count_on e (or_gone (get m j))) changes.pipes ∙ ends-stay s.pipes i end y there j e zero)
        (λ left left_ok.
        let to : changed_state p (with_closed d l) left (fewer_on (Some x.target) s.pipes) s.console (s.free + freed_on (Some x.target) s.pipes) s
        ≡ changed_state p (with_closed d l) left (settled i z s.pipes) s.console (s.free + cond (is_given_up z) 1 0) s =
        λ t. changed_state p (with_closed d l) left (at-pipe t) s.console (s.free + at-freed t) s in
        subst (WellFormed (length k.memories.ram)) (sym to) (pipe-law left (subst (FilesLeft s) to left_ok)))

-- A read from a program's file, as the code goes through it.
use Rattle.kcall_core.proofs.Prelude.{ℕ, ℤ, ◌+◌, ◌<◌, ◌∙◌, ◌≡◌, ◌≢◌, ◌≤◌, After, ap, AreCounted, arith, at_start, Call, Called, cases_eq, changed_state, cond, count_at, CountedFile, descriptors_at}
use Rattle.kcall_core.proofs.Prelude.{drop, each_of, entry_count, entry_file, entry_moved, eqb_tells, File, file_read, filed_state, frame_count, free_of, get, get_at, get_or-set_other}
use Rattle.kcall_core.proofs.Prelude.{get_or-set_same, get_other, get_same, Hart, HasMemory, held_at, Image, inl, inr, insert, IsRunning, IsSome, IsSound, IsWhole, Kernel, length, length-set}
use Rattle.kcall_core.proofs.Prelude.{length-take, List, Live, live_now, live_of, ltb, ltb-true, Makes, Memories, moved_to, name_of_file, None, numbered, OnFile, open_file_at, OPEN_FILES, OpenFile}
use Rattle.kcall_core.proofs.Prelude.{Option, option_map, or_nothing, or_zero, Own, pid_now, place_now, pos, program_bytes, read, read_case, read_file, read_from, refl, rename_shown, RunsIn}
use Rattle.kcall_core.proofs.Prelude.{same_pages, same_Some, set_file, SHARERS_MAX, show, slice_get, slot_now, SlotChanges, Some, State, state_of, subst, sym, take, Target, target_moved}
use Rattle.kcall_core.proofs.Prelude.{target_of_open, there_if_so, true, View, view_now, view_of, WellFormed, with_answer, with_bytes, with_image, with_offset, writable_now, write_image}
use Rattle.file_table.specs.OpenFiles.{entry_at}
use Rattle.kcall_core.proofs.files.Namings.{files-seen}
use Rattle.kcall_core.proofs.table.States.{running, goes-processes, goes-sound, changed-here, changed-has, changed-goes}
use Rattle.kcall_core.proofs.turns.Turned.{live-is}
use Rattle.kcall_core.proofs.turns.StepSlots.{KeepsAll}
use Rattle.kcall_core.proofs.making.CallAnswers.{IsDone}
use Rattle.kcall_core.proofs.making.Midway.{Midway, midway-done}
use Rattle.kcall_core.proofs.making.Moved.{nobody, still}
use Rattle.kcall_core.proofs.files.MovingRows.{shown-at, shown-there}
use Rattle.file_table.specs.OpenFiles as files
use Rattle.kernel_spec.proofs.well.WellLaws as well
use Rattle.kernel_spec.proofs.well.WellSteps as steps

-- ---- the table of open files, with another offset

entry-of : (o : Option CountedFile) (x : OpenFile) → option_map entry_file o ≡ Some x → (e : CountedFile) × (o ≡ Some e)
entry-of None x e = let no : ⊥ = cc in absurd no
entry-of (Some y) x e = (y, refl)

module _ (xs : List (Option CountedFile)) (g to : ℕ) (e : CountedFile) (is : entry_at xs g ≡ Some e) (inside : g < length xs) where
  offset-here : entry_at (with_offset g to xs) g ≡ Some (entry_moved to e)
  offset-here = get_or-set_same xs g (option_map (entry_moved to) (entry_at xs g)) None inside ∙ ap (option_map (entry_moved to)) is

  offset-other : (f : ℕ) → f ≢ g → entry_at (with_offset g to xs) f ≡ entry_at xs f
  offset-other f ne = get_or-set_other xs g f (option_map (entry_moved to) (entry_at xs g)) None ne

  offset-count : (f : ℕ) → count_at (with_offset g to xs) f ≡ count_at xs f
  offset-count f = elim (cases_eq f g) [
    | inl same ↦ ap (count_at (with_offset g to xs)) same ∙ ap (option_map entry_count) offset-here ∙ sym (ap (count_at xs) same ∙ ap (option_map entry_count) is)
    | inr ne ↦ ap (option_map entry_count) (offset-other f ne)
  ]

  offset-table : files.IsTable xs → files.IsTable (with_offset g to xs)
  offset-table table = record {
    places = length-set xs g (option_map (entry_moved to) (entry_at xs g)) ∙ table.places;
    counts = λ f y at. elim (cases_eq f g) [
      | inl same ↦
          let moved : entry_moved to e ≡ y = same_Some (entry_moved to e) y (sym offset-here ∙ sym (ap (entry_at (with_offset g to xs)) same) ∙ at) in
          subst (λ (z : CountedFile). (1 ≤ z.count) × (z.count ≤ SHARERS_MAX)) moved (table.counts g e is)
      | inr ne ↦ table.counts f y (sym (offset-other f ne) ∙ at)
    ];
  }

-- a process has its memory
pub slot-memory : {k : Kernel} {h : Hart} {slot : ℕ} → IsWhole k h → k.current ≡ Some slot → HasMemory (each_of k.memories) slot
slot-memory {k} {h} {slot} whole is = let r = whole.sound.current slot is in whole.sound.lives slot r.process r.is r.live

module _ {k : Kernel} {h : Hart} {c : Call} {file : ℕ} {x : OpenFile} {n : ℕ} (whole : IsWhole k h) (runs : IsRunning k)
    (on : OnFile k h c file x (writable_now (live_now k h).image c.a1) n) (reads : x.read ≡ true) (program offset : ℕ) (target : x.target ≡ File program offset)
    (bytes : List ℕ) (bytes-are : bytes ≡ take n (drop offset (program_bytes (slice_get (state_of k h).programs program)))) where
  abbrev s : State
  s = state_of k h

  abbrev p : ℕ
  p = pid_now k

  abbrev l : Live
  l = live_now k h

  abbrev v : View
  v = view_now k h

  abbrev to : ℕ
  to = offset + length bytes

  abbrev y : OpenFile
  y = record { read = x.read; write = x.write; target = File program to }

  pub few : length bytes ≤ n
  few = omega (arith, ap length bytes-are, length-take n (drop offset (program_bytes (slice_get (state_of k h).programs program))))

  opened : get s.files file ≡ Some (record { read = x.read; write = x.write; target = File program offset })
  opened = on.opened ∙ ap (λ (t : Target). Some (record x { target = t })) target

  row : read c v ≡ read_file c v (name_of_file s l file) bytes
  unfolding view_of
  row =
      read_case c v (shown-at whole runs on) on.fd n on.number (shown-there whole runs on) on.buffer.0 on.buffer.1 reads on.buffer.2
      ∙ ap (λ t. read_from c v n (name_of_file s l file) (rename_shown (numbered s l) (show s t))) target
      ∙ ap (read_file c v (name_of_file s l file)) (sym bytes-are)

  pub file-answer : (read c v).answer ≡ Called c.number (pos (length bytes))
  file-answer = ap (λ (o : Own). o.answer) row

  file-keeps : KeepsAll s (read c v)
  unfolding view_of
  file-keeps = subst (KeepsAll s) (sym row) (record { child = refl; stays = refl; pids = refl })

  file-law : After s p l (read c v) (filed_state p (with_answer (pos (length bytes)) (with_bytes c.a1 bytes l)) file y s)
  file-law = subst (λ o. After s p l o (filed_state p (with_answer (pos (length bytes)) (with_bytes c.a1 bytes l)) file y s)) (sym row)
      (file_read s p l c on.fd file program offset x.read x.write bytes (live-is k h whole.sound runs) on.below on.named_file opened)

  here : (ltb file OPEN_FILES ≡ true) × (open_file_at k.files file ≡ Some x)
  here = there_if_so (ltb file OPEN_FILES) (open_file_at k.files file) x (sym (files-seen k h file) ∙ on.opened)

  entry : (e : CountedFile) × (entry_at k.files file ≡ Some e)
  entry = entry-of (entry_at k.files file) x here.1

  pub is-open : files.IsOpen k.files file
  is-open = subst (λ o. IsSome o) (sym entry.1) refl

  inside : file < length k.files
  inside = omega (arith, ltb-true file OPEN_FILES here.0, whole.files.places)

  module _ (m : Memories) (image : Image) (image-is : image ≡ write_image l.image c.a1 bytes) (slot : ℕ) (slot-is : slot ≡ slot_now k)
      (written : SlotChanges k.memories m slot (Some (with_image image (held_at (each_of k.memories) slot)))) (free : free_of m ≡ free_of k.memories)
      (keeps-runs : (hart : Hart) → RunsIn k.memories slot hart → RunsIn m slot hart) (k1 : Kernel) (is-k1 : k1 ≡ record k { memories = m; files = with_offset file to k.files }) where
    abbrev mid : Kernel
    mid = record k { memories = m; files = with_offset file to k.files }

    abbrev after : Image
    after = write_image l.image c.a1 bytes

    abbrev moved : Live
    moved = record l { image = after }

    changes : SlotChanges k.memories m (slot_now k) (Some (with_image after (held_at (each_of k.memories) (slot_now k))))
    changes = subst (λ (z : ℕ × Image). SlotChanges k.memories m z.0 (Some (with_image z.1 (held_at (each_of k.memories) z.0)))) (λ i. (slot-is i, image-is i)) written

    runs-now : RunsIn m (slot_now k) h
    runs-now = subst (λ z. RunsIn m z h) slot-is (keeps-runs h (subst (λ z. RunsIn k.memories z h) (sym slot-is) (running k h whole.sound runs).is.runs))

    mid-sound : IsSound mid h
    mid-sound = goes-sound k mid h h whole.sound runs (changed-goes mid whole.sound runs refl refl changes) changes.sound (changed-has mid whole.sound runs refl refl changes) runs-now

    pub file-sound : IsSound k1 h
    file-sound = subst (λ z. IsSound z h) (sym is-k1) mid-sound

    now-here : open_file_at (with_offset file to k.files) file ≡ Some y
    now-here =
        ap (option_map entry_file) (offset-here k.files file to entry.0 entry.1 inside)
        ∙ ap (option_map (moved_to to)) (sym (ap (option_map entry_file) entry.1) ∙ here.1)
        ∙ ap (λ t. Some (record x { target = target_moved to t })) target

    files-now : (state_of mid h).files ≡ insert s.files file y
    files-now = same_pages (state_of mid h).files (insert s.files file y) (λ e. elim (eqb_tells e file) [
      | inl same ↦
          files-seen mid h e
          ∙ ap (λ o. cond (ltb e OPEN_FILES) o None) (ap (open_file_at (with_offset file to k.files)) same.1 ∙ now-here)
          ∙ ap (λ b. cond b (Some y) None) (ap (λ z. ltb z OPEN_FILES) same.1 ∙ here.0)
          ∙ sym (get_at s.files file y e ∙ ap (λ b. cond b (Some y) (get s.files e)) same.0)
      | inr other ↦
          files-seen mid h e
          ∙ ap (λ o. cond (ltb e OPEN_FILES) o None) (ap (option_map entry_file) (offset-other k.files file to entry.0 entry.1 inside e other.1))
          ∙ sym (get_at s.files file y e ∙ ap (λ b. cond b (Some y) (get s.files e)) other.0 ∙ files-seen k h e)
    ])

    mid-state : state_of mid h ≡ changed_state p moved (insert s.files file y) s.pipes s.console s.free s
    unfolding state_of
    mid-state =
        let processes = goes-processes k mid h h whole.sound runs (changed-goes mid whole.sound runs refl refl changes) in
        (λ t. record (state_of mid h) { processes = processes t; files = files-now t; pipes = changes.pipes t; free = free t })
        ∙ ap (λ o. changed_state p (live_of (place_now k) (descriptors_at k.table (slot_now k)) (or_nothing o) h.regs)
        (insert s.files file y) s.pipes s.console s.free s) (changed-here mid whole.sound runs refl refl changes)

    mid-well : WellFormed (frame_count k) (changed_state p moved (insert s.files file y) s.pipes s.console s.free s)
    mid-well =
        well.alone (frame_count k) (set_file file y s) p l l.regs after l.call l.killed s.console s.free
        (steps.well_moved (frame_count k) s file program offset to x.read x.write whole.well opened) (live-is k h whole.sound runs)
        (ap (λ z. s.free + (z + 1)) (well.writes_take_nothing l.image c.a1 bytes)) (record { typed = whole.well.keys; sent_later = whole.well.to_send })

    same-start : (g : ℕ) → at_start (target_of_open (get (insert s.files file y) g)) ≡ at_start (target_of_open (get s.files g))
    same-start g = elim (eqb_tells g file) [
      | inl same ↦
          ap (λ z. at_start (target_of_open (get (insert s.files file y) z))) same.1 ∙ ap (λ o. at_start (target_of_open o)) (get_same s.files file y)
          ∙ sym (ap (λ z. at_start (target_of_open (get s.files z))) same.1 ∙ ap (λ o. at_start (target_of_open o)) opened)
      | inr other ↦ ap (λ o. at_start (target_of_open o)) (get_other s.files file y g other.1)
    ]

    counted : AreCounted (with_offset file to k.files) k.table
    counted = record {
      counts = λ f. ap or_zero (offset-count k.files file to entry.0 entry.1 inside f) ∙ whole.counted.counts f;
      lists = whole.counted.lists;
      closed = whole.counted.closed;
    }

    file-midway : Midway k h mid h nobody moved (insert s.files file y) s.pipes s.console s.free
    file-midway = record {
      sound = mid-sound;
      table = offset-table k.files file to entry.0 entry.1 inside whole.files;
      counted = counted;
      frames = changes.frames;
      current = refl;
      last = refl;
      places = (still whole runs).places;
      state = mid-state;
      well = subst (WellFormed (frame_count k)) (sym mid-state) mid-well;
      parent = refl;
      wake = (still whole runs).wake;
      targets = inl (λ q d g other at. same-start g);
    }

    pub file-done : (k' : Kernel) (h' : Hart) (value : ℤ) → value ≡ pos (length bytes) → IsDone k1 h value k' h' → Makes k h (read c v) k' h'
    file-done k' h' value is finished = midway-done whole runs file-midway k' h' (pos (length bytes)) (read c v) c.number
        (subst (λ (z : Kernel × ℤ). IsDone z.0 h z.1 k' h') (λ i. (is-k1 i, is i)) finished) file-answer file-keeps file-law

-- A free descriptor of the process that runs names a new open file, which is no pipe.
use Rattle.kcall_core.proofs.Prelude.{ℕ, ◌+◌, ◌<◌, ◌∙◌, ◌≡◌, ◌≢◌, After, ap, AreCounted, arith, at_start, Bool, Call, cases_eq, changed_state, cond, count_at, CountedFile, descriptors_at, entry_count}
use Rattle.kcall_core.proofs.Prelude.{entry_file, eq-eqb, eqb_tells, false, false≢true, filed_state, frame_count, gathered, gathered-get, get, get_at, get_or, get_or-set_other, get_or-set_same}
use Rattle.kcall_core.proofs.Prelude.{get_other, Hart, inl, inr, insert, is_none, is_this, IsRunning, IsSome, IsSound, IsWhole, Kernel, least_passes, length, length-set, List, Live, live_now, lt-ltb}
use Rattle.kcall_core.proofs.Prelude.{ltb, Makes, named_by, NobodyNames, NOFILE, None, none_from_is_none, one, open_at, open_file_at, OPEN_FILES, open_law, OpenFile, Option, option_map, or_zero, Own}
use Rattle.kcall_core.proofs.Prelude.{pid_now, pipe_of_target, place_at, place_is_live, pos, refl, same_pages, same_Some, set, show, slot_now, Slots, Some, State, state_of, subst, sym, target_of_open}
use Rattle.kcall_core.proofs.Prelude.{true, view_now, view_of, well_opened, WellFormed, with_answer, with_named, with_opened}
use Rattle.file_table.specs.OpenFiles.{entry_at}
use Rattle.kcall_core.proofs.files.Namings.{named-seen, files-seen}
use Rattle.kcall_core.proofs.table.States.{slot-inside}
use Rattle.kcall_core.proofs.table.Stops.{live-place, now-slot}
use Rattle.kcall_core.proofs.files.Taking.{Shares}
use Rattle.kcall_core.proofs.turns.Turned.{live-is}
use Rattle.kcall_core.proofs.files.Putting.{put-sound, put-state}
use Rattle.kcall_core.proofs.files.Sharing.{put-here, put-other, one-more}
use Rattle.kcall_core.proofs.making.Midway.{Midway, midway-done}
use Rattle.kcall_core.proofs.turns.StepSlots.{KeepsAll}
use Rattle.kcall_core.proofs.making.CallAnswers.{IsDone}
use Rattle.kcall_core.proofs.files.Lowest.{least-position}
use Rattle.kcall_core.proofs.making.Moved.{nobody, still}
use Rattle.file_table.specs.OpenFiles as files
use Rattle.kernel_spec.specs.steps.Updates as update

abbrev no-file : Option OpenFile
no-file = None

-- ---- the table of open files

-- the lowest place is free
pub lowest-place-free : (xs : List (Option CountedFile)) (g : ℕ) → files.lowest_place xs ≡ Some g → (entry_at xs g ≡ None) × (g < length xs)
lowest-place-free xs g e =
    let found = least_passes (length xs) (λ d. is_none (get_or xs d None)) g (least-position xs (length xs) refl ∙ e) in
    (none_from_is_none (get_or xs g None) found.0, found.1)

module _ (xs : List (Option CountedFile)) (g : ℕ) (y : OpenFile) (empty : entry_at xs g ≡ None) (inside : g < length xs) where
  pub new-here : entry_at (with_opened g y xs) g ≡ Some (record { file = y; count = 1 })
  new-here = get_or-set_same xs g (Some (record { file = y; count = 1 })) None inside

  pub new-other : (f : ℕ) → f ≢ g → entry_at (with_opened g y xs) f ≡ entry_at xs f
  new-other f ne = get_or-set_other xs g f (Some (record { file = y; count = 1 })) None ne

  pub new-table : files.IsTable xs → files.IsTable (with_opened g y xs)
  new-table table = record {
    places = length-set xs g (Some (record { file = y; count = 1 })) ∙ table.places;
    counts = λ f e at. elim (cases_eq f g) [
      | inl same ↦
          let is : record { file = y; count = 1 } ≡ e = same_Some (record { file = y; count = 1 }) e (sym new-here ∙ sym (ap (entry_at (with_opened g y xs)) same) ∙ at) in
          let count : 1 ≡ e.count = ap (λ (z : CountedFile). z.count) is in
          (omega (arith, count), omega (arith, count))
      | inr ne ↦ table.counts f e (sym (new-other f ne) ∙ at)
    ];
  }

  new-count : (f : ℕ) → or_zero (count_at (with_opened g y xs) f) ≡ or_zero (count_at xs f) + one (is_this f (Some g))
  new-count f = elim (cases_eq f g) [
    | inl same ↦
        let after : or_zero (count_at (with_opened g y xs) f) ≡ 1 = ap (λ n. or_zero (count_at (with_opened g y xs) n)) same ∙ ap (λ o. or_zero (option_map entry_count o)) new-here in
        let before : or_zero (count_at xs f) ≡ 0 = ap (λ n. or_zero (count_at xs n)) same ∙ ap (λ o. or_zero (option_map entry_count o)) empty in
        let this : one (is_this f (Some g)) ≡ 1 = ap one (eq-eqb g f (sym same)) in
        omega (arith, after, before, this)
    | inr ne ↦
        let kept : or_zero (count_at (with_opened g y xs) f) ≡ or_zero (count_at xs f) = ap (λ o. or_zero (option_map entry_count o)) (new-other f ne) in
        let this : one (is_this f (Some g)) ≡ 0 = ap one (not-this ne) in
        omega (arith, kept, this)
  ]
    where
      not-this : f ≢ g → is_this f (Some g) ≡ false
      not-this ne = elim (eqb_tells g f) [ inl h ↦ absurd (ne (sym h.1)) | inr h ↦ h.0 ]

-- one descriptor names the new open file: the counts are right again
pub opened-counted : (xs : List (Option CountedFile)) (t t' : Slots) (slot d g : ℕ) (y : OpenFile) → AreCounted xs t → entry_at xs g ≡ None → g < length xs
    → slot < 64 → d < NOFILE → length t.descriptors ≡ 64 → named_by (descriptors_at t slot) d ≡ None
    → t'.descriptors ≡ set t.descriptors slot (with_named d (Some g) (descriptors_at t slot))
    → ((j : ℕ) → place_is_live (place_at t' j) ≡ place_is_live (place_at t j)) → place_is_live (place_at t slot) ≡ true → AreCounted (with_opened g y xs) t'
opened-counted xs t t' slot d g y counted empty within inside below room free after lives here =
    let long : length (descriptors_at t slot) ≡ NOFILE = counted.lists slot inside in
    record {
      counts = λ f. omega (arith, new-count xs g y empty within f, one-more t t' slot d g inside below room long free after f, counted.counts f);
      lists = λ j lt. elim (cases_eq j slot) [
        | inl same ↦ ap (λ n. length (descriptors_at t' n)) same ∙ ap length (put-here t t' slot d g inside below room long free after) ∙ length-set (descriptors_at t slot) d (Some g) ∙ long
        | inr ne ↦ ap length (put-other t t' slot d g inside below room long free after j ne) ∙ counted.lists j lt
      ];
      closed = λ j dead. elim (cases_eq j slot) [
        | inl same ↦ absurd (false≢true (sym dead ∙ lives j ∙ ap (λ n. place_is_live (place_at t n)) same ∙ here))
        | inr ne ↦ put-other t t' slot d g inside below room long free after j ne ∙ counted.closed j (sym (lives j) ∙ dead)
      ];
    }

-- the open files of a state, with a new one
pub opened-files : (xs : List (Option CountedFile)) (g : ℕ) (y : OpenFile) → entry_at xs g ≡ None → g < length xs → length xs ≡ OPEN_FILES
    → gathered (open_file_at (with_opened g y xs)) OPEN_FILES ≡ insert (gathered (open_file_at xs) OPEN_FILES) g y
opened-files xs g y empty within places = same_pages (gathered (open_file_at (with_opened g y xs)) OPEN_FILES) (insert (gathered (open_file_at xs) OPEN_FILES) g y) (λ e. elim (eqb_tells e g) [
  | inl same ↦
      gathered-get (open_file_at (with_opened g y xs)) OPEN_FILES e
      ∙ ap (λ o. cond (ltb e OPEN_FILES) o None) (ap (open_file_at (with_opened g y xs)) same.1 ∙ ap (option_map entry_file) (new-here xs g y empty within))
      ∙ ap (λ b. cond b (Some y) None) (ap (λ z. ltb z OPEN_FILES) same.1 ∙ lt-ltb g OPEN_FILES (omega (arith, within, places)))
      ∙ sym (get_at (gathered (open_file_at xs) OPEN_FILES) g y e ∙ ap (λ b. cond b (Some y) (get (gathered (open_file_at xs) OPEN_FILES) e)) same.0)
  | inr other ↦
      gathered-get (open_file_at (with_opened g y xs)) OPEN_FILES e
      ∙ ap (λ o. cond (ltb e OPEN_FILES) o None) (ap (option_map entry_file) (new-other xs g y empty within e other.1))
      ∙ sym (get_at (gathered (open_file_at xs) OPEN_FILES) g y e ∙ ap (λ b. cond b (Some y) (get (gathered (open_file_at xs) OPEN_FILES) e)) other.0 ∙ gathered-get (open_file_at xs) OPEN_FILES e)
])

-- a free descriptor of the process that runs names nothing in the state
pub free-seen : {k : Kernel} {h : Hart} {slot d : ℕ} → IsWhole k h → k.current ≡ Some slot → d < NOFILE → named_by (descriptors_at k.table slot) d ≡ None → get (live_now k h).descriptors d ≡ None
free-seen {k} {h} {slot} {d} whole is below free =
    named-seen (descriptors_at k.table (slot_now k)) d
    ∙ ap (λ b. cond b (named_by (descriptors_at k.table (slot_now k)) d) None) (lt-ltb d NOFILE below)
    ∙ ap (λ n. named_by (descriptors_at k.table n) d) (sym (now-slot slot whole.sound is)) ∙ free

-- no process names an open file that isn't there
pub unnamed : {k : Kernel} {h : Hart} {g : ℕ} → IsWhole k h → entry_at k.files g ≡ None → NobodyNames (state_of k h) g
unnamed {k} {h} {g} whole empty q e named = no (subst (λ o. IsSome o) not-there (whole.well.descriptors q e g named).1)
  where
    no : IsSome no-file → ⊥
    no h = cc

    both : (b : Bool) → cond b no-file no-file ≡ no-file
    both true = refl
    both false = refl

    not-there : get (state_of k h).files g ≡ None
    not-there = files-seen k h g ∙ ap (λ o. cond (ltb g OPEN_FILES) (option_map entry_file o) None) empty ∙ both (ltb g OPEN_FILES)

module _ (k : Kernel) (h : Hart) (slot d g : ℕ) (y : OpenFile) (whole : IsWhole k h) (runs : IsRunning k) (is : k.current ≡ Some slot)
    (below : d < NOFILE) (free : named_by (descriptors_at k.table slot) d ≡ None)
    (empty : entry_at k.files g ≡ None) (inside-files : g < length k.files) (no-pipe : pipe_of_target y.target ≡ None) where
  abbrev s : State
  s = state_of k h

  abbrev p : ℕ
  p = pid_now k

  abbrev l : Live
  l = live_now k h

  inside : slot < 64
  inside = let now = whole.sound.current slot is in slot-inside k h whole.sound slot now.process now.is

  pub unused : get l.descriptors d ≡ None
  unused = free-seen whole is below free

  pub nobody-names : NobodyNames s g
  nobody-names = unnamed whole empty

  keeps : (c : Call) (o : Own) → o ≡ open_at c (view_now k h) (Some d) (Some (y.read, y.write, show s y.target)) → KeepsAll s o
  unfolding view_of
  keeps c o row = subst (KeepsAll s) (sym row) (record { child = refl; stays = refl; pids = refl })

  module _ (k1 : Kernel) (table : k1.table ≡ record k.table
      { descriptors = set k.table.descriptors slot (with_named d (Some g) (descriptors_at k.table slot)) })
      (kept : k1.files ≡ with_opened g y k.files) (rest : k1 ≡ record k { table = k1.table; files = k1.files }) where
    current1 : k1.current ≡ k.current
    current1 = ap (λ (n : Kernel). n.current) rest

    fits : d < length (descriptors_at k.table slot)
    fits = omega (arith, below, whole.counted.lists slot inside)

    shares : Shares k.memories k1.memories
    shares = subst (λ (n : Kernel). Shares k.memories n.memories) (sym rest) (record { sound = whole.sound.memories; each = refl; runs = λ a hart r. r })

    pub opened-sound : IsSound k1 h
    opened-sound = put-sound k k1 h slot d g whole.sound is current1 shares fits below table

    files-now : (state_of k1 h).files ≡ insert s.files g y
    unfolding state_of
    files-now = ap (λ fs. gathered (open_file_at fs) OPEN_FILES) kept ∙ opened-files k.files g y empty inside-files whole.files.places

    state1 : state_of k1 h ≡ filed_state p (update.with_named d g l) g y s
    unfolding state_of
    state1 =
        put-state k k1 h slot d g whole.sound is current1 shares fits below table (ap (λ (n : Kernel). n.console) rest) (ap (λ (n : Kernel). n.programs.items) rest) (ap (λ (n : Kernel). n.clock) rest)
        ∙ (λ i. changed_state p (update.with_named d g l) (files-now i) ((state_of (rest i) h).pipes) s.console ((state_of (rest i) h).free) s)

    counted : AreCounted k1.files k1.table
    counted = subst (λ fs. AreCounted fs k1.table) (sym kept)
        (opened-counted k.files k.table k1.table slot d g y whole.counted empty inside-files inside below whole.sound.table.descriptors free (ap (λ (t : Slots). t.descriptors) table)
        (λ n. ap (λ (t : Slots). place_is_live (place_at t n)) table) (let now = whole.sound.current slot is in live-place k slot now.process now.is now.live))

    well1 : WellFormed (frame_count k) (filed_state p (update.with_named d g l) g y s)
    well1 = well_opened (frame_count k) s p l (update.with_named d g l) d g y whole.well (live-is k h whole.sound runs) below unused nobody-names no-pipe (refl, refl, refl)

    pub opened-midway : Midway k h k1 h nobody (update.with_named d g l) (insert s.files g y) s.pipes s.console s.free
    opened-midway = record {
      sound = opened-sound;
      table = subst files.IsTable (sym kept) (new-table k.files g y empty inside-files whole.files);
      counted = counted;
      frames = ap (λ (n : Kernel). length n.memories.ram) rest;
      current = current1;
      last = ap (λ (t : Slots). t.last) table;
      places = λ n. ap (λ (t : Slots). place_at t n) table ∙ (still whole runs).places n;
      state = state1;
      well = subst (WellFormed (frame_count k)) (sym state1) well1;
      parent = refl;
      wake = (still whole runs).wake;
      targets = inl (λ q e f other at. ap (λ o. at_start (target_of_open o)) (get_other s.files g y f (λ same. nobody-names q e (at ∙ ap Some same))));
    }

    -- the call is done, in a row that opens
    pub opened-makes : (c : Call) (o : Own) → o ≡ open_at c (view_now k h) (Some d) (Some (y.read, y.write, show s y.target))
        → (k' : Kernel) (h' : Hart) → IsDone k1 h (pos d) k' h' → Makes k h o k' h'
    opened-makes c o row k' h' finished =
        midway-done whole runs opened-midway k' h' (pos d) o c.number finished (ap (λ (z : Own). z.answer) row) (keeps c o row)
        (subst (λ z. After s p l z (filed_state p (with_answer (pos d) (update.with_named d g l)) g y s)) (sym row)
        (open_law s p l c d g y.read y.write y.target (live-is k h whole.sound runs) below unused nobody-names no-pipe))

-- Open files count the descriptors that name them: in the slots, and in the state.
use Rattle.kcall_core.proofs.Prelude.{ℕ, ℤ, ◌+◌, ◌-◌, ◌<◌, ◌∙◌, ◌≡◌, ◌≢◌, ◌≤◌, ap, AreCounted, arith, Bool, cases_eq, cases_lt, cond, count_at, count_below, count_change, count_some, CountedFile}
use Rattle.kcall_core.proofs.Prelude.{descriptor_map, descriptors_at, entry_count, entry_file, eq-eqb, eqb-true, eqb_tells, false, false≢true, file_of, FilesLeft, gathered-get, get, get_or}
use Rattle.kcall_core.proofs.Prelude.{get_or-replicate, get_or-set_other, get_or-set_same, get_or_past, Hart, inl, inr, is_none, is_some, is_this, IsSome, IsSound, Kernel, le-ltb, length, length-set}
use Rattle.kcall_core.proofs.Prelude.{List, live, lt-ltb, ltb, named_by, named_in, namings, nat_eq, NOFILE, None, none-some, none_named, once_less, one, open_file_at, OPEN_FILES, OpenFile, Option}
use Rattle.kcall_core.proofs.Prelude.{option_and_then, option_map, or_zero, place_at, place_is_live, Process, refl, set, slot_of, Slots, Some, state_of, status_of, subst, suc, sum_below, sum_change}
use Rattle.kcall_core.proofs.Prelude.{sum_term, sym, there_if_so, this_is, true, with_named, without_sharer, zero}
use Rattle.file_table.specs.OpenFiles.{IsTable, entry_at}
use Rattle.kcall_core.proofs.table.Observed.{slot-found, missing-live, live-held, ended-held}
use Rattle.kcall_core.proofs.table.States.{slot-inside}
use Rattle.kernel_spec.specs.others.Quiet as quiet

-- ---- sums and counts that aren't 0

sum-some : (n : ℕ) (f : ℕ → ℕ) → 1 ≤ sum_below n f → (i : ℕ) × (i < n) × (1 ≤ f i)
unfolding sum_below
sum-some zero f many = absurd (omega (arith, many))
sum-some (suc n) f many = elim (cases_lt 0 (f n)) [
  | inl lt ↦ (n, omega arith, omega (arith, lt))
  | inr ge ↦ let r = sum-some n f (omega (arith, many, ge)) in (r.0, omega (arith, r.1), r.2)
]

count-some : (n : ℕ) (P : ℕ → Bool) → 1 ≤ count_below P n → (d : ℕ) × (d < n) × (P d ≡ true)
unfolding count_below
count-some zero P many = absurd (omega (arith, many))
count-some (suc n) P many = elim (P n) as (λ b. P n ≡ b → (d : ℕ) × (d < suc n) × (P d ≡ true)) [
  | true ↦ λ e. (n, omega arith, e)
  | false ↦ λ e. let none : one (P n) ≡ 0 = ap one e in let r = count-some n P (omega (arith, many, none)) in (r.0, omega (arith, r.1), r.2)
] refl

-- ---- in the slots

-- a descriptor that names an open file is one of its namings
pub named-counts : (t : Slots) (slot d file : ℕ) → slot < 64 → d < NOFILE → named_by (descriptors_at t slot) d ≡ Some file → 1 ≤ namings t file
named-counts t slot d file inside below is =
    let some = count_some NOFILE (λ e. is_this file (named_by (descriptors_at t slot) e)) d below (ap (is_this file) is ∙ eq-eqb file file refl) in
    let term : named_in (descriptors_at t slot) file ≤ namings t file = sum_term 64 slot (λ i. named_in (descriptors_at t i) file) inside in
    omega (arith, some.1, term)

-- and an open file that has one is named
pub counts-named : (t : Slots) (file : ℕ) → 1 ≤ namings t file → (slot : ℕ) × (d : ℕ) × (slot < 64) × (d < NOFILE) × (named_by (descriptors_at t slot) d ≡ Some file)
counts-named t file many =
    let s = sum-some 64 (λ i. named_in (descriptors_at t i) file) many in
    let d = count-some NOFILE (λ e. is_this file (named_by (descriptors_at t s.0) e)) s.2 in
    (s.0, d.0, s.1, d.1, this_is file (named_by (descriptors_at t s.0) d.0) d.2)

-- ---- in the state

pub named-seen : (ds : List (Option ℕ)) (d : ℕ) → get (descriptor_map ds) d ≡ cond (ltb d NOFILE) (named_by ds d) None
named-seen ds d = gathered-get (λ e. get_or ds e None) NOFILE d

below-last : (d : ℕ) → ltb d NOFILE ≡ true → d < NOFILE
below-last d e = elim (cases_lt d NOFILE) [
  | inl lt ↦ lt
  | inr ge ↦ absurd (false≢true (sym (le-ltb d NOFILE ge) ∙ e))
]

module _ (k : Kernel) (h : Hart) (sound : IsSound k h) where
  -- what a live process names, a descriptor of its slot names
  pub names-slot : (q d file : ℕ) → quiet.file_at (state_of k h) q d ≡ Some file → (slot : ℕ) × (slot < 64) × (d < NOFILE) × (named_by (descriptors_at k.table slot) d ≡ Some file)
  names-slot q d file is = by (slot_of k.table q) refl
    where
      under : (i : ℕ) (p : Process) → place_at k.table i ≡ Some p → p.pid ≡ q → (o : Option ℤ) → status_of p ≡ o
          → (slot : ℕ) × (slot < 64) × (d < NOFILE) × (named_by (descriptors_at k.table slot) d ≡ Some file)
      under i p at pid None alive =
          let seen = sym (ap (λ o. file_of o d) (sym (ap (live (state_of k h)) pid) ∙ live-held k h sound.table i p at alive)) ∙ is in
          let r = there_if_so (ltb d NOFILE) (named_by (descriptors_at k.table i) d) file (sym (named-seen (descriptors_at k.table i) d) ∙ seen) in
          (i, slot-inside k h sound i p at, below-last d r.0, r.1)
      under i p at pid (Some status) over =
          absurd (none-some file (sym (ap (λ o. file_of o d) (sym (ap (live (state_of k h)) pid) ∙ ended-held k h sound.table i p status at over)) ∙ is))

      by : (o : Option ℕ) → slot_of k.table q ≡ o → (slot : ℕ) × (slot < 64) × (d < NOFILE) × (named_by (descriptors_at k.table slot) d ≡ Some file)
      by None missing = absurd (none-some file (sym (ap (λ o. file_of o d) (missing-live k h sound.table q missing)) ∙ is))
      by (Some i) at = let f = slot-found k.table q i at in under i f.0 f.1 f.2 (status_of f.0) refl

  -- and the other way round
  pub slot-names : (slot d file : ℕ) (p : Process) → place_at k.table slot ≡ Some p → status_of p ≡ None → d < NOFILE
      → named_by (descriptors_at k.table slot) d ≡ Some file → quiet.file_at (state_of k h) p.pid d ≡ Some file
  slot-names slot d file p at alive below is =
      ap (λ o. file_of o d) (live-held k h sound.table slot p at alive) ∙ named-seen (descriptors_at k.table slot) d
      ∙ ap (λ b. cond b (named_by (descriptors_at k.table slot) d) None) (lt-ltb d NOFILE below) ∙ is

-- the open files of the state are those of the table
pub files-seen : (k : Kernel) (h : Hart) (file : ℕ) → get (state_of k h).files file ≡ cond (ltb file OPEN_FILES) (open_file_at k.files file) None
unfolding state_of
files-seen k h file = gathered-get (open_file_at k.files) OPEN_FILES file

pub file-seen : (k : Kernel) (h : Hart) (file : ℕ) → file < OPEN_FILES → get (state_of k h).files file ≡ open_file_at k.files file
file-seen k h file lt = files-seen k h file ∙ ap (λ b. cond b (open_file_at k.files file) None) (lt-ltb file OPEN_FILES lt)

-- and where none is another than before, so it is in the state
pub files-kept : (k k' : Kernel) (h h' : Hart) → ((file : ℕ) (x : OpenFile) → open_file_at k'.files file ≡ Some x
    → open_file_at k.files file ≡ Some x) → (file : ℕ) (x : OpenFile) → get (state_of k' h').files file ≡ Some x → get (state_of k h).files file ≡ Some x
files-kept k k' h h' kept file x is =
    let r = there_if_so (ltb file OPEN_FILES) (open_file_at k'.files file) x (sym (files-seen k' h' file) ∙ is) in
    files-seen k h file ∙ ap (λ b. cond b (open_file_at k.files file) None) r.0 ∙ kept file x r.1

pub file-inside : (files : List (Option CountedFile)) (file : ℕ) (x : OpenFile) → IsTable files → open_file_at files file ≡ Some x → file < OPEN_FILES
file-inside files file x table is = elim (cases_lt file OPEN_FILES) [
  | inl lt ↦ lt
  | inr ge ↦ absurd (none-some x (sym (ap (option_map entry_file) (get_or_past files file None (omega (arith, ge, table.places)))) ∙ is))
]

-- an open file that is counted is there
pub counted-entry : (files : List (Option CountedFile)) (file : ℕ) → 1 ≤ or_zero (count_at files file) → (e : CountedFile) × (entry_at files file ≡ Some e)
counted-entry files file many = by (entry_at files file) refl
  where
    by : (o : Option CountedFile) → entry_at files file ≡ o → (e : CountedFile) × (entry_at files file ≡ Some e)
    by None is = absurd (omega (arith, many, ap (λ o. or_zero (option_map entry_count o)) is))
    by (Some e) is = (e, is)

-- Open files are those that a live process names, where none that is there is another than before
pub files-left : (k k' : Kernel) (h h' : Hart) → IsSound k' h' → AreCounted k'.files k'.table → IsTable k'.files
    → ((file : ℕ) (x : OpenFile) → open_file_at k'.files file ≡ Some x → open_file_at k.files file ≡ Some x) → FilesLeft (state_of k h) (state_of k' h')
files-left k k' h h' sound counted table kept = record {
  stay = λ q d g names.
      let at = names-slot k' h' sound q d g names in
      let many : 1 ≤ or_zero (count_at k'.files g) = omega (arith, counted.counts g, named-counts k'.table at.0 d g at.1 at.2 at.3) in
      let e = counted-entry k'.files g many in
      let now : open_file_at k'.files g ≡ Some e.0.file = ap (option_map entry_file) e.1 in
      let inside = file-inside k'.files g e.0.file table now in
      file-seen k' h' g inside ∙ now ∙ sym (file-seen k h g inside ∙ kept g e.0.file now);
  named = λ g there. by g (entry_at k'.files g) refl (subst (λ o. IsSome o) (files-seen k' h' g) there);
}
  where
    cond-none : (b : Bool) (o : Option OpenFile) → o ≡ None → IsSome (cond b o None) → ⊥
    cond-none true o e some = false≢true (sym (ap is_some e) ∙ some)
    cond-none false o e some = false≢true some

    alive : (o : Option Process) → place_is_live o ≡ true → (p : Process) × (o ≡ Some p) × (status_of p ≡ None)
    alive None e = absurd (false≢true e)
    alive (Some p) e = (p, refl, no-status (status_of p) refl)
      where
        no-status : (s : Option ℤ) → status_of p ≡ s → status_of p ≡ None
        no-status None is = is
        no-status (Some z) is = absurd (false≢true (sym (ap is_none is) ∙ e))

    live_by : (slot d g : ℕ) → slot < 64 → named_by (descriptors_at k'.table slot) d ≡ Some g → d < NOFILE → (b : Bool)
        → place_is_live (place_at k'.table slot) ≡ b → (q : ℕ) × (e : ℕ) × (quiet.file_at (state_of k' h') q e ≡ Some g)
    live_by slot d g inside names below true is = let p = alive (place_at k'.table slot) is in (p.0.pid, d, slot-names k' h' sound slot d g p.0 p.1 p.2 below names)
    live_by slot d g inside names below false is = absurd (none-some g (sym (ap (λ ds. named_by ds d) (counted.closed slot is) ∙ get_or-replicate NOFILE d None None below) ∙ names))

    by : (g : ℕ) (o : Option CountedFile) → entry_at k'.files g ≡ o → IsSome (cond (ltb g OPEN_FILES) (open_file_at k'.files g) None)
        → (q : ℕ) × (d : ℕ) × (quiet.file_at (state_of k' h') q d ≡ Some g)
    by g None is there = absurd (cond-none (ltb g OPEN_FILES) (open_file_at k'.files g) (ap (option_map entry_file) is) there)
    by g (Some e) is there =
        let many : 1 ≤ namings k'.table g = omega (arith, counted.counts g, (table.counts g e is).0, ap (λ o. or_zero (option_map entry_count o)) is) in
        let n = counts-named k'.table g many in
        live_by n.0 n.1 g n.2 n.4 n.3 (place_is_live (place_at k'.table n.0)) refl

-- ---- a descriptor is closed

-- one naming fewer
module _ (t t' : Slots) (slot d g : ℕ) (inside : slot < 64) (below : d < NOFILE) (room : length t.descriptors ≡ 64)
    (long : length (descriptors_at t slot) ≡ NOFILE) (names : named_by (descriptors_at t slot) d ≡ Some g)
    (after : t'.descriptors ≡ set t.descriptors slot (with_named d None (descriptors_at t slot))) where
  pub closed-here : descriptors_at t' slot ≡ with_named d None (descriptors_at t slot)
  closed-here = ap (λ xs. get_or xs slot none_named) after ∙ get_or-set_same t.descriptors slot (with_named d None (descriptors_at t slot)) none_named (omega (arith, inside, room))

  pub closed-other : (j : ℕ) → j ≢ slot → descriptors_at t' j ≡ descriptors_at t j
  closed-other j ne = ap (λ xs. get_or xs j none_named) after ∙ get_or-set_other t.descriptors slot j (with_named d None (descriptors_at t slot)) none_named ne

  abbrev tests : ℕ → ℕ → Bool
  tests file e = is_this file (named_by (descriptors_at t slot) e)

  abbrev tests' : ℕ → ℕ → Bool
  tests' file e = is_this file (named_by (with_named d None (descriptors_at t slot)) e)

  one-fewer-in : (file : ℕ) → count_below (tests' file) NOFILE + one (is_this file (Some g)) ≡ count_below (tests file) NOFILE
  one-fewer-in file =
      let was : tests file d ≡ is_this file (Some g) = ap (is_this file) names in
      let is : tests' file d ≡ false = ap (is_this file) (get_or-set_same (descriptors_at t slot) d None None (omega (arith, below, long))) in
      let change = count_change NOFILE d (tests' file) (tests file) below (λ e ne. ap (is_this file) (get_or-set_other (descriptors_at t slot) d e None None ne)) in
      omega (arith, change, ap one was, ap one is)

  pub one-fewer : (file : ℕ) → namings t' file + one (is_this file (Some g)) ≡ namings t file
  one-fewer file =
      let change = sum_change 64 slot (λ j. named_in (descriptors_at t' j) file) (λ j. named_in (descriptors_at t j) file) inside (λ j ne. ap (λ ds. named_in ds file) (closed-other j ne)) in
      omega (arith, change, one-fewer-in file, ap (λ ds. named_in ds file) closed-here)

-- the open file counts one fewer
module _ (files : List (Option CountedFile)) (g : ℕ) (table : IsTable files) (e : CountedFile) (is : entry_at files g ≡ Some e) where
  pub inside-files : g < length files
  inside-files = elim (cases_lt g (length files)) [ inl lt ↦ lt | inr ge ↦ absurd (none-some e (sym (get_or_past files g None ge) ∙ is)) ]

  pub fewer-here : entry_at (without_sharer g files) g ≡ once_less e
  fewer-here = get_or-set_same files g (option_and_then once_less (entry_at files g)) None inside-files ∙ ap (option_and_then once_less) is

  pub fewer-other : (f : ℕ) → f ≢ g → entry_at (without_sharer g files) f ≡ entry_at files f
  fewer-other f ne = get_or-set_other files g f (option_and_then once_less (entry_at files g)) None ne

  -- what is left of an entry
  less-count : or_zero (option_map entry_count (once_less e)) + 1 ≡ e.count
  less-count = by (nat_eq e.count 1) refl
    where
      by : (b : Bool) → nat_eq e.count 1 ≡ b → or_zero (option_map entry_count (cond (nat_eq e.count 1) None (Some (record e { count = e.count - 1 })))) + 1 ≡ e.count
      by true one = ap (λ b. or_zero (option_map entry_count (cond b None (Some (record e { count = e.count - 1 })))) + 1) one ∙ sym (eqb-true e.count 1 one)
      by false more = ap (λ b. or_zero (option_map entry_count (cond b None (Some (record e { count = e.count - 1 })))) + 1) more ∙ omega (arith, (table.counts g e is).0)

  less-some : (x : CountedFile) → once_less e ≡ Some x → (x.file ≡ e.file) × (x.count + 1 ≡ e.count) × (e.count ≢ 1)
  less-some x is' = by (nat_eq e.count 1) refl is'
    where
      by : (b : Bool) → nat_eq e.count 1 ≡ b → cond b None (Some (record e { count = e.count - 1 })) ≡ Some x → (x.file ≡ e.file) × (x.count + 1 ≡ e.count) × (e.count ≢ 1)
      by true last never = absurd (none-some x never)
      by false more rest =
          let same : record e { count = e.count - 1 } ≡ x = cc in
          (sym (ap (λ (y : CountedFile). y.file) same), omega (arith, ap (λ (y : CountedFile). y.count) same, (table.counts g e is).0), λ q. false≢true (sym more ∙ eq-eqb e.count 1 q))

  -- open files that are left are those that were
  pub fewer-kept : (f : ℕ) (x : OpenFile) → open_file_at (without_sharer g files) f ≡ Some x → open_file_at files f ≡ Some x
  fewer-kept f x there = elim (cases_eq f g) [
    | inl same ↦ here same (once_less e) refl (sym (ap (option_map entry_file) (ap (entry_at (without_sharer g files)) same ∙ fewer-here)) ∙ there)
    | inr ne ↦ sym (ap (option_map entry_file) (fewer-other f ne)) ∙ there
  ]
    where
      here : f ≡ g → (o : Option CountedFile) → once_less e ≡ o → option_map entry_file o ≡ Some x → open_file_at files f ≡ Some x
      here same None at never = absurd (none-some x never)
      here same (Some y) at seen =
          let file : y.file ≡ x = cc in
          ap (option_map entry_file) (ap (entry_at files) same ∙ is) ∙ ap Some (sym (less-some y at).0 ∙ file)

  pub fewer-table : IsTable (without_sharer g files)
  fewer-table = record {
    places = length-set files g (option_and_then once_less (entry_at files g)) ∙ table.places;
    counts = λ f x at. elim (cases_eq f g) [
      | inl same ↦
          let r = less-some x (sym fewer-here ∙ sym (ap (entry_at (without_sharer g files)) same) ∙ at) in
          let bounds = table.counts g e is in
          (omega (arith, r.1, r.2, bounds.0), omega (arith, r.1, bounds.1))
      | inr ne ↦ table.counts f x (sym (fewer-other f ne) ∙ at)
    ];
  }

  pub fewer-count : (f : ℕ) → or_zero (count_at (without_sharer g files) f) + one (is_this f (Some g)) ≡ or_zero (count_at files f)
  fewer-count f = elim (cases_eq f g) [
    | inl same ↦ ap (λ n. or_zero (count_at (without_sharer g files) n) + one (is_this n (Some g))) same ∙ here ∙ sym (ap (λ n. or_zero (count_at files n)) same)
    | inr ne ↦ omega (arith, ap (λ o. or_zero (option_map entry_count o)) (fewer-other f ne), ap one (not-this ne))
  ]
    where
      not-this : f ≢ g → is_this f (Some g) ≡ false
      not-this ne = elim (eqb_tells g f) [ inl h ↦ absurd (ne (sym h.1)) | inr h ↦ h.0 ]

      here : or_zero (count_at (without_sharer g files) g) + one (is_this g (Some g)) ≡ or_zero (count_at files g)
      here = omega (
        arith,
        ap (λ o. or_zero (option_map entry_count o)) fewer-here,
        less-count,
        ap one (eq-eqb g g refl),
        ap (λ o. or_zero (option_map entry_count o)) is,
      )

-- the counts are right again
pub closed-counted : (files : List (Option CountedFile)) (t t' : Slots) (slot d g : ℕ) (e : CountedFile) → AreCounted files t → IsTable files
    → entry_at files g ≡ Some e → slot < 64 → d < NOFILE → length t.descriptors ≡ 64 → named_by (descriptors_at t slot) d ≡ Some g
    → t'.descriptors ≡ set t.descriptors slot (with_named d None (descriptors_at t slot))
    → ((j : ℕ) → place_is_live (place_at t' j) ≡ place_is_live (place_at t j)) → place_is_live (place_at t slot) ≡ true → AreCounted (without_sharer g files) t'
closed-counted files t t' slot d g e counted table is inside below room names after lives here =
    let long : length (descriptors_at t slot) ≡ NOFILE = counted.lists slot inside in
    record {
      counts = λ f. omega (arith, fewer-count files g table e is f, one-fewer t t' slot d g inside below room long names after f, counted.counts f);
      lists = λ j lt. elim (cases_eq j slot) [
        | inl same ↦ ap (λ n. length (descriptors_at t' n)) same ∙ ap length (closed-here t t' slot d g inside below room long names after) ∙ length-set (descriptors_at t slot) d None ∙ long
        | inr ne ↦ ap length (closed-other t t' slot d g inside below room long names after j ne) ∙ counted.lists j lt
      ];
      closed = λ j dead. elim (cases_eq j slot) [
        | inl same ↦ absurd (false≢true (sym dead ∙ lives j ∙ ap (λ n. place_is_live (place_at t n)) same ∙ here))
        | inr ne ↦ closed-other t t' slot d g inside below room long names after j ne ∙ counted.closed j (sym (lives j) ∙ dead)
      ];
    }

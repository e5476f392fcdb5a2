-- One descriptor more names an open file: the counts are right again.
use Rattle.kcall_core.proofs.Prelude.{ℕ, ◌+◌, ◌<◌, ◌∙◌, ◌≡◌, ◌≢◌, ap, AreCounted, arith, Bool, cases_eq, count_at, count_below, count_change, CountedFile, descriptors_at, entry_count, entry_file}
use Rattle.kcall_core.proofs.Prelude.{eq-eqb, eqb_tells, false, false≢true, get_or, get_or-set_other, get_or-set_same, inl, inr, is_this, length, length-set, List, named_by, named_in, namings, NOFILE}
use Rattle.kcall_core.proofs.Prelude.{None, none_named, once_more, one, open_file_at, Option, option_map, or_zero, place_at, place_is_live, refl, set, SHARERS_MAX, Slots, Some, sum_change, sym, true}
use Rattle.kcall_core.proofs.Prelude.{with_named, with_sharer}
use Rattle.file_table.specs.OpenFiles.{IsTable, entry_at}
use Rattle.kcall_core.proofs.files.Namings.{inside-files}

module _ (t t' : Slots) (slot d g : ℕ) (inside : slot < 64) (below : d < NOFILE) (room : length t.descriptors ≡ 64)
    (long : length (descriptors_at t slot) ≡ NOFILE) (free : named_by (descriptors_at t slot) d ≡ None)
    (after : t'.descriptors ≡ set t.descriptors slot (with_named d (Some g) (descriptors_at t slot))) where
  pub put-here : descriptors_at t' slot ≡ with_named d (Some g) (descriptors_at t slot)
  put-here = ap (λ xs. get_or xs slot none_named) after ∙ get_or-set_same t.descriptors slot (with_named d (Some g) (descriptors_at t slot)) none_named (omega (arith, inside, room))

  pub put-other : (j : ℕ) → j ≢ slot → descriptors_at t' j ≡ descriptors_at t j
  put-other j ne = ap (λ xs. get_or xs j none_named) after ∙ get_or-set_other t.descriptors slot j (with_named d (Some g) (descriptors_at t slot)) none_named ne

  abbrev tests : ℕ → ℕ → Bool
  tests file e = is_this file (named_by (descriptors_at t slot) e)

  abbrev tests' : ℕ → ℕ → Bool
  tests' file e = is_this file (named_by (with_named d (Some g) (descriptors_at t slot)) e)

  one-more-in : (file : ℕ) → count_below (tests' file) NOFILE ≡ count_below (tests file) NOFILE + one (is_this file (Some g))
  one-more-in file =
      let was : tests file d ≡ false = ap (is_this file) free in
      let is : tests' file d ≡ is_this file (Some g) = ap (is_this file) (get_or-set_same (descriptors_at t slot) d (Some g) None (omega (arith, below, long))) in
      let change = count_change NOFILE d (tests' file) (tests file) below (λ e ne. ap (is_this file) (get_or-set_other (descriptors_at t slot) d e (Some g) None ne)) in
      omega (arith, change, ap one was, ap one is)

  pub one-more : (file : ℕ) → namings t' file ≡ namings t file + one (is_this file (Some g))
  one-more file =
      let change = sum_change 64 slot (λ j. named_in (descriptors_at t' j) file) (λ j. named_in (descriptors_at t j) file) inside (λ j ne. ap (λ ds. named_in ds file) (put-other j ne)) in
      omega (arith, change, one-more-in file, ap (λ ds. named_in ds file) put-here)

module _ (files : List (Option CountedFile)) (g : ℕ) (table : IsTable files) (e : CountedFile) (is : entry_at files g ≡ Some e) where
  more-here : entry_at (with_sharer g files) g ≡ Some (once_more e)
  more-here = get_or-set_same files g (option_map once_more (entry_at files g)) None (inside-files files g table e is) ∙ ap (option_map once_more) is

  more-other : (f : ℕ) → f ≢ g → entry_at (with_sharer g files) f ≡ entry_at files f
  more-other f ne = get_or-set_other files g f (option_map once_more (entry_at files g)) None ne

  -- open files are what they were
  pub more-file : (f : ℕ) → open_file_at (with_sharer g files) f ≡ open_file_at files f
  more-file f = elim (cases_eq f g) [
    | inl same ↦ ap (λ n. open_file_at (with_sharer g files) n) same ∙ ap (option_map entry_file) more-here ∙ sym (ap (λ n. open_file_at files n) same ∙ ap (option_map entry_file) is)
    | inr ne ↦ ap (option_map entry_file) (more-other f ne)
  ]

  pub more-table : e.count < SHARERS_MAX → IsTable (with_sharer g files)
  more-table room = record {
    places = length-set files g (option_map once_more (entry_at files g)) ∙ table.places;
    counts = λ f x at. elim (cases_eq f g) [
      | inl same ↦
          let here : Some (once_more e) ≡ Some x = sym more-here ∙ sym (ap (entry_at (with_sharer g files)) same) ∙ at in
          let one-up : once_more e ≡ x = cc in
          (omega (arith, ap (λ (y : CountedFile). y.count) one-up), omega (arith, room, ap (λ (y : CountedFile). y.count) one-up))
      | inr ne ↦ table.counts f x (sym (more-other f ne) ∙ at)
    ];
  }

  pub more-count : (f : ℕ) → or_zero (count_at (with_sharer g files) f) ≡ or_zero (count_at files f) + one (is_this f (Some g))
  more-count f = elim (cases_eq f g) [
    | inl same ↦ ap (λ n. or_zero (count_at (with_sharer g files) n)) same ∙ here ∙ sym (ap (λ n. or_zero (count_at files n) + one (is_this n (Some g))) same)
    | inr ne ↦ omega (arith, ap (λ o. or_zero (option_map entry_count o)) (more-other f ne), ap one (not-this ne))
  ]
    where
      not-this : f ≢ g → is_this f (Some g) ≡ false
      not-this ne = elim (eqb_tells g f) [ inl h ↦ absurd (ne (sym h.1)) | inr h ↦ h.0 ]

      here : or_zero (count_at (with_sharer g files) g) ≡ or_zero (count_at files g) + one (is_this g (Some g))
      here = omega (arith, ap (λ o. or_zero (option_map entry_count o)) more-here, ap one (eq-eqb g g refl), ap (λ o. or_zero (option_map entry_count o)) is)

-- the counts are right again
pub shared-counted : (files : List (Option CountedFile)) (t t' : Slots) (slot d g : ℕ) (e : CountedFile) → AreCounted files t → IsTable files
    → entry_at files g ≡ Some e → slot < 64 → d < NOFILE → length t.descriptors ≡ 64 → named_by (descriptors_at t slot) d ≡ None
    → t'.descriptors ≡ set t.descriptors slot (with_named d (Some g) (descriptors_at t slot))
    → ((j : ℕ) → place_is_live (place_at t' j) ≡ place_is_live (place_at t j)) → place_is_live (place_at t slot) ≡ true → AreCounted (with_sharer g files) t'
shared-counted files t t' slot d g e counted table is inside below room free after lives here =
    let long : length (descriptors_at t slot) ≡ NOFILE = counted.lists slot inside in
    record {
      counts = λ f. omega (arith, more-count files g table e is f, one-more t t' slot d g inside below room long free after f, counted.counts f);
      lists = λ j lt. elim (cases_eq j slot) [
        | inl same ↦ ap (λ n. length (descriptors_at t' n)) same ∙ ap length (put-here t t' slot d g inside below room long free after) ∙ length-set (descriptors_at t slot) d (Some g) ∙ long
        | inr ne ↦ ap length (put-other t t' slot d g inside below room long free after j ne) ∙ counted.lists j lt
      ];
      closed = λ j dead. elim (cases_eq j slot) [
        | inl same ↦ absurd (false≢true (sym dead ∙ lives j ∙ ap (λ n. place_is_live (place_at t n)) same ∙ here))
        | inr ne ↦ put-other t t' slot d g inside below room long free after j ne ∙ counted.closed j (sym (lives j) ∙ dead)
      ];
    }

-- The slot for a new process, as the table finds it and as the process sees it: there is none exactly where the slots are full or the pids are used up, and else it is the lowest that is free.
use Rattle.kcall_core.proofs.Prelude.{ℕ, ◌+◌, ◌<◌, ◌||◌, ◌∙◌, ◌≡◌, ◌≤◌, ap, arith, Bool, both_ways, by_pid, cases_eq, cases_lt, cond, count_below, entries, entry_at, entry_of, false, get, get_or}
use Rattle.kcall_core.proofs.Prelude.{Hart, if◌then◌else◌, inl, inr, insert, is_none, is_some, IsFreeSlot, IsLowestFree, IsSound, Kernel, le-ltb, least_least, least_passes, leb_tells, len, len-empty}
use Rattle.kcall_core.proofs.Prelude.{len-entries, len-insert, length, length-map, List, lt-ltb, nat_cmp, nat_cmp_total, nat_le, nat_lt, None, none-some, none_below, none_from_is_none, NPROC, Option}
use Rattle.kcall_core.proofs.Prelude.{or_right, PID_MAX, place_at, position, Process, put, refl, slot_for_new, slots_are_full, Some, state_of, suc, sym, true, turns_of, view_now, view_of, zero}
use Rattle.kcall_core.proofs.table.ByPid.{none}
use Rattle.kcall_core.proofs.files.Lowest.{least-position}
use Rattle.kcall_core.proofs.files.Room.{count-few}
use Rattle.kcall_core.proofs.table.States.{entry-pid}
use Rattle.kcall_core.proofs.turns.Turned.{slot-is, slot-from}
use Rattle.exec_core.proofs.Prices.{count-all}
use Rattle.kernel_spec.specs.views.Processes as meaning

-- ---- as many pids as slots that are held

module _ {X : Type 0} where
  pub count-held : (g : ℕ → Option (ℕ × X)) (n : ℕ) → ((i j : ℕ) (a b : ℕ × X) → g i ≡ Some a → g j ≡ Some b → a.0 ≡ b.0 → i ≡ j) → len (by_pid g n) ≡ count_below (λ j. is_some (g j)) n
  unfolding by_pid count_below
  count-held g zero apart = len-empty nat_cmp X
  count-held g (suc n) apart = by (g n) refl (count-held g n apart)
    where
      by : (o : Option (ℕ × X)) → g n ≡ o → len (by_pid g n) ≡ count_below (λ j. is_some (g j)) n → len (put (by_pid g n) o) ≡ count_below (λ j. is_some (g j)) n + (if is_some o then 1 else 0)
      by None at same = omega (arith, same)
      by (Some e) at same =
          let new : get (by_pid g n) e.0 ≡ None = none g n e.0 (λ j y lt is pid. let here : j ≡ n = apart j n y e is at (sym pid) in omega (arith, here, lt)) in
          let more : len (insert (by_pid g n) e.0 e.1) ≡ len (by_pid g n) + 1 = len-insert nat_cmp_total (by_pid g n) e.0 e.1
          ∙ ap (λ o. cond (is_some o) (len (by_pid g n)) (len (by_pid g n) + 1)) new in
          omega (arith, same, more)

count-missing : (test : ℕ → Bool) (n i : ℕ) → i < n → test i ≡ false → count_below test n < n
unfolding count_below
count-missing test zero i lt not = absurd (omega arith)
count-missing test (suc n) i lt not = by (test n) refl (λ below. count-missing test n i below not)
  where
    by : (b : Bool) → test n ≡ b → (i < n → count_below test n < n) → count_below test n + (if b then 1 else 0) < suc n
    by false at rest = let few : count_below test n ≤ n = count-few test n in omega (arith, few)
    by true at rest = elim (cases_eq i n) [
      | inl here ↦ absurd (both_ways _ (sym (ap test here) ∙ not) at)
      | inr other ↦ let less : count_below test n < n = rest (omega (arith, lt, other)) in omega (arith, less)
    ]

-- ---- the processes of a kernel

module _ (k : Kernel) (h : Hart) (sound : IsSound k h) where
  entry-some : (j : ℕ) (o : Option Process) → is_some (entry_of k h j o) ≡ is_some o
  entry-some j None = refl
  entry-some j (Some p) = refl

  entries-apart : (i j : ℕ) (a b : ℕ × meaning.Process) → entry_at k h i ≡ Some a → entry_at k h j ≡ Some b → a.0 ≡ b.0 → i ≡ j
  entries-apart i j a b is at same =
      let x = entry-pid k h i (place_at k.table i) a is in
      let y = entry-pid k h j (place_at k.table j) b at in
      sound.table.pids.apart i j x.0 y.0 x.1 y.1 (sym x.2 ∙ same ∙ y.2)

  pids-counted : length (view_now k h).pids ≡ count_below (λ j. is_some (entry_at k h j)) NPROC
  unfolding view_of state_of
  pids-counted =
      let m = by_pid (entry_at k h) NPROC in
      length-map (entries m) (λ (e : ℕ × meaning.Process). e.0) ∙ sym (len-entries m) ∙ count-held (entry_at k h) NPROC entries-apart

  abbrev places-of : List (Option Process)
  places-of = k.table.places

  held-there : (o : Option Process) → is_none o ≡ false → is_some o ≡ true
  held-there None e = let wrong : ⊥ = cc in absurd wrong
  held-there (Some p) e = refl

  full-if : position is_none places-of ≡ None → slots_are_full (view_now k h) ≡ true
  full-if e =
      let passes = none_below (λ d. is_none (get_or places-of d None)) 64 (least-position places-of 64 sound.table.places ∙ e) in
      let all : count_below (λ j. is_some (entry_at k h j)) 64 ≡ 64 =
      count-all 64 (λ j. is_some (entry_at k h j)) (λ j lt. entry-some j (place_at k.table j) ∙ held-there (place_at k.table j) (passes j lt)) in
      elim (leb_tells NPROC (length (view_now k h).pids)) [ inl fits ↦ fits.0 | inr less ↦ absurd (omega (arith, less.1, pids-counted, all)) ]

  pub no-slot : slot_for_new k.table ≡ None → (slots_are_full (view_now k h) || nat_lt PID_MAX (state_of k h).next_pid) ≡ true
  unfolding state_of
  no-slot e = by (nat_le k.table.next PID_MAX) refl e
    where
      by : (b : Bool) → nat_le k.table.next PID_MAX ≡ b → (if b then position is_none places-of else None) ≡ None → (slots_are_full (view_now k h) || nat_lt PID_MAX k.table.next) ≡ true
      by true is absent = ap (λ a. a || nat_lt PID_MAX k.table.next) (full-if absent)
      by false is absent = elim (leb_tells k.table.next PID_MAX) [
        | inl fits ↦ absurd (both_ways _ is fits.0)
        | inr more ↦ ap (λ b. slots_are_full (view_now k h) || b) (lt-ltb PID_MAX k.table.next (omega (arith, more.1))) ∙ or_right (slots_are_full (view_now k h)) true refl
      ]

  -- a slot that the table gives to a new process: it is vacant, and the process sees that there is one
  pub record IsForNew (i : ℕ) : Type 0 where
    pub below : i < 64
    pub vacant : place_at k.table i ≡ None
    pub lowest : IsLowestFree (turns_of k None) i
    pub slots : slots_are_full (view_now k h) ≡ false
    pub pids : nat_lt PID_MAX (state_of k h).next_pid ≡ false

  pub slot-for : (i : ℕ) → slot_for_new k.table ≡ Some i → IsForNew i
  unfolding state_of turns_of
  slot-for i e = by (nat_le k.table.next PID_MAX) refl e
    where
      by : (b : Bool) → nat_le k.table.next PID_MAX ≡ b → (if b then position is_none places-of else None) ≡ Some i → IsForNew i
      by false is at = absurd (none-some i at)
      by true is at =
          let least = least-position places-of 64 sound.table.places ∙ at in
          let found = least_passes 64 (λ d. is_none (get_or places-of d None)) i least in
          let earlier = least_least 64 (λ d. is_none (get_or places-of d None)) i least in
          let vacant : place_at k.table i ≡ None = none_from_is_none (place_at k.table i) found.0 in
          let missing : count_below (λ j. is_some (entry_at k h j)) 64 < 64 = count-missing (λ j. is_some (entry_at k h j)) 64 i found.1 (entry-some i (place_at k.table i) ∙ ap is_some vacant) in
          record {
            below = found.1;
            vacant = vacant;
            lowest = (
              found.1,
              λ p has. let at = slot-from k.table sound.table i p has in none-some at.0 (sym vacant ∙ at.1),
              λ j free. elim (cases_lt j i) [
                | inr more ↦ more
                | inl less ↦ absurd (taken j free (place_at k.table j) refl (earlier j less))
              ],
            );
            slots = elim (leb_tells NPROC (length (view_now k h).pids)) [ inl full ↦ absurd (omega (arith, full.1, pids-counted, missing)) | inr less ↦ less.0 ];
            pids = elim (leb_tells k.table.next PID_MAX) [ inl low ↦ le-ltb PID_MAX k.table.next low.1 | inr more ↦ absurd (both_ways _ more.0 is) ];
          }
        where
          taken : (j : ℕ) → IsFreeSlot (turns_of k None) j → (o : Option Process) → place_at k.table j ≡ o → is_none o ≡ false → ⊥
          taken j free None at not = cc
          taken j free (Some p) at not = free p.pid (slot-is k.table sound.table j p at)

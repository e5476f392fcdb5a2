-- What stands in a slot is what the state has under its pid.
use Rattle.kcall_core.proofs.Prelude.{ℕ, ℤ, ◌<◌, ◌∙◌, ◌≡◌, ◌≤◌, ap, arith, both_ways, by_status, byte_at, byte_in, byte_of, cases_lt, child_at, child_of, child_seen, cond, descriptors_at, each_of}
use Rattle.kcall_core.proofs.Prelude.{entry_at, entry_of, eq-eqb, eqb_tells, fails_before_first, false, get, get_or_past, Hart, HasMemory, held_at, if_live, inl, inr, is_some, is_this, IsLiveIn}
use Rattle.kcall_core.proofs.Prelude.{IsSound, IsTable, Kernel, length, Live, live, live_of, live_part, nat_lt, nat_tests, None, none-some, Option, option_map, parent_at, place_at, place_has_pid}
use Rattle.kcall_core.proofs.Prelude.{position_or_len, Process, process_of, process_parent, refl, registers_of, regs_at, rights_at, rights_in, rights_of, Running, size_of, slot_of, Slots, Some}
use Rattle.kcall_core.proofs.Prelude.{state_of, Status, status_at, status_of, sym, true}
use Rattle.std.proofs.lemmas.List.Quantifiers.{position-Some}
use Rattle.kcall_core.proofs.table.ByPid.{found, none}
use Rattle.kcall_core.proofs.table.States.{entry-pid}

-- the slot that the table finds has a process of this pid
pub slot-found : (t : Slots) (pid i : ℕ) → slot_of t pid ≡ Some i → (p : Process) × (place_at t i ≡ Some p) × (p.pid ≡ pid)
slot-found t pid i is = by (place_at t i) refl (position-Some (place_has_pid pid) t.places i None is).1
  where
    by : (o : Option Process) → place_at t i ≡ o → place_has_pid pid o ≡ true → (p : Process) × (place_at t i ≡ Some p) × (p.pid ≡ pid)
    by None at has = absurd (both_ways _ refl has)
    by (Some p) at has = (p, at, elim (eqb_tells p.pid pid) [ inl h ↦ h.1 | inr h ↦ absurd (both_ways _ h.0 has) ])

-- what the table tells of the process in a slot
pub status-told : (t : Slots) (i : ℕ) (p : Process) (r : Option ℤ) → place_at t i ≡ Some p → status_at t i ≡ Some r → status_of p ≡ r
status-told t i p r is told = let e : Some (status_of p) ≡ Some r = sym (ap (option_map status_of) is) ∙ told in cc

pub parent-told : (t : Slots) (i : ℕ) (p : Process) (r : Option ℕ) → place_at t i ≡ Some p → parent_at t i ≡ Some r → p.parent ≡ r
parent-told t i p r is told = let e : Some p.parent ≡ Some r = sym (ap (option_map process_parent) is) ∙ told in cc

module _ (k : Kernel) (h : Hart) (table : IsTable k.table) where
  entry-inside : (i : ℕ) (p : Process) → place_at k.table i ≡ Some p → i < 64
  entry-inside i p is = elim (cases_lt i 64) [
    | inl lt ↦ lt
    | inr ge ↦ absurd (none-some p (sym (get_or_past k.table.places i None (omega (arith, table.places, ge))) ∙ is))
  ]

  -- the process in a slot
  pub entry-held : (i : ℕ) (p : Process) → place_at k.table i ≡ Some p
      → get (state_of k h).processes p.pid ≡ Some (process_of p (descriptors_at k.table i) (held_at (each_of k.memories) i) (regs_at k h i))
  unfolding state_of
  entry-held i p is =
      found (entry_at k h) 64 i p.pid (process_of p (descriptors_at k.table i) (held_at (each_of k.memories) i) (regs_at k h i)) (entry-inside i p is) (ap (entry_of k h i) is)
      (λ j e lt ne at same. let f = entry-pid k h j (place_at k.table j) e at in ne (table.pids.apart j i f.0 p f.1 is (sym f.2 ∙ sym same)))

  pub live-held : (i : ℕ) (p : Process) → place_at k.table i ≡ Some p → status_of p ≡ None
      → live (state_of k h) p.pid ≡ Some (live_of p (descriptors_at k.table i) (held_at (each_of k.memories) i) (regs_at k h i))
  live-held i p is alive = ap live_part (entry-held i p is)
      ∙ ap (λ o. live_part (Some (by_status p.parent (live_of p (descriptors_at k.table i) (held_at (each_of k.memories) i) (regs_at k h i)) o))) alive

  pub ended-held : (i : ℕ) (p : Process) (status : ℤ) → place_at k.table i ≡ Some p → status_of p ≡ Some status → live (state_of k h) p.pid ≡ None
  ended-held i p status is over = ap live_part (entry-held i p is)
      ∙ ap (λ o. live_part (Some (by_status p.parent (live_of p (descriptors_at k.table i) (held_at (each_of k.memories) i) (regs_at k h i)) o))) over

  -- no slot has a process of this pid
  pub pid-missing : (pid : ℕ) → slot_of k.table pid ≡ None → get (state_of k h).processes pid ≡ None
  unfolding state_of
  pid-missing pid is =
      none (entry_at k h) 64 pid (λ j e lt at same.
      let f = entry-pid k h j (place_at k.table j) e at in
      both_ways _ (fails j (omega (arith, lt, table.places))) (ap (place_has_pid pid) f.1 ∙ eq-eqb f.0.pid pid (sym f.2 ∙ sym same)))
    where
      late : length k.table.places ≤ position_or_len (place_has_pid pid) k.table.places
      late = elim (cases_lt (position_or_len (place_has_pid pid) k.table.places) (length k.table.places)) [
        | inl lt ↦
            let below : nat_lt (position_or_len (place_has_pid pid) k.table.places) (length k.table.places) ≡ true = grind (arith, nat_tests, lt) in
            absurd (none-some (position_or_len (place_has_pid pid) k.table.places) (sym is ∙ ap (λ b. cond b (Some (position_or_len (place_has_pid pid) k.table.places)) None) below))
        | inr ge ↦ ge
      ]

      fails : (j : ℕ) → j < length k.table.places → place_has_pid pid (place_at k.table j) ≡ false
      fails j lt = fails_before_first (place_has_pid pid) k.table.places j None (omega (arith, lt, late))

  -- ---- what observers are told

  pub missing-live : (pid : ℕ) → slot_of k.table pid ≡ None → live (state_of k h) pid ≡ None
  missing-live pid is = ap live_part (pid-missing pid is)

  pub ended-live : (pid i : ℕ) (r : Option ℤ) → slot_of k.table pid ≡ Some i → status_at k.table i ≡ Some r → is_some r ≡ true → live (state_of k h) pid ≡ None
  ended-live pid i r is told some = by r (status-told k.table i f.0 r f.1 told) some
    where
      f : (p : Process) × (place_at k.table i ≡ Some p) × (p.pid ≡ pid)
      f = slot-found k.table pid i is

      by : (o : Option ℤ) → status_of f.0 ≡ o → is_some o ≡ true → live (state_of k h) pid ≡ None
      by None over one = absurd (both_ways _ refl one)
      by (Some status) over one = ap (live (state_of k h)) (sym f.2) ∙ ended-held i f.0 status f.1 over

  module _ (pid i : ℕ) (there : IsLiveIn k pid i) where
    is-live : live (state_of k h) pid ≡ Some (live_of there.0 (descriptors_at k.table i) (held_at (each_of k.memories) i) (regs_at k h i))
    is-live = ap (live (state_of k h)) (sym there.3) ∙ live-held i there.0 there.1 there.2

    pub registers-told : registers_of (state_of k h) pid ≡ Some (regs_at k h i)
    registers-told = ap (option_map (λ (l : Live). l.regs)) is-live

    pub byte-told : (va : ℕ) → byte_at (state_of k h) pid va ≡ byte_of (held_at (each_of k.memories) i).image va
    byte-told va = ap (byte_in va) is-live

    pub size-told : size_of (state_of k h) pid ≡ Some (held_at (each_of k.memories) i).image.size
    size-told = ap (option_map (λ (l : Live). l.image.size)) is-live

    pub rights-told : (vpn : ℕ) → rights_at (state_of k h) pid vpn ≡ rights_of (held_at (each_of k.memories) i).image vpn
    rights-told vpn = ap (rights_in vpn) is-live

    pub child-told : (q : ℕ) → child_at (state_of k h) pid q ≡ child_of pid (get (state_of k h).processes q)
    child-told q = ap (λ o. if_live o (child_of pid (get (state_of k h).processes q))) is-live

  pub child-missing : (pid q : ℕ) → slot_of k.table q ≡ None → child_of pid (get (state_of k h).processes q) ≡ None
  child-missing pid q is = ap (child_of pid) (pid-missing q is)

  pub child-held : (pid q i : ℕ) (parent : Option ℕ) (r : Option ℤ) → slot_of k.table q ≡ Some i → parent_at k.table i ≡ Some parent
      → status_at k.table i ≡ Some r → child_of pid (get (state_of k h).processes q) ≡ cond (is_this pid parent) (Some (child_seen r)) None
  child-held pid q i parent r is told told_status =
      let f = slot-found k.table q i is in
      let l = live_of f.0 (descriptors_at k.table i) (held_at (each_of k.memories) i) (regs_at k h i) in
      ap (λ n. child_of pid (get (state_of k h).processes n)) (sym f.2) ∙ ap (child_of pid) (entry-held i f.0 f.1)
      ∙ ap (λ o. child_of pid (Some (by_status f.0.parent l o))) (status-told k.table i f.0 r f.1 told_status)
      ∙ by r f.0.parent l (parent-told k.table i f.0 parent f.1 told) (parent-told k.table i f.0 parent f.1 told)
    where
      by : (o : Option ℤ) (own : Option ℕ) (l : Live) → own ≡ parent → l.parent ≡ parent → child_of pid (Some (by_status own l o)) ≡ cond (is_this pid parent) (Some (child_seen o)) None
      by None own l e its = ap (λ o. cond (is_this pid o) (Some Running) None) its
      by (Some status) own l e its = ap (λ o. cond (is_this pid o) (Some (Status status)) None) e

-- a live process has a memory
pub live-has : (k : Kernel) (h : Hart) → IsSound k h → (pid i : ℕ) → IsLiveIn k pid i → HasMemory (each_of k.memories) i
live-has k h sound pid i there = sound.lives i there.0 there.1 there.2

-- The turn part that a kernel stands for: the slots of its processes, and those that sleep.
use Rattle.kcall_core.proofs.Prelude.{ℕ, ℤ, ◌<◌, ◌||◌, ◌∙◌, ◌≡◌, ◌⊎◌, Alive, ap, arith, Bool, both_ways, by_pid, by_status, cases_eq, cases_lt, Channel, channel_of, cond, contains, contains-empty}
use Rattle.kcall_core.proofs.Prelude.{contains-insert, descriptors_at, each_of, entry_at, eq-eqb, eqb_tells, false, false≢true, FinSet, get, get-empty, get_or_past, get_other, get_same, Hart}
use Rattle.kcall_core.proofs.Prelude.{HasSlots, held_at, inl, inr, is_some, is_this, IsLive, IsRunning, IsSome, IsSound, IsTable, IsWhole, Kernel, live, live_now, live_of, nat_cmp, nat_cmp_total}
use Rattle.kcall_core.proofs.Prelude.{nat_eq, None, none-some, NPROC, Option, option_map, or_nobody, or_zero, pid_at, pid_now, place_at, place_now, Process, process_of, process_pid, put, refl}
use Rattle.kcall_core.proofs.Prelude.{same_Some, sleeper_in, sleepers_below, slot_entry, slot_now, Slots, slots_of, Some, state_channel, state_of, state_status, status_of, suc, sym, true, turns_of}
use Rattle.kcall_core.proofs.Prelude.{unsigned_tied, with_sleeper, zero}
use Rattle.std.specs.FinSet.{insert}
use Rattle.kcall_core.proofs.table.ByPid.{found, by_pid-same}
use Rattle.kcall_core.proofs.table.States.{entry-pid, running}
use Rattle.kcall_core.proofs.table.Observed.{entry-held, live-held}
use Rattle.proc_table.specs.declared.process.State as table
use Rattle.proc_table.specs.declared.process.State.TheVariants as table_state
use Rattle.kernel_spec.specs.views.Processes as meaning

-- ---- entries by pid

module _ {X : Type 0} where
  last-from : (g : ℕ → Option (ℕ × X)) (n q : ℕ) (x : X) (o : Option (ℕ × X)) → g n ≡ o → (get (by_pid g n) q ≡ Some x → (i : ℕ) × (i < n) × (g i ≡ Some (q, x)))
      → get (put (by_pid g n) o) q ≡ Some x → (i : ℕ) × (i < suc n) × (g i ≡ Some (q, x))
  last-from g n q x None at before is = let r = before is in (r.0, omega (arith, r.1), r.2)
  last-from g n q x (Some e) at before is = elim (cases_eq q e.0) [
    | inl here ↦
        let value : e.1 ≡ x = same_Some e.1 x (sym (ap (get (put (by_pid g n) (Some e))) here ∙ get_same (by_pid g n) e.0 e.1) ∙ is) in
        (n, omega arith, at ∙ (λ i. Some (sym here i, value i)))
    | inr apart ↦ let r = before (sym (get_other (by_pid g n) e.0 e.1 q apart) ∙ is) in (r.0, omega (arith, r.1), r.2)
  ]

  -- what stands under a pid stands in a slot
  pub by_pid-from : (g : ℕ → Option (ℕ × X)) (n q : ℕ) (x : X) → get (by_pid g n) q ≡ Some x → (i : ℕ) × (i < n) × (g i ≡ Some (q, x))
  unfolding by_pid
  by_pid-from g zero q x is = absurd (none-some x (sym (get-empty nat_cmp q) ∙ is))
  by_pid-from g (suc n) q x is = last-from g n q x (g n) refl (by_pid-from g n q x) is

-- ---- sets of sleepers

set-same : (s : FinSet nat_cmp) (k : ℕ) → contains (insert s k) k ≡ true
set-same s k = contains-insert nat_cmp_total s k k ∙ ap (λ b. b || contains s k) (unsigned_tied k k ∙ eq-eqb k k refl)

set-keeps : (o : Option ℕ) (s : FinSet nat_cmp) (q : ℕ) → contains s q ≡ true → contains (with_sleeper o s) q ≡ true
set-keeps None s q is = is
set-keeps (Some k) s q is = contains-insert nat_cmp_total s k q ∙ by (nat_eq q k) (unsigned_tied q k)
  where
    by : (b : Bool) {a : Bool} → a ≡ b → (a || contains s q) ≡ true
    by true e = ap (λ x. x || contains s q) e
    by false e = ap (λ x. x || contains s q) e ∙ is

set-from : (o : Option ℕ) (s : FinSet nat_cmp) (q : ℕ) → contains (with_sleeper o s) q ≡ true → (o ≡ Some q) ⊎ (contains s q ≡ true)
set-from None s q is = inr is
set-from (Some k) s q is = elim (eqb_tells q k) [
  | inl same ↦ inl (ap Some (sym same.1))
  | inr apart ↦ inr (sym (contains-insert nat_cmp_total s k q ∙ ap (λ b. b || contains s q) (unsigned_tied q k ∙ apart.0)) ∙ is)
]

-- the process in a place that has a sleeper
sleeper-is : (o : Option Process) (pid : ℕ) → sleeper_in o ≡ Some pid → (p : Process) × (c : Channel) × (o ≡ Some p) × (p.pid ≡ pid) × (channel_of p ≡ Some c)
sleeper-is None pid is = absurd (none-some pid is)
sleeper-is (Some p) pid is = by (channel_of p) refl is
  where
    by : (o : Option Channel) → channel_of p ≡ o → cond (is_some o) (Some p.pid) None ≡ Some pid → (q : Process) × (c : Channel) × (Some p ≡ Some q) × (q.pid ≡ pid) × (channel_of q ≡ Some c)
    by None at e = absurd (none-some pid e)
    by (Some c) at e = (p, c, refl, same_Some p.pid pid e, at)

-- who sleeps on a channel is live
pub sleeper-lives : (p : Process) (c : Channel) → channel_of p ≡ Some c → status_of p ≡ None
sleeper-lives p c on = by p.state on
  where
    by : (s : table.State) → state_channel s ≡ Some c → state_status s ≡ None
    by (table_state.Live life) on = refl
    by (table_state.Zombie status) on = absurd (none-some c on)

module _ (t : Slots) where
  below-is : (n slot pid : ℕ) → slot < n → sleeper_in (place_at t slot) ≡ Some pid → contains (sleepers_below t n) pid ≡ true
  unfolding sleepers_below
  below-is zero slot pid lt is = absurd (omega arith)
  below-is (suc n) slot pid lt is = elim (cases_eq n slot) [
    | inl e ↦ ap (λ o. contains (with_sleeper o (sleepers_below t n)) pid) (ap (λ j. sleeper_in (place_at t j)) e ∙ is) ∙ set-same (sleepers_below t n) pid
    | inr apart ↦ set-keeps (sleeper_in (place_at t n)) (sleepers_below t n) pid (below-is n slot pid (omega (arith, apart)) is)
  ]

  below-last : (n pid : ℕ) → (sleeper_in (place_at t n) ≡ Some pid) ⊎ (contains (sleepers_below t n) pid ≡ true)
      → (contains (sleepers_below t n) pid ≡ true → (slot : ℕ) × (slot < n) × (sleeper_in (place_at t slot) ≡ Some pid))
      → (slot : ℕ) × (slot < suc n) × (sleeper_in (place_at t slot) ≡ Some pid)
  below-last n pid (inl here) before = (n, omega arith, here)
  below-last n pid (inr lower) before = let r = before lower in (r.0, omega (arith, r.1), r.2)

  below-from : (n pid : ℕ) → contains (sleepers_below t n) pid ≡ true → (slot : ℕ) × (slot < n) × (sleeper_in (place_at t slot) ≡ Some pid)
  unfolding sleepers_below
  below-from zero pid is = let no : true ≡ false = sym is ∙ contains-empty nat_cmp pid in let bad : ⊥ = cc in absurd bad
  below-from (suc n) pid is = below-last n pid (set-from (sleeper_in (place_at t n)) (sleepers_below t n) pid is) (below-from n pid)

-- ---- two tables

-- where all slots have the same pids, all processes have the same slots
pub slots-same : (t u : Slots) → ((slot : ℕ) → pid_at u slot ≡ pid_at t slot) → slots_of u ≡ slots_of t
unfolding slots_of
slots-same t u same = by_pid-same (λ slot. slot_entry slot (place_at t slot)) (λ slot. slot_entry slot (place_at u slot)) NPROC (λ slot. by slot (place_at u slot) (place_at t slot) (same slot))
  where
    by : (slot : ℕ) (a b : Option Process) → option_map process_pid a ≡ option_map process_pid b → slot_entry slot a ≡ slot_entry slot b
    by slot None None e = refl
    by slot None (Some q) e = absurd (none-some q.pid e)
    by slot (Some p) None e = absurd (none-some p.pid (sym e))
    by slot (Some p) (Some q) e = ap (λ n. Some (n, slot)) (same_Some p.pid q.pid e)

-- where the same processes sleep in all slots, the same processes sleep
pub sleepers-same : (t u : Slots) (n : ℕ) → ((slot : ℕ) → sleeper_in (place_at u slot) ≡ sleeper_in (place_at t slot)) → sleepers_below u n ≡ sleepers_below t n
unfolding sleepers_below
sleepers-same t u zero same = refl
sleepers-same t u (suc n) same = ap (λ o. with_sleeper o (sleepers_below u n)) (same n) ∙ ap (with_sleeper (sleeper_in (place_at t n))) (sleepers-same t u n same)

-- a place with the same pid and the same channel has the same sleeper
pub sleeper-same : (p q : Process) → p.pid ≡ q.pid → channel_of p ≡ channel_of q → sleeper_in (Some p) ≡ sleeper_in (Some q)
sleeper-same p q pid on = λ i. cond (is_some (on i)) (Some (pid i)) None

-- ---- one table

module _ (t : Slots) (is_table : IsTable t) where
  -- a slot that has a process is one of the table's
  pub slot-below : (slot : ℕ) (p : Process) → place_at t slot ≡ Some p → slot < 64
  slot-below slot p is = elim (cases_lt slot 64) [
    | inl lt ↦ lt
    | inr ge ↦ absurd (none-some p (sym (get_or_past t.places slot None (omega (arith, is_table.places, ge))) ∙ is))
  ]

  entry-from : (slot pid n : ℕ) (o : Option Process) → slot_entry slot o ≡ Some (pid, n) → (p : Process) × (o ≡ Some p) × (p.pid ≡ pid) × (slot ≡ n)
  entry-from slot pid n None is = absurd (none-some (pid, n) is)
  entry-from slot pid n (Some p) is = let e : (p.pid, slot) ≡ (pid, n) = same_Some (p.pid, slot) (pid, n) is in (p, refl, ap (λ (x : ℕ × ℕ). x.0) e, ap (λ (x : ℕ × ℕ). x.1) e)

  -- the slot of a process
  pub slot-is : (slot : ℕ) (p : Process) → place_at t slot ≡ Some p → get (slots_of t) p.pid ≡ Some slot
  unfolding slots_of
  slot-is slot p is = found (λ j. slot_entry j (place_at t j)) 64 slot p.pid slot (slot-below slot p is) (ap (slot_entry slot) is)
      (λ j e lt ne at same. let f = entry-from j e.0 e.1 (place_at t j) at in ne (is_table.pids.apart j slot f.0 p f.1 is (f.2 ∙ sym same)))

  pub slot-from : (slot pid : ℕ) → get (slots_of t) pid ≡ Some slot → (p : Process) × (place_at t slot ≡ Some p) × (p.pid ≡ pid) × (slot < 64)
  unfolding slots_of
  slot-from slot pid is =
      let r = by_pid-from (λ j. slot_entry j (place_at t j)) 64 pid slot is in
      let f = entry-from r.0 pid slot (place_at t r.0) r.2 in
      let at : place_at t slot ≡ Some f.0 = ap (place_at t) (sym f.3) ∙ f.1 in
      (f.0, at, f.2, slot-below slot f.0 at)

  -- who sleeps
  pub sleeps-is : (slot : ℕ) (p : Process) (c : Channel) → place_at t slot ≡ Some p → channel_of p ≡ Some c → contains (sleepers_below t NPROC) p.pid ≡ true
  sleeps-is slot p c is on = below-is t 64 slot p.pid (slot-below slot p is) (ap sleeper_in is ∙ ap (λ o. cond (is_some o) (Some p.pid) None) on)

  pub sleeps-from : (pid : ℕ) → contains (sleepers_below t NPROC) pid ≡ true → (slot : ℕ) × (p : Process) × (c : Channel) × (place_at t slot ≡ Some p) × (p.pid ≡ pid) × (channel_of p ≡ Some c)
  sleeps-from pid is = let r = below-from t 64 pid is in let f = sleeper-is (place_at t r.0) pid r.2 in (r.0, f.0, f.1, f.2, f.3, f.4)

  -- and who doesn't
  pub awake-is : (slot : ℕ) (p : Process) → place_at t slot ≡ Some p → channel_of p ≡ None → contains (sleepers_below t NPROC) p.pid ≡ false
  awake-is slot p is awake = by (contains (sleepers_below t NPROC) p.pid) refl
    where
      by : (b : Bool) → contains (sleepers_below t NPROC) p.pid ≡ b → b ≡ false
      by false e = refl
      by true e =
          let r = sleeps-from p.pid e in
          let place : Some r.1 ≡ Some p = sym r.3 ∙ ap (place_at t) (is_table.pids.apart r.0 slot r.1 p r.3 is r.4) ∙ is in
          absurd (none-some r.2 (sym awake ∙ ap channel_of (sym (same_Some r.1 p place)) ∙ r.5))

-- ---- the turn part

-- each process has its slot, and who runs doesn't sleep
pub has-slots : (k : Kernel) (h : Hart) (halted : Option ℤ) → IsWhole k h → HasSlots (state_of k h) (turns_of k halted)
unfolding state_of turns_of
has-slots k h halted whole = record {
  some = λ p there. by p (get (state_of k h).processes p) refl there;
  only = λ p slot has. let r = slot-from k.table table slot p has in some-is (entry-held k h table slot r.0 r.1) r.2;
  below = λ p slot has. (slot-from k.table table slot p has).3;
  last = table.last;
  current = λ p is. runs k.current p refl is;
  apart = λ p q slot a b. let r = slot-from k.table table slot p a in let z = slot-from k.table table slot q b in sym r.2 ∙ ap (λ (x : Process). x.pid) (same_Some r.0 z.0 (sym r.1 ∙ z.1)) ∙ z.2;
}
  where
    table : IsTable k.table
    table = whole.sound.table

    some-is : {x : meaning.Process} {n p : ℕ} → get (state_of k h).processes n ≡ Some x → n ≡ p → IsSome (get (state_of k h).processes p)
    some-is {x} {n} {p} is same = ap is_some (ap (get (state_of k h).processes) (sym same) ∙ is)

    by : (p : ℕ) (o : Option meaning.Process) → get (state_of k h).processes p ≡ o → IsSome o → IsSome (get (slots_of k.table) p)
    by p None is there = absurd (false≢true there)
    by p (Some x) is there =
        let r = by_pid-from (entry_at k h) NPROC p x is in
        let e = entry-pid k h r.0 (place_at k.table r.0) (p, x) r.2 in
        ap is_some (ap (get (slots_of k.table)) e.2 ∙ slot-is k.table table r.0 e.0 e.1)

    runs : (o : Option ℕ) (p : ℕ) → k.current ≡ o → option_map (λ _. pid_now k) o ≡ Some p → IsSome (live (state_of k h) p) × ¬ (contains (sleepers_below k.table NPROC) p ≡ true)
    runs None p is e = absurd (none-some p e)
    runs (Some slot) p is e =
        let now = whole.sound.current slot is in
        let same : now.process.pid ≡ p = ap (λ o. (or_nobody o).pid) (sym now.is) ∙ sym (ap (λ o. (or_nobody (place_at k.table (or_zero o))).pid) is) ∙ same_Some (pid_now k) p e in (
          ap is_some (ap (live (state_of k h)) (sym same) ∙ live-held k h table slot now.process now.is now.live),
          λ asleep. both_ways _ (ap (contains (sleepers_below k.table NPROC)) (sym same) ∙ awake-is k.table table slot now.process now.is (whole.awake slot now.process is now.is)) asleep,
        )

-- ---- the process that runs

-- the process that runs is live in the state
pub live-is : (k : Kernel) (h : Hart) → IsSound k h → IsRunning k → IsLive (state_of k h) (pid_now k) (live_now k h)
live-is k h sound runs =
    let r = running k h sound runs in
    let i = slot_now k in
    let p = r.is.process in
    let files = descriptors_at k.table i in
    let held = held_at (each_of k.memories) i in
    let place : p ≡ place_now k = ap or_nobody (sym r.is.is) in
    ap (λ (q : Process). get (state_of k h).processes q.pid) (sym place)
    ∙ entry-held k h sound.table i p r.is.is
    ∙ ap (λ b. Some (process_of p files held (cond b h.regs held.saved))) (ap (is_this i) r.current ∙ eq-eqb i i refl)
    ∙ ap (λ o. Some (by_status p.parent (live_of p files held h.regs) o)) r.is.live
    ∙ ap (λ (q : Process). Some (Alive (live_of q files held h.regs))) place

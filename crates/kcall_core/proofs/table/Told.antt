-- What is told of a process and of a slot, by what the table keeps.
use Rattle.kcall_core.proofs.Prelude.{ℕ, ℤ, ◌∙◌, ◌≡◌, ◌≤◌, ap, arith, Bool, by_status, Call, call_at, call_of, Channel, channel_of, contains, descriptors_at, each_of, get, Hart, HasSlot, held_at}
use Rattle.kcall_core.proofs.Prelude.{IfNone, IfSome, is_asleep, is_marked, is_some, IsFreeSlot, IsTable, Kernel, live_of, mark_at, None, none-some, NPROC, Option, option_map, parent_at, pid_at}
use Rattle.kcall_core.proofs.Prelude.{place_at, Process, process_at, process_of, process_pid, refl, regs_at, same_Some, sleep_at, sleepers_below, Slots, Some, state_of, status_at, subst, sym, told}
use Rattle.kcall_core.proofs.Prelude.{turns_of, world_of}
use Rattle.kcall_core.proofs.table.Observed.{entry-held, parent-told, status-told}
use Rattle.kcall_core.proofs.turns.Turned.{slot-is, slot-from, sleeps-is, awake-is}
use Rattle.kcall_core.specs.declared.kernel.observers.ProcessState.TheVariants as state

asleep-is : (t : Slots) → IsTable t → (i : ℕ) (p : Process) → place_at t i ≡ Some p → contains (sleepers_below t NPROC) p.pid ≡ is_asleep p
asleep-is t table i p is = by (channel_of p) refl
  where
    by : (o : Option Channel) → channel_of p ≡ o → contains (sleepers_below t NPROC) p.pid ≡ is_asleep p
    by None on = awake-is t table i p is on ∙ ap is_some (sym on)
    by (Some c) on = sleeps-is t table i p c is on ∙ ap is_some (sym on)

mark-told : (t : Slots) (i : ℕ) (p : Process) (r : Bool) → place_at t i ≡ Some p → mark_at t i ≡ Some r → is_marked p ≡ r
mark-told t i p r is known = let e : Some (is_marked p) ≡ Some r = sym (ap (option_map is_marked) is) ∙ known in same_Some (is_marked p) r e

sleep-told : (t : Slots) (i : ℕ) (p : Process) (r : Bool) → place_at t i ≡ Some p → sleep_at t i ≡ Some r → is_asleep p ≡ r
sleep-told t i p r is known = let e : Some (is_asleep p) ≡ Some r = sym (ap (option_map is_asleep) is) ∙ known in same_Some (is_asleep p) r e

call-told : (t : Slots) (i : ℕ) (p : Process) (r : Option Call) → place_at t i ≡ Some p → call_at t i ≡ Some r → call_of p ≡ r
call-told t i p r is known = let e : Some (call_of p) ≡ Some r = sym (ap (option_map call_of) is) ∙ known in same_Some (call_of p) r e

module _ (k : Kernel) (h : Hart) (halted : Option ℤ) (table : IsTable k.table) where
  module _ (pid i : ℕ) (p : Process) (is : place_at k.table i ≡ Some p) (named : p.pid ≡ pid) (parent : Option ℕ) (its : parent_at k.table i ≡ Some parent) where
    process-told : process_at (world_of k h halted) pid ≡ Some (told (is_asleep p) (process_of p (descriptors_at k.table i) (held_at (each_of k.memories) i) (regs_at k h i)))
    unfolding turns_of
    process-told =
        ap (λ n. option_map (told (contains (sleepers_below k.table NPROC) n)) (get (state_of k h).processes n)) (sym named)
        ∙ ap (option_map (told (contains (sleepers_below k.table NPROC) p.pid))) (entry-held k h table i p is)
        ∙ ap (λ b. Some (told b (process_of p (descriptors_at k.table i) (held_at (each_of k.memories) i) (regs_at k h i)))) (asleep-is k.table table i p is)

    pub zombie-told : (status : ℤ) → status_at k.table i ≡ Some (Some status) → process_at (world_of k h halted) pid ≡ Some (state.Zombie parent status)
    zombie-told status over =
        process-told
        ∙ ap (λ o. Some (told (is_asleep p) (by_status p.parent
        (live_of p (descriptors_at k.table i) (held_at (each_of k.memories) i) (regs_at k h i)) o))) (status-told k.table i p (Some status) is over)
        ∙ ap (λ o. Some (state.Zombie o status)) (parent-told k.table i p parent is its)

    pub alive-told : (marked asleep : Bool) (call : Option Call) → status_at k.table i ≡ Some None → mark_at k.table i ≡ Some marked → call_at k.table i ≡ Some call → sleep_at k.table i ≡ Some asleep
        → process_at (world_of k h halted) pid ≡ Some (state.Live parent marked call asleep)
    alive-told marked asleep call alive mark calls sleeps =
        process-told
        ∙ ap (λ o. Some (told (is_asleep p) (by_status p.parent (live_of p (descriptors_at k.table i) (held_at (each_of k.memories) i) (regs_at k h i)) o))) (status-told k.table i p None is alive)
        ∙ (λ j. Some (state.Live (parent-told k.table i p parent is its j) (mark-told k.table i p marked is mark j)
        (call-told k.table i p call is calls j) (sleep-told k.table i p asleep is sleeps j)))

  -- ---- slots

  pub slot-held : (slot pid : ℕ) → pid_at k.table slot ≡ Some pid → HasSlot (turns_of k halted) pid slot
  unfolding turns_of
  slot-held slot pid is = by (place_at k.table slot) refl is
    where
      by : (o : Option Process) → place_at k.table slot ≡ o → option_map process_pid o ≡ Some pid → HasSlot (turns_of k halted) pid slot
      by None at e = absurd (none-some pid e)
      by (Some p) at e = subst (λ n. HasSlot (turns_of k halted) n slot) (same_Some p.pid pid e) (slot-is k.table table slot p at)

  pub slot-free : (slot : ℕ) → pid_at k.table slot ≡ None → IsFreeSlot (turns_of k halted) slot
  unfolding turns_of
  slot-free slot is = λ p has.
      let f = slot-from k.table table slot p has in
      none-some f.0.pid (sym is ∙ ap (option_map process_pid) f.1)

  pub slot-past : (slot : ℕ) → NPROC ≤ slot → IsFreeSlot (turns_of k halted) slot
  unfolding turns_of
  slot-past slot past = λ p has. let f = slot-from k.table table slot p has in let no : ⊥ = omega (arith, past, f.3) in no

-- no process has the pid
pub process-missing : (k : Kernel) (h : Hart) (halted : Option ℤ) (pid : ℕ) → get (state_of k h).processes pid ≡ None → process_at (world_of k h halted) pid ≡ None
process-missing k h halted pid is = ap (option_map (told (contains (turns_of k halted).sleepers pid))) is

pub if-some : {X : Type 0} (o : Option X) (P : X → Type 0) → ((x : X) → o ≡ Some x → P x) → IfSome o P
if-some None P h = tt
if-some (Some x) P h = h x refl

pub if-none : {X : Type 0} (o : Option X) (P : Type 0) → (o ≡ None → P) → IfNone o P
if-none None P h = h refl
if-none (Some x) P h = tt

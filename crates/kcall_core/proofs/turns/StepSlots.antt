-- Who has a slot after a step: where it makes no process and takes none away, whoever had it before.
use Rattle.kcall_core.proofs.Prelude.{ℕ, ◌∙◌, ◌≡◌, ap, Contains, get, gone_with, halts_with, Hart, HasSlot, is_listed, is_some, IsLowestFree, IsSome, IsTable, Kernel, keys, MatchOption, None}
use Rattle.kcall_core.proofs.Prelude.{none-some, Option, option_map, Own, pid_now, Process, process_pid, refl, Sleeps, slots_of, Some, State, state_of, subst, sym, true, Turns, turns_of, View}
use Rattle.kcall_core.proofs.table.Observed.{entry-held}
use Rattle.kcall_core.proofs.turns.Turned.{slot-from}

-- who has a slot after the step
pub record SlotsAfter (k : Kernel) (k' : Kernel) (o : Own) : Type 0 where
  pub held : (q : ℕ) → Contains o.left.pids q → IsSome (get (slots_of k.table) q) → get (slots_of k'.table) q ≡ get (slots_of k.table) q
  pub given_up : (q : ℕ) → ¬ Contains o.left.pids q → get (slots_of k'.table) q ≡ None
  pub newborn : MatchOption o.child (Unit {0}) (λ c.
      ((slot : ℕ) × HasSlot (turns_of k' (halts_with (pid_now k) o.answer)) c.pid slot × IsLowestFree (turns_of k None) slot)
      × ¬ Sleeps (turns_of k' (halts_with (pid_now k) o.answer)) c.pid)

-- what a step comes to that makes no process, ends none and takes none away
pub record KeepsAll (s : State) (o : Own) : Type 0 where
  pub child : o.child ≡ None
  pub stays : gone_with o.answer ≡ None
  pub pids : o.left.pids ≡ keys s.processes

-- where no process is made, none is newborn
pub none-born : (before after : Turns) (c : Option View) → c ≡ None → MatchOption c (Unit {0}) (λ c. ((slot : ℕ) × HasSlot after c.pid slot × IsLowestFree before slot) × ¬ Sleeps after c.pid)
none-born before after None e = tt
none-born before after (Some v) e = absurd (none-some v (sym e))

-- a process that changes has its pid
pub same-pid : (f : Process → Process) → ((y : Process) → (f y).pid ≡ y.pid) → (o : Option Process) → option_map process_pid (option_map f o) ≡ option_map process_pid o
same-pid f pids None = refl
same-pid f pids (Some y) = ap Some (pids y)

-- who has a slot is there
pub has-entry : (k : Kernel) (h : Hart) → IsTable k.table → (q slot : ℕ) → get (slots_of k.table) q ≡ Some slot → is_some (get (state_of k h).processes q) ≡ true
has-entry k h is_table q slot e =
    let f = slot-from k.table is_table slot q e in
    ap is_some (ap (get (state_of k h).processes) (sym f.2) ∙ entry-held k h is_table slot f.0 f.1)

-- who isn't there has none
pub no-slot : (k : Kernel) (h : Hart) → IsTable k.table → (q : ℕ) → ¬ Contains (keys (state_of k h).processes) q → get (slots_of k.table) q ≡ None
no-slot k h is_table q absent = by (get (slots_of k.table) q) refl
  where
    by : (o : Option ℕ) → get (slots_of k.table) q ≡ o → o ≡ None
    by None e = refl
    by (Some slot) e = absurd (absent (is_listed (state_of k h).processes q (has-entry k h is_table q slot e)))

pub slots-kept : (k : Kernel) (h : Hart) (k' : Kernel) (o : Own) → IsTable k.table → slots_of k'.table ≡ slots_of k.table → KeepsAll (state_of k h) o → SlotsAfter k k' o
unfolding turns_of
slots-kept k h k' o is_table same keeps = record {
  held = λ q among some. ap (λ m. get m q) same;
  given_up = λ q absent. ap (λ m. get m q) same ∙ no-slot k h is_table q (subst (λ pids. ¬ Contains pids q) keeps.pids absent);
  newborn = none-born (turns_of k None) (turns_of k' (halts_with (pid_now k) o.answer)) o.child keeps.child;
}

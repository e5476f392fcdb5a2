-- The descriptors of the process that runs are closed, one after another.
use Rattle.kcall_core.proofs.Prelude.{ℕ, ◌+◌, ◌∙◌, ◌≡◌, ◌≢◌, Alive, ap, arith, Bool, cases_lt, changed_state, Closes, closes_wake, ClosesFrom, cond, descriptors_at, end_of, eqb_tells, false, fewer_on}
use Rattle.kcall_core.proofs.Prelude.{fewer_on_all, file_of, FinMap, freed_on, freed_on_all, get, get_same, get_without, Hart, inl, inr, insert, insert-twice, insert_again, IsClosing, IsLive, IsSome}
use Rattle.kcall_core.proofs.Prelude.{Kernel, le-ltb, List, Live, live_now, live_part, lt-ltb, ltb, named_by, nat_cmp, nat_eq, nat_lt, NOFILE, None, OpenFile, Option, option_map, or_nobody, or_zero}
use Rattle.kcall_core.proofs.Prelude.{pid_now, Pipe, place_at, Process, refl, Remains, remove, same_live, same_pages, slot_now, Some, State, state_of, subst, suc, sym, target_now, target_of_open}
use Rattle.kcall_core.proofs.Prelude.{true, with_closed, woken_by}
use Rattle.kcall_core.proofs.turns.Turned.{live-is}
use Rattle.kcall_core.proofs.files.Namings.{named-seen, files-kept}
use Rattle.kcall_core.proofs.table.Woken.{woken-none, woken-twice, option-twice}
use Rattle.kcall_core.proofs.files.PipeLeft.{same-wakes, wakes-twice}

-- ---- maps

remove-absent : (m : FinMap nat_cmp ℕ) (k : ℕ) → get m k ≡ None → remove m k ≡ m
remove-absent m k none = same_pages (remove m k) m (λ q. get_without m k q ∙ elim (eqb_tells q k) [
  | inl h ↦ ap (λ b. cond b None (get m q)) h.0 ∙ sym (ap (get m) h.1 ∙ none)
  | inr h ↦ ap (λ b. cond b None (get m q)) h.0
])

-- ---- nothing is closed

stay-places : (m : FinMap nat_cmp Pipe) (o : Option Process) → o ≡ option_map (woken_by (closes_wake m m)) o
stay-places m None = refl
stay-places m (Some p) = ap Some (sym (woken-none (closes_wake m m) (same-wakes m) p))

remains-all : (k : Kernel) (h : Hart) → Remains k h k
remains-all k h = record {
  current = refl;
  last = refl;
  frames = refl;
  files = λ file x is. is;
  ends = λ i end none. none;
  places = λ slot. stay-places (state_of k h).pipes (place_at k.table slot);
}

-- a descriptor that isn't in use
pub unused-closed : {k : Kernel} {h : Hart} {slot d : ℕ} → IsClosing k h → k.current ≡ Some slot → named_by (descriptors_at k.table slot) d ≡ None → Closes k h d k
unused-closed {k} {h} {slot} {d} closing is unused =
    let s = state_of k h in
    let l = live_now k h in
    let p = pid_now k in
    let none : get l.descriptors d ≡ None =
    named-seen (descriptors_at k.table (slot_now k)) d
    ∙ ap (λ o. cond (ltb d NOFILE) o None) (ap (λ n. named_by (descriptors_at k.table n) d) (ap or_zero is) ∙ unused)
    ∙ both (ltb d NOFILE) in
    let target : target_now k h d ≡ None = ap (end_of s) none in
    let free : s.free ≡ s.free + 0 = omega arith in
    record {
      after = closing;
      remains = remains-all k h;
      state =
          (λ t. record s {
            processes = (sym (insert_again s.processes p (Alive l) (live-is k h closing.sound closing.running))
                ∙ ap (λ ds. insert s.processes p (Alive (record l { descriptors = ds }))) (sym (remove-absent l.descriptors d none))) t;
            free = free t;
          })
          ∙ ap (λ o. changed_state p (with_closed d l) s.files (fewer_on o s.pipes) s.console (s.free + freed_on o s.pipes) s) (sym target);
    }
  where
    both : (b : Bool) → cond {A = Option ℕ} b None None ≡ None
    both true = refl
    both false = refl

past-none : (ds : List (Option ℕ)) (d : ℕ) → cond (ltb d NOFILE) (named_by ds d) None ≡ cond (nat_lt d NOFILE) (cond (ltb d NOFILE) (named_by ds d) None) None
past-none ds d = by (ltb d NOFILE)
  where
    by : (b : Bool) → cond b (named_by ds d) None ≡ cond b (cond b (named_by ds d) None) None
    by true = refl
    by false = refl

-- before the first one
pub closes-none : {k : Kernel} {h : Hart} → IsClosing k h → ClosesFrom k h NOFILE k
closes-none {k} {h} closing = record {
  after = closing;
  remains = remains-all k h;
  descriptors = λ d.
      named-seen (descriptors_at k.table (slot_now k)) d
      ∙ past-none (descriptors_at k.table (slot_now k)) d
      ∙ ap (λ o. cond (nat_lt d NOFILE) o None) (sym (named-seen (descriptors_at k.table (slot_now k)) d));
  state = λ t. record (state_of k h) { processes = sym (insert_again (state_of k h).processes (pid_now k) (Alive (live_now k h)) (live-is k h closing.sound closing.running)) t };
  pipes = refl;
  free = refl;
}

-- ---- who runs

pub same-pid : {k k' : Kernel} {h : Hart} → Remains k h k' → pid_now k' ≡ pid_now k
same-pid {k} {k'} {h} remains =
    ap (λ o. (or_nobody (place_at k'.table (or_zero o))).pid) remains.current
    ∙ ap (λ o. (or_nobody o).pid) (remains.places (slot_now k))
    ∙ by (place_at k.table (slot_now k))
  where
    by : (o : Option Process) → (or_nobody (option_map (woken_by (closes_wake (state_of k h).pipes (state_of k' h).pipes)) o)).pid ≡ (or_nobody o).pid
    by None = refl
    by (Some p) = refl

-- it is what the state says
now-is : {k k' : Kernel} {h : Hart} (l : Live) (s : State) (files : FinMap nat_cmp OpenFile) (pipes : FinMap nat_cmp Pipe) (free : ℕ)
    → IsClosing k' h → Remains k h k' → state_of k' h ≡ changed_state (pid_now k) l files pipes s.console free s → live_now k' h ≡ l
now-is {k} {k'} {h} l s files pipes free closing remains state =
    same_live (live_now k' h) l
    (sym (live-is k' h closing.sound closing.running)
    ∙ ap (get (state_of k' h).processes) (same-pid remains)
    ∙ ap (λ (t : State). get t.processes (pid_now k)) state
    ∙ get_same s.processes (pid_now k) (Alive l))

-- ---- one more

joined-remains : {k k1 k2 : Kernel} {h : Hart} → Remains k h k1 → Remains k1 h k2 → Remains k h k2
joined-remains {k} {k1} {k2} {h} first second = record {
  current = second.current ∙ first.current;
  last = second.last ∙ first.last;
  frames = second.frames ∙ first.frames;
  files = λ file x is. first.files file x (second.files file x is);
  ends = λ i end none. second.ends i end (first.ends i end none);
  places = λ slot.
      let m = (state_of k h).pipes in
      let n = (state_of k1 h).pipes in
      let o = (state_of k2 h).pipes in
      second.places slot
      ∙ ap (option_map (woken_by (closes_wake n o))) (first.places slot)
      ∙ option-twice (woken_by (closes_wake m n)) (woken_by (closes_wake n o)) (woken_by (closes_wake m o))
      (woken-twice (closes_wake m n) (closes_wake n o) (closes_wake m o) (wakes-twice m n o (λ j e. first.ends j e) (λ j e. second.ends j e)))
      (place_at k.table slot);
}

-- below a bound, but not one number
below-less : (e d : ℕ) (o : Option ℕ) → cond (nat_eq e d) None (cond (nat_lt e (suc d)) o None) ≡ cond (nat_lt e d) o None
below-less e d o = elim (eqb_tells e d) [
  | inl h ↦ ap (λ b. cond b None (cond (nat_lt e (suc d)) o None)) h.0 ∙ sym (ap (λ b. cond b o None) (le-ltb e d (omega (arith, h.1))))
  | inr h ↦ ap (λ b. cond b None (cond (nat_lt e (suc d)) o None)) h.0 ∙ elim (cases_lt e d) [
    | inl lt ↦ ap (λ b. cond b o None) (lt-ltb e (suc d) (omega (arith, lt)) ∙ sym (lt-ltb e d lt))
    | inr ge ↦ let ne : e ≢ d = h.1 in ap (λ b. cond b o None) (le-ltb e (suc d) (omega (arith, ge, ne)) ∙ sym (le-ltb e d ge))
  ]
]

module _ {k k1 k2 : Kernel} {h : Hart} (d : ℕ) (closing : IsClosing k h) (first : ClosesFrom k h (suc d) k1) (second : Closes k1 h d k2) where
  live-first : live_now k1 h ≡ record (live_now k h) { descriptors = (live_now k1 h).descriptors }
  live-first = now-is (record (live_now k h) { descriptors = (live_now k1 h).descriptors }) (state_of k h) (state_of k1 h).files
      (state_of k1 h).pipes (state_of k1 h).free first.after first.remains first.state

  live-second : live_now k2 h ≡ with_closed d (live_now k1 h)
  live-second =
      now-is (with_closed d (live_now k1 h)) (state_of k1 h) (state_of k2 h).files (fewer_on (target_now k1 h d) (state_of k1 h).pipes)
      ((state_of k1 h).free + freed_on (target_now k1 h d) (state_of k1 h).pipes) second.after second.remains second.state

  next-descriptors : (e : ℕ) → get (live_now k2 h).descriptors e ≡ cond (nat_lt e d) (get (live_now k h).descriptors e) None
  next-descriptors e =
      ap (λ (l : Live). get l.descriptors e) live-second
      ∙ get_without (live_now k1 h).descriptors d e
      ∙ ap (λ o. cond (nat_eq e d) None o) (first.descriptors e)
      ∙ below-less e d (get (live_now k h).descriptors e)

  here : get (live_now k1 h).descriptors d ≡ get (live_now k h).descriptors d
  here = first.descriptors d ∙ ap (λ b. cond b (get (live_now k h).descriptors d) None) (lt-ltb d (suc d) (omega arith))

  same-end : (o : Option ℕ) → get (live_now k1 h).descriptors d ≡ o → end_of (state_of k1 h) o ≡ end_of (state_of k h) o
  same-end None is = refl
  same-end (Some f) is =
      let live : IsLive (state_of k1 h) (pid_now k1) (live_now k1 h) = live-is k1 h first.after.sound first.after.running in
      let used = first.after.well.descriptors (pid_now k1) d f (ap (λ o. file_of (live_part o) d) live ∙ is) in
      by (get (state_of k1 h).files f) refl used.1
    where
      by : (o : Option OpenFile) → get (state_of k1 h).files f ≡ o → IsSome o → target_of_open (get (state_of k1 h).files f) ≡ target_of_open (get (state_of k h).files f)
      by None at some = let no : ⊥ = cc in absurd no
      by (Some x) at some = ap target_of_open at ∙ ap target_of_open (sym (files-kept k k1 h h first.remains.files f x at))

  same-target : target_now k1 h d ≡ end_of (state_of k h) (get (live_now k h).descriptors d)
  same-target = same-end (get (live_now k1 h).descriptors d) refl ∙ ap (end_of (state_of k h)) here

  pipes-next : (state_of k2 h).pipes ≡ fewer_on (end_of (state_of k h) (get (live_now k h).descriptors d)) (state_of k1 h).pipes
  pipes-next = ap (λ (t : State). t.pipes) second.state ∙ ap (λ o. fewer_on o (state_of k1 h).pipes) same-target

  free-next : (state_of k2 h).free ≡ (state_of k1 h).free + freed_on (end_of (state_of k h) (get (live_now k h).descriptors d)) (state_of k1 h).pipes
  free-next = ap (λ (t : State). t.free) second.state ∙ ap (λ o. (state_of k1 h).free + freed_on o (state_of k1 h).pipes) same-target

  processes-next : (state_of k2 h).processes ≡ insert (state_of k h).processes (pid_now k) (Alive (record (live_now k h) { descriptors = (live_now k2 h).descriptors }))
  processes-next =
      let s = state_of k h in
      let p = pid_now k in
      let last : with_closed d (live_now k1 h) ≡ record (live_now k h) { descriptors = (live_now k2 h).descriptors } =
      (λ t. record (live-first t) { descriptors = remove (live_now k1 h).descriptors d })
      ∙ ap (λ ds. record (live_now k h) { descriptors = ds }) (ap (λ (l : Live). l.descriptors) (sym live-second)) in
      ap (λ (t : State). t.processes) second.state
      ∙ ap (λ n. insert (state_of k1 h).processes n (Alive (with_closed d (live_now k1 h)))) (same-pid first.remains)
      ∙ ap (λ (t : State). insert t.processes p (Alive (with_closed d (live_now k1 h)))) first.state
      ∙ insert-twice s.processes p (Alive (record (live_now k h) { descriptors = (live_now k1 h).descriptors })) (Alive (with_closed d (live_now k1 h)))
      ∙ ap (λ l. insert s.processes p (Alive l)) last

  pub closes-next : ClosesFrom k h d k2
  unfolding fewer_on_all freed_on_all
  closes-next =
      let s = state_of k h in
      let l = live_now k h in
      let target = end_of s (get l.descriptors d) in
      let pipes1 = (state_of k1 h).pipes in
      record {
        after = second.after;
        remains = joined-remains first.remains second.remains;
        descriptors = next-descriptors;
        state = λ t. record {
          processes = processes-next t;
          files = (state_of k2 h).files;
          pipes = (state_of k2 h).pipes;
          console = (ap (λ (u : State). u.console) second.state ∙ ap (λ (u : State). u.console) first.state) t;
          clock = (ap (λ (u : State). u.clock) second.state ∙ ap (λ (u : State). u.clock) first.state) t;
          next_pid = (ap (λ (u : State). u.next_pid) second.state ∙ ap (λ (u : State). u.next_pid) first.state) t;
          free = (state_of k2 h).free;
          programs = (ap (λ (u : State). u.programs) second.state ∙ ap (λ (u : State). u.programs) first.state) t;
        };
        pipes = ap (λ m. fewer_on_all s l d m) pipes-next ∙ first.pipes;
        free = omega (arith, free-next, ap (λ m. freed_on_all s l d m) pipes-next, first.free);
      }

-- by the numbers of a loop
pub closes-on : {k k1 k2 : Kernel} {h : Hart} (n m d : ℕ) → n ≡ suc d → m ≡ d → IsClosing k h → ClosesFrom k h n k1 → Closes k1 h d k2 → ClosesFrom k h m k2
closes-on {k} {k1} {k2} {h} n m d up down closing first second = subst (λ i. ClosesFrom k h i k2) (sym down) (closes-next d closing (subst (λ i. ClosesFrom k h i k1) up first) second)

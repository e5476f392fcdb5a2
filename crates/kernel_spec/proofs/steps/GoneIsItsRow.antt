-- A process that goes: it is the step that its row tells.
use Rattle.kernel_spec.proofs.Prelude.{ℕ, ℤ, ◌+◌, ◌-◌, ◌<◌, ◌||◌, ◌∙◌, ◌≡◌, ◌≢◌, ◌≤◌, Alive, all_closed, Answer, ap, arith, Bool, Child, child_of, cond, Descriptors, ends, eq-eqb, eqb_tells, false}
use Rattle.kernel_spec.proofs.Prelude.{FinMap, get, given_to, gone, gone_state, gone_with, inl, inr, is_given_up, is_some, is_this, keys, Live, live, live_part, named, nat_cmp, nat_cmp_total, nat_eq}
use Rattle.kernel_spec.proofs.Prelude.{NOFILE, None, numbered, OpenFile, Option, option_map, option_or, or_gone, orphan, orphans, parent_of, parted, Pipe, pipe_at, price, Process, Reading, refl}
use Rattle.kernel_spec.proofs.Prelude.{Running, seen_children, Some, State, Status, subst, sym, true, view, view_of, Writing, Zombie}
use Rattle.kernel_spec.proofs.steps.SeenByParts.{pipe_of_file, file_of, same_child}
use Rattle.kernel_spec.proofs.steps.MapsAfterChange.{get_at, get_same, keys_insert}
use Rattle.kernel_spec.proofs.steps.OthersTableIsSeen.{Tells, OtherHas, OtherNames}
use Rattle.kernel_spec.proofs.steps.TableTells.{Leaves}
use Rattle.kernel_spec.proofs.steps.ForkExitCountEnds.{named_all_closed}
use Rattle.kernel_spec.proofs.steps.PipeChangeIsTold.{changed_tells, changed_spares}
use Rattle.kernel_spec.proofs.steps.EndsAreCounted.{among_nobody}
use Rattle.kernel_spec.proofs.steps.ClosingCountsDown.{kept, fewer, get-fewer_on_all, freed_is}
use Rattle.kernel_spec.proofs.steps.OrphansKeepKeys.{get-orphans, keys-orphans}
use Rattle.kernel_spec.proofs.Common.{alive_part, or_false, this_is, this_is_not}

-- what has to be known of a state for a process of it to go
pub record CanGo (s : State) (p : ℕ) (l : Live) : Type 0 where
  pub parent : l.parent ≢ Some p
  -- an end of a pipe names a pipe
  pub pipes : (d j : ℕ) → pipe_of_file s (get l.descriptors d) ≡ Some j → (x : Pipe) × (get s.pipes j ≡ Some x)
  -- a pipe's counts are at least the process's own, and more where another process has it
  pub counts : (j : ℕ) (x : Pipe) → get s.pipes j ≡ Some x → (ends (numbered s l) j Reading ≤ x.readers) × (ends (numbered s l) j Writing ≤ x.writers) × (is_given_up x ≡ false)
  pub held : (j : ℕ) (x : Pipe) → OtherHas s p j → get s.pipes j ≡ Some x → is_given_up (fewer s l j x) ≡ false

-- ---- children

pub turn : (a b : ℕ) → nat_eq a b ≡ nat_eq b a
turn a b = elim (eqb_tells a b) [
  | inl h ↦ h.0 ∙ sym (eq-eqb b a (sym h.1))
  | inr h ↦ h.0 ∙ elim (eqb_tells b a) [ inl g ↦ absurd (h.1 (sym g.1)) | inr g ↦ sym g.0 ]
]

pub not_this : (q p : ℕ) → q ≢ p → nat_eq p q ≡ false
not_this q p h = elim (eqb_tells p q) [ inl g ↦ absurd (h (sym g.1)) | inr g ↦ g.0 ]

nothing_more : (c : Option Child) (b : Bool) → c ≡ option_or c (cond b None None)
nothing_more None true = refl
nothing_more None false = refl
nothing_more (Some x) b = refl

orphan_child : (q p : ℕ) → q ≢ p → (b : Bool) (x : Process) → is_this p (parent_of x) ≡ b
    → child_of q (Some (cond b (given_to 1 x) x)) ≡ option_or (child_of q (Some x)) (cond (nat_eq q 1) (child_of p (Some x)) None)
orphan_child q p other true (Alive l) e =
    let mine : l.parent ≡ Some p = this_is p l.parent e in
    (ap (λ (b : Bool). cond b (Some Running) None) (turn 1 q) ∙ given (nat_eq q 1))
    ∙ (λ i. option_or (cond (sym (not_this q p other) i) (Some Running) None) (cond (nat_eq q 1) (cond (sym (eq-eqb p p refl) i) (Some Running) None) None))
    ∙ (λ i. option_or (cond (is_this q (sym mine i)) (Some Running) None) (cond (nat_eq q 1) (cond (is_this p (sym mine i)) (Some Running) None) None))
  where
    given : (b : Bool) → cond b (Some Running) None ≡ option_or None (cond b (Some Running) None)
    given true = refl
    given false = refl
orphan_child q p other true (Zombie parent status) e =
    let mine : parent ≡ Some p = this_is p parent e in
    (ap (λ (b : Bool). cond b (Some (Status status)) None) (turn 1 q) ∙ given (nat_eq q 1))
    ∙ (λ i. option_or (cond (sym (not_this q p other) i) (Some (Status status)) None) (cond (nat_eq q 1) (cond (sym (eq-eqb p p refl) i) (Some (Status status)) None) None))
    ∙ (λ i. option_or (cond (is_this q (sym mine i)) (Some (Status status)) None) (cond (nat_eq q 1) (cond (is_this p (sym mine i)) (Some (Status status)) None) None))
  where
    given : (b : Bool) → cond b (Some (Status status)) None ≡ option_or None (cond b (Some (Status status)) None)
    given true = refl
    given false = refl
orphan_child q p other false (Alive l) e = nothing_more (child_of q (Some (Alive l))) (nat_eq q 1)
    ∙ (λ i. option_or (child_of q (Some (Alive l))) (cond (nat_eq q 1) (cond (sym e i) (Some Running) None) None))
orphan_child q p other false (Zombie parent status) e = nothing_more (child_of q (Some (Zombie parent status))) (nat_eq q 1)
    ∙ (λ i. option_or (child_of q (Some (Zombie parent status))) (cond (nat_eq q 1) (cond (sym e i) (Some (Status status)) None) None))

-- the child that is gone itself
gone_child : (q p : ℕ) (parent : Option ℕ) (status : ℤ) → parent ≢ Some p
    → cond (is_this q parent) (Some (Status status)) None ≡ option_or (same_child (cond (is_this q parent) (Some Running) None) (Status status))
    (cond (nat_eq q 1) (cond (is_this p parent) (Some Running) None) None)
gone_child q p parent status own = by (is_this q parent) (nat_eq q 1)
    ∙ (λ i. option_or (same_child (cond (is_this q parent) (Some Running) None) (Status status))
    (cond (nat_eq q 1) (cond (sym (this_is_not p parent own) i) (Some Running) None) None))
  where
    by : (a b : Bool) → cond a (Some (Status status)) None ≡ option_or (same_child (cond a (Some Running) None) (Status status)) (cond b (cond false (Some Running) None) None)
    by true b = refl
    by false true = refl
    by false false = refl

module _ (s : State) (p : ℕ) (old : Live) (was : get s.processes p ≡ Some (Alive old)) (can : CanGo s p old) (answer : Answer) (status : ℤ) (ends_with : gone_with answer ≡ Some status)
    (files : FinMap nat_cmp OpenFile) (spared : (g : ℕ) → OtherNames s p g → get files g ≡ get s.files g) where
  abbrev pub after : State
  after = gone_state p old status files s

  is_live : live s p ≡ Some old
  is_live = ap live_part was

  -- ---- pipes

  here : (e j : ℕ) → pipe_at s p e ≡ Some j → pipe_of_file s (get old.descriptors e) ≡ Some j
  here e j h = sym (ap (λ (l : Option Live). pipe_of_file s (file_of l e)) is_live) ∙ h

  there : (e j : ℕ) → pipe_of_file s (get old.descriptors e) ≡ Some j → pipe_at s p e ≡ Some j
  there e j h = ap (λ (l : Option Live). pipe_of_file s (file_of l e)) is_live ∙ h

  pub pipe_after : (j : ℕ) → get after.pipes j ≡ kept (option_map (fewer s old j) (get s.pipes j))
  pipe_after j = get-fewer_on_all s old can.pipes can.counts j

  shared_pipe : (e j : ℕ) → OtherHas s p j → e < NOFILE → pipe_at s p e ≡ Some j → or_gone (get after.pipes j) ≡ fewer s old j (or_gone (get s.pipes j))
  shared_pipe e j other below h =
      let x = can.pipes e j (here e j h) in
      ap or_gone (pipe_after j ∙ ap (λ (o : Option Pipe). kept (option_map (fewer s old j) o)) (x.1) ∙ ap (λ (b : Bool). cond b None (Some (fewer s old j x.0))) (can.held j x.0 other x.1))
      ∙ sym (ap (λ (o : Option Pipe). fewer s old j (or_gone o)) (x.1))

  pub other_pipe : (j : ℕ) → ((e : ℕ) → e < NOFILE → pipe_at s p e ≢ Some j) → (o : Option Pipe) → get s.pipes j ≡ o → kept (option_map (fewer s old j) o) ≡ o
  other_pipe j nobody None is = refl
  other_pipe j nobody (Some x) is =
      let r : ends (numbered s old) j Reading ≡ 0 = among_nobody s old NOFILE j Reading (λ e below h. nobody e below (there e j h)) in
      let w : ends (numbered s old) j Writing ≡ 0 = among_nobody s old NOFILE j Writing (λ e below h. nobody e below (there e j h)) in
      (λ i. kept (Some (parted (parted x Reading (r i)) Writing (w i))))
      ∙ (let a : x.readers - 0 ≡ x.readers = omega arith in let b : x.writers - 0 ≡ x.writers = omega arith in λ i. kept (Some (record x { readers = a i; writers = b i })))
      ∙ ap (λ (b : Bool). cond b None (Some x)) ((can.counts j x is).2)

  gone_tells : Tells s after p (all_closed (named (numbered s old)))
  gone_tells = subst (λ (t : Descriptors). Tells s after p t) (named_all_closed (numbered s old)) (changed_tells s after p old is_live (fewer s old) spared shared_pipe)

  -- ---- processes

  process_at : (r : ℕ) → get after.processes r ≡ cond (nat_eq r p) (Some (Zombie old.parent status)) (option_map (orphan p) (get s.processes r))
  process_at r = get_at (orphans p s).processes p (Zombie old.parent status) r ∙ ap (cond (nat_eq r p) (Some (Zombie old.parent status))) (get-orphans p s r)

  pub pids_after : keys after.processes ≡ keys s.processes
  pids_after = keys_insert nat_cmp_total (orphans p s).processes p (Zombie old.parent status) (ap is_some (get-orphans p s p ∙ ap (option_map (orphan p)) was)) ∙ keys-orphans p s

  other_child : (q r : ℕ) → q ≢ p → (o : Option Process) → child_of q (option_map (orphan p) o) ≡ option_or (child_of q o) (cond (nat_eq q 1) (child_of p o) None)
  other_child q r other None = nothing_more None (nat_eq q 1)
  other_child q r other (Some x) = orphan_child q p other (is_this p (parent_of x)) x refl

  children_after : (q r : ℕ) → q ≢ p
      → child_of q (get after.processes r) ≡ option_or (cond (nat_eq r p) (same_child (child_of q (get s.processes r)) (Status status))
      (child_of q (get s.processes r))) (cond (nat_eq q 1) (child_of p (get s.processes r)) None)
  children_after q r other = ap (child_of q) (process_at r) ∙ elim (eqb_tells r p) [
    | inl h ↦
        let at_p : get s.processes r ≡ Some (Alive old) = ap (get s.processes) h.1 ∙ was in
        ap (λ (b : Bool). child_of q (cond b (Some (Zombie old.parent status)) (option_map (orphan p) (get s.processes r)))) h.0
        ∙ gone_child q p old.parent status can.parent
        ∙ sym (ap (λ (b : Bool). option_or (cond b (same_child (child_of q (get s.processes r)) (Status status)) (child_of q (get s.processes r)))
        (cond (nat_eq q 1) (child_of p (get s.processes r)) None)) h.0
        ∙ ap (λ (o : Option Process). option_or (same_child (child_of q o) (Status status)) (cond (nat_eq q 1) (child_of p o) None)) at_p)
    | inr h ↦
        ap (λ (b : Bool). child_of q (cond b (Some (Zombie old.parent status)) (option_map (orphan p) (get s.processes r)))) h.0
        ∙ other_child q r other (get s.processes r)
        ∙ sym (ap (λ (b : Bool). option_or (cond b (same_child (child_of q (get s.processes r)) (Status status)) (child_of q (get s.processes r)))
        (cond (nat_eq q 1) (child_of p (get s.processes r)) None)) h.0)
  ]

  orphan_live : (m : Live) (b : Bool) → live_part (Some (cond b (given_to 1 (Alive m)) (Alive m))) ≡ Some (record m { killed = m.killed || false; parent = cond b (Some 1) m.parent })
  orphan_live m true = λ i. Some (record m { parent = Some 1; killed = or_false m.killed i })
  orphan_live m false = λ i. Some (record m { killed = or_false m.killed i })

  process_there : (q : ℕ) (m : Live) → q ≢ p → live s q ≡ Some m → get after.processes q ≡ Some (orphan p (Alive m))
  process_there q m other is = process_at q ∙ elim (eqb_tells q p) [
    | inl h ↦ absurd (other h.1)
    | inr h ↦ ap (λ (b : Bool). cond b (Some (Zombie old.parent status)) (option_map (orphan p) (get s.processes q))) h.0 ∙ ap (option_map (orphan p)) (alive_part (get s.processes q) m is)
  ]

  keeps_after : (q : ℕ) (m : Live) → q ≢ p → live s q ≡ Some m → live after q ≡ Some (record m { killed = m.killed || false; parent = cond (is_this p m.parent) (Some 1) m.parent })
  keeps_after q m other is = ap live_part (process_there q m other is) ∙ orphan_live m (is_this p m.parent)

  -- ---- what every other process sees

  pub gone_leaves : Leaves s after (view_of s p old) (gone answer (view_of s p old))
  unfolding view_of
  gone_leaves = record {
    tells = gone_tells;
    spares = changed_spares s after p old is_live (fewer s old) spared shared_pipe (λ j other nobody. pipe_after j ∙ other_pipe j nobody (get s.pipes j) refl);
    keeps = λ q m other is. (cond (is_this p m.parent) (Some 1) m.parent, keeps_after q m other is);
    children = λ q m other is r. children_after q r other ∙ sym (ap (λ (g : Option ℤ). seen_children g (view_of s p old) (view_of s q m) r) ends_with);
    pids = pids_after;
    console = refl;
    next_pid = refl;
    free = ap (λ (n : ℕ). s.free + price old.image + 1 + n) (freed_is s old can.pipes can.counts);
    clock = refl;
    programs = refl;
  }

  pub view_gone : view after p ≡ None
  view_gone = ap (λ (o : Option Process). option_map (view_of after p) (live_part o)) (get_same (orphans p s).processes p (Zombie old.parent status))

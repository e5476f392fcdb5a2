-- Fork: it is the step that its row tells.
use Rattle.kernel_spec.proofs.Prelude.{[], ℕ, ◌++◌, ◌<◌, ◌||◌, ◌∙◌, ◌∷◌, ◌≡◌, ◌≢◌, Alive, ap, arith, Bool, Call, Called, Child, child_of, cond, doubled, ends, eq-eqb, eqb_tells, false, fork}
use Rattle.kernel_spec.proofs.Prelude.{forked_child, forked_state, forking, fun_ext, get, goes_on, inl, inr, insert, is_some, IsSome, joined, keys, Live, live, live_part, named, nat_eq, NOFILE, None}
use Rattle.kernel_spec.proofs.Prelude.{numbered, Option, option_map, or_gone, Own, parent_of, Pipe, pipe_at, pos, Process, Reading, refl, Running, Some, State, Status, sym, true, View, view, view_of}
use Rattle.kernel_spec.proofs.Prelude.{with_value, Writing, Zombie}
use Rattle.kernel_spec.proofs.steps.SeenByParts.{pipe_of_file, file_of, descriptor_at}
use Rattle.kernel_spec.proofs.steps.MapsAfterChange.{get_at, get_same, get_other, keys_push}
use Rattle.kernel_spec.proofs.steps.ViewsAfterSetLive.{same_child, same_keys, live-set_live_there}
use Rattle.kernel_spec.proofs.steps.TableTells.{Leaves, own_table_tells}
use Rattle.kernel_spec.proofs.steps.ForkExitCountEnds.{named_doubled}
use Rattle.kernel_spec.proofs.steps.PipeChangeIsTold.{became}
use Rattle.kernel_spec.proofs.steps.EndsAreCounted.{plus, among, get-more_on_all, more_on_none}
use Rattle.kernel_spec.proofs.rows.RowParts.{forked, cannot_fork, unless}
use Rattle.kernel_spec.proofs.rows.RowsByParts.{fork_same}
use Rattle.kernel_spec.proofs.Common.{or_false, this_is_not}

-- what has to be known of a state for a process of it to fork
pub record CanFork (s : State) (l : Live) : Type 0 where
  -- pids in use are below the next one, which is nobody's parent
  pub below : (q : ℕ) → IsSome (get s.processes q) → q < s.next_pid
  pub unknown : (r : ℕ) (x : Process) → get s.processes r ≡ Some x → parent_of x ≢ Some s.next_pid
  -- an end of a pipe names a pipe
  pub pipes : (d j : ℕ) → pipe_of_file s (get l.descriptors d) ≡ Some j → (x : Pipe) × (get s.pipes j ≡ Some x)

none_of : (o : Option Process) (n m : ℕ) → (IsSome o → n < m) → n ≡ m → o ≡ None
none_of None n m h e = refl
none_of (Some x) n m h e = let b : n < m = h refl in absurd (omega arith)

child_cond : (q : ℕ) (b : Bool) (x y : Option Process) → child_of q (cond b x y) ≡ cond b (child_of q x) (child_of q y)
child_cond q true x y = refl
child_cond q false x y = refl

no_child : (q : ℕ) (o : Option Process) → ((x : Process) → o ≡ Some x → parent_of x ≢ Some q) → child_of q o ≡ None
no_child q None h = refl
no_child q (Some (Alive l)) h = ap (λ (b : Bool). cond b (Some Running) None) (this_is_not q l.parent (h (Alive l) refl))
no_child q (Some (Zombie parent status)) h = ap (λ (b : Bool). cond b (Some (Status status)) None) (this_is_not q parent (h (Zombie parent status) refl))

pub live_some : (o : Option Process) (m : Live) → live_part o ≡ Some m → IsSome o
live_some None m h = let no : ⊥ = cc in absurd no
live_some (Some x) m h = refl

module _ (s : State) (p : ℕ) (old : Live) (was : get s.processes p ≡ Some (Alive old)) (c : Call) (can : CanFork s old) where
  abbrev pub after : State
  after = forked_state p old s

  abbrev parent : Live
  parent = forking s old

  abbrev child : Live
  child = forked_child s p old

  pub fresh : get s.processes s.next_pid ≡ None
  fresh = none_of (get s.processes s.next_pid) s.next_pid s.next_pid (can.below s.next_pid) refl

  apart : p ≢ s.next_pid
  apart e = let b : p < s.next_pid = can.below p (ap is_some was) in absurd (omega arith)

  -- ---- the pipes, and the tables of parent and child

  abbrev counted : ℕ → Pipe → Pipe
  counted j x = joined (joined x Reading (ends (numbered s old) j Reading)) Writing (ends (numbered s old) j Writing)

  pipe_became : (j : ℕ) (x : Pipe) → get s.pipes j ≡ Some x → or_gone (get after.pipes j) ≡ counted j (or_gone (get s.pipes j))
  pipe_became j x is =
      ap or_gone (get-more_on_all s old NOFILE j ∙ ap (option_map (λ (x : Pipe). plus x (among s old NOFILE j Reading) (among s old NOFILE j Writing))) is)
      ∙ sym (ap (λ (o : Option Pipe). counted j (or_gone o)) is)

  table_after : (l : Live) → ((d : ℕ) → get l.descriptors d ≡ get old.descriptors d) → numbered after l ≡ doubled (numbered s old)
  table_after l same = fun_ext (λ d. ap (descriptor_at after) (same d)
      ∙ became s after counted (get old.descriptors d) (λ g e. refl) (λ j h. pipe_became j ((can.pipes d j h).0) ((can.pipes d j h).1)))

  shown_after : (l : Live) → ((d : ℕ) → get l.descriptors d ≡ get old.descriptors d) → doubled (named (numbered s old)) ≡ named (numbered after l)
  shown_after l same = sym (named_doubled (numbered s old)) ∙ ap named (sym (table_after l same))

  -- ---- the processes

  process_at : (r : ℕ) → get after.processes r ≡ cond (nat_eq r s.next_pid) (Some (Alive child)) (get (insert s.processes p (Alive parent)) r)
  process_at r = get_at (insert s.processes p (Alive parent)) s.next_pid (Alive child) r

  pub others_children : (q r : ℕ) → q ≢ p → child_of q (get after.processes r) ≡ child_of q (get s.processes r)
  others_children q r other =
      ap (child_of q) (process_at r) ∙ child_cond q (nat_eq r s.next_pid) (Some (Alive child)) (get (insert s.processes p (Alive parent)) r)
      ∙ elim (eqb_tells r s.next_pid) [
        | inl h ↦
            ap (λ (b : Bool). cond b (child_of q (Some (Alive child))) (child_of q (get (insert s.processes p (Alive parent)) r))) h.0
            ∙ ap (λ (b : Bool). cond b (Some Running) None) (this_is_not q (Some p) (λ e. other (sym (let f : p ≡ q = cc in f))))
            ∙ sym (ap (λ (k : ℕ). child_of q (get s.processes k)) h.1 ∙ ap (child_of q) fresh)
        | inr h ↦
            ap (λ (b : Bool). cond b (child_of q (Some (Alive child))) (child_of q (get (insert s.processes p (Alive parent)) r))) h.0
            ∙ same_child s p old parent was refl q r
      ]

  pub own_children : (r : ℕ) → with_value (λ q. child_of p (get s.processes q)) s.next_pid (Some Running) r ≡ child_of p (get after.processes r)
  own_children r = sym (
      ap (child_of p) (process_at r) ∙ child_cond p (nat_eq r s.next_pid) (Some (Alive child)) (get (insert s.processes p (Alive parent)) r)
      ∙ (λ i. cond (nat_eq r s.next_pid) (cond (eq-eqb p p refl i) (Some Running) None) (same_child s p old parent was refl p r i)))

  newborns_children : (r : ℕ) → None ≡ child_of s.next_pid (get after.processes r)
  newborns_children r = sym (
      ap (child_of s.next_pid) (process_at r) ∙ child_cond s.next_pid (nat_eq r s.next_pid) (Some (Alive child)) (get (insert s.processes p (Alive parent)) r)
      ∙ (λ i. cond (nat_eq r s.next_pid) (cond (this_is_not s.next_pid (Some p) (λ e. apart (let f : p ≡ s.next_pid = cc in f)) i) (Some Running) None)
      ((same_child s p old parent was refl s.next_pid r ∙ no_child s.next_pid (get s.processes r) (can.unknown r)) i))
      ∙ both_none (nat_eq r s.next_pid))
    where
      both_none : (b : Bool) → ◌≡◌ {A = Option Child} (cond b (cond false (Some Running) None) None) None
      both_none true = refl
      both_none false = refl

  known : (q : ℕ) → IsSome (get (insert s.processes p (Alive parent)) q) → q < s.next_pid
  known q h = elim (eqb_tells q p) [
    | inl e ↦ let b : p < s.next_pid = can.below p (ap is_some was) in let f : q ≡ p = e.1 in omega arith
    | inr e ↦ can.below q (ap is_some (sym (get_other s.processes p (Alive parent) q e.1)) ∙ h)
  ]

  pub pids_after : keys s.processes ++ s.next_pid ∷ [] ≡ keys after.processes
  pids_after = sym (keys_push (insert s.processes p (Alive parent)) s.next_pid (Alive child) known ∙ ap (λ ks. ks ++ s.next_pid ∷ []) (same_keys s p old parent was refl))

  -- ---- the views

  pub fork_own : cannot_fork (view_of s p old) ≡ false
      → fork c (view_of s p old) ≡ record (goes_on (Called c.number (pos s.next_pid)) (view_of after p parent)) { child = Some (view_of after s.next_pid child) }
  unfolding view_of
  fork_own able =
      fork_same c (view_of s p old)
      ∙ ap (λ (b : Bool). unless b c (view_of s p old) (λ _. forked c (view_of s p old))) able
      ∙ (λ i. let v : View = record (view_of after p parent) {
        descriptors = shown_after parent (λ d. refl) i;
        children = λ r. own_children r i;
        pids = pids_after i;
      } in record (goes_on (Called c.number (pos s.next_pid)) v) {
        child = Some (record (view_of after s.next_pid child) {
          descriptors = shown_after parent (λ d. refl) i;
          children = λ r. newborns_children r i;
          pids = pids_after i;
        });
      })

  parent_there : get after.processes p ≡ Some (Alive parent)
  parent_there = process_at p ∙ elim (eqb_tells p s.next_pid) [
    | inl h ↦ absurd (apart h.1)
    | inr h ↦ ap (λ (b : Bool). cond b (Some (Alive child)) (get (insert s.processes p (Alive parent)) p)) h.0 ∙ get_same s.processes p (Alive parent)
  ]

  pub view_parent : view after p ≡ Some (view_of after p parent)
  view_parent = ap (λ (o : Option Process). option_map (view_of after p) (live_part o)) parent_there

  pub view_child : view after s.next_pid ≡ Some (view_of after s.next_pid child)
  view_child = ap (λ (o : Option Process). option_map (view_of after s.next_pid) (live_part o)) (get_same (insert s.processes p (Alive parent)) s.next_pid (Alive child))

  -- ---- every other process

  here : (e j : ℕ) → pipe_of_file s (get old.descriptors e) ≡ Some j → pipe_at s p e ≡ Some j
  here e j h = ap (λ (l : Option Live). pipe_of_file s (file_of l e)) (ap live_part was) ∙ h

  stays : (q : ℕ) (m : Live) → q ≢ p → live s q ≡ Some m → live after q ≡ live s q
  stays q m other is = ap live_part (process_at q) ∙ elim (eqb_tells q s.next_pid) [
    | inl h ↦ let b : q < s.next_pid = can.below q (live_some (get s.processes q) m is) in let f : q ≡ s.next_pid = h.1 in absurd (omega arith)
    | inr h ↦ ap (λ (b : Bool). live_part (cond b (Some (Alive child)) (get (insert s.processes p (Alive parent)) q))) h.0 ∙ live-set_live_there s p old parent was refl q other
  ]

  keeps_other : (q : ℕ) (m : Live) → q ≢ p → live s q ≡ Some m → live after q ≡ Some (record m { killed = m.killed || false; parent = m.parent })
  keeps_other q m other is = stays q m other is ∙ is ∙ (λ j. Some (record m { killed = or_false m.killed j }))

  abbrev pub fork_answer : Own
  fork_answer = record (goes_on (Called c.number (pos s.next_pid)) (view_of after p parent)) { child = Some (view_of after s.next_pid child) }

  pub fork_leaves : Leaves s after (view_of s p old) fork_answer
  unfolding view_of
  fork_leaves = record {
    tells = own_table_tells s after p old (ap live_part was) (λ g. refl);
    spares = record { file = λ g other h. refl; pipe = λ j other h. more_on_none s old j (λ e below g. h e below (here e j g)); kinds = λ g other. refl };
    keeps = λ q m other is. (m.parent, keeps_other q m other is);
    children = λ q m other is r. others_children q r other;
    pids = refl;
    console = refl;
    next_pid = refl;
    free = refl;
    clock = refl;
    programs = refl;
  }

-- A fork leaves a well-formed state well-formed.
use Rattle.kernel_spec.proofs.Prelude.{ℕ, ◌&&◌, ◌+◌, ◌-◌, ◌<◌, ◌∙◌, ◌≡◌, ◌≢◌, ◌≤◌, ◌⊎◌, Alive, and_right, ap, arith, Bool, cond, cost, count_below, End, end_of, ends, eqb_tells, false, File, file_at}
use Rattle.kernel_spec.proofs.Prelude.{FinMap, forked_child, forked_state, forking, get, HasParent, inl, inr, insert, is_given_up, is_some, IsSome, joined, len, len-insert, length, Live, live}
use Rattle.kernel_spec.proofs.Prelude.{live_part, more_at, more_on, more_on_all, nat_cmp, nat_cmp_total, nat_eq, NOFILE, None, numbered, on, OpenFile, Option, option_map, over_all, parent_of, Pipe}
use Rattle.kernel_spec.proofs.Prelude.{PIPE_BYTES, Pipe_end, price, Process, Reading, refl, same_Some, Some, State, subst, suc, sum_below, sym, Target, Terminal, true, WellFormed, Writing, zero}
use Rattle.kernel_spec.proofs.Prelude.{Zombie}
use Rattle.kernel_spec.proofs.steps.SeenByParts.{file_of}
use Rattle.kernel_spec.proofs.steps.MapsAfterChange.{get_same, get_other}
use Rattle.kernel_spec.proofs.steps.EndsAreCounted.{plus, hits, among, hits_at, get-more_on_all}
use Rattle.kernel_spec.proofs.well.Sums.{sum_same}
use Rattle.kernel_spec.proofs.Common.{the_value, there_if_alive}

-- ---- the number of pipes

more_at_len : (i : ℕ) (e : End) (m : FinMap nat_cmp Pipe) (o : Option Pipe) → get m i ≡ o → len (more_at i e m o) ≡ len m
more_at_len i e m None is = refl
more_at_len i e m (Some x) is = len-insert nat_cmp_total m i (joined x e 1) ∙ ap (λ (b : Bool). cond b (len m) (len m + 1)) (ap is_some is)

more_len : (o : Option Target) (m : FinMap nat_cmp Pipe) → len (more_on o m) ≡ len m
more_len None m = refl
more_len (Some Terminal) m = refl
more_len (Some (File program offset)) m = refl
more_len (Some (Pipe_end i e)) m = more_at_len i e m (get m i) refl

pub more_all_len : (s : State) (l : Live) (n : ℕ) → len (more_on_all s l n) ≡ len s.pipes
unfolding more_on_all
more_all_len s l zero = refl
more_all_len s l (suc n) = more_len (end_of s (get l.descriptors n)) (more_on_all s l n) ∙ more_all_len s l n

-- descriptors stand on the same ends in states with the same open files
pub same_ends : (s t : State) → t.files ≡ s.files → (l : Live) (j : ℕ) (end : End) → ends (numbered t l) j end ≡ ends (numbered s l) j end
same_ends s t same l j end =
    (λ i. count_below (λ d. hits_at t j end (get l.descriptors d) i) NOFILE)
    ∙ (λ i. count_below (λ d. hits_on (same i) d) NOFILE)
    ∙ sym (λ i. count_below (λ d. hits_at s j end (get l.descriptors d) i) NOFILE)
  where
    hits_on : FinMap nat_cmp OpenFile → ℕ → Bool
    hits_on files d = hits j end (end_of (record s { files = files }) (get l.descriptors d))

module _ (frames : ℕ) (s : State) (h : WellFormed frames s) (p : ℕ) (old : Live) (was : get s.processes p ≡ Some (Alive old)) (room : price old.image + 1 ≤ s.free) where
  abbrev after : State
  after = forked_state p old s

  abbrev parent : Live
  parent = forking s old

  abbrev child : Live
  child = forked_child s p old

  child_there : get after.processes s.next_pid ≡ Some (Alive child)
  child_there = get_same (insert s.processes p (Alive parent)) s.next_pid (Alive child)

  others : (q : ℕ) → q ≢ s.next_pid → get after.processes q ≡ get (insert s.processes p (Alive parent)) q
  others q apart = get_other (insert s.processes p (Alive parent)) s.next_pid (Alive child) q apart

  module _ {A : Type 0} (f : Option Process → A) (same : f (Some (Alive parent)) ≡ f (Some (Alive old))) where
    same_of : (q : ℕ) → q ≢ s.next_pid → f (get after.processes q) ≡ f (get s.processes q)
    same_of q new = ap f (others q new) ∙ elim (eqb_tells q p) [
      | inl e ↦ ap (λ (n : ℕ). f (get (insert s.processes p (Alive parent)) n)) e.1 ∙ ap f (get_same s.processes p (Alive parent)) ∙ same ∙ sym (ap (λ (n : ℕ). f (get s.processes n)) e.1 ∙ ap f was)
      | inr e ↦ ap f (get_other s.processes p (Alive parent) q e.1)
    ]

  fresh : (q : ℕ) → IsSome (get s.processes q) → q ≢ s.next_pid
  fresh q there e = let b : q < s.next_pid = (h.pids q there).1 in omega arith

  some_there : (q : ℕ) → q ≢ s.next_pid → is_some (get after.processes q) ≡ is_some (get s.processes q)
  some_there q new = same_of (λ (o : Option Process). is_some o) refl q new

  live_there : (q : ℕ) → q ≢ s.next_pid → is_some (live after q) ≡ is_some (live s q)
  live_there q new = same_of (λ (o : Option Process). is_some (live_part o)) refl q new

  file_there : (q d : ℕ) → q ≢ s.next_pid → file_at after q d ≡ file_at s q d
  file_there q d new = same_of (λ (o : Option Process). file_of (live_part o) d) refl q new

  file_child : (d : ℕ) → file_at after s.next_pid d ≡ file_at s p d
  file_child d = ap (λ (o : Option Process). file_of (live_part o) d) child_there ∙ sym (ap (λ (o : Option Process). file_of (live_part o) d) was)

  before : (q : ℕ) (x : Process) → q ≢ s.next_pid → get after.processes q ≡ Some x → (y : Process) × (get s.processes q ≡ Some y) × (parent_of x ≡ parent_of y)
  before q x new is =
      let y = the_value (get s.processes q) (sym (some_there q new) ∙ ap is_some is) in
      let parents : Some (parent_of x) ≡ Some (parent_of y.0) = sym (ap (option_map parent_of) is) ∙ same_of (option_map parent_of) refl q new ∙ ap (option_map parent_of) y.1 in
      (y.0, y.1, same_Some (parent_of x) (parent_of y.0) parents)

  is_some_live : (q : ℕ) → IsSome (live s q) → IsSome (get s.processes q)
  is_some_live q e = there_if_alive (get s.processes q) e

  parents_stay : (q : ℕ) (x : Process) → get after.processes q ≡ Some x → (q ≡ 1) ⊎ HasParent after q x
  parents_stay q x is = elim (eqb_tells q s.next_pid) [
    | inl new ↦
        let same : x ≡ Alive child = same_Some x (Alive child) (sym is ∙ ap (get after.processes) new.1 ∙ child_there) in
        inr (record {
          parent = p;
          is = ap parent_of same;
          other = λ e. fresh p (ap is_some was) (e ∙ new.1);
          there = inl (live_there p (fresh p (ap is_some was)) ∙ ap (λ (o : Option Process). is_some (live_part o)) was);
        })
    | inr old_one ↦
        let y = before q x old_one.1 is in
        elim (h.parents q y.0 y.1) [
          | inl one ↦ inl one
          | inr has ↦ inr (record {
            parent = has.parent;
            is = y.2 ∙ has.is;
            other = has.other;
            there = elim has.there [ inl alive ↦ inl (live_there has.parent (fresh has.parent (is_some_live has.parent alive)) ∙ alive) | inr one ↦ inr one ];
          })
        ]
  ]

  first_is : (x : Process) × (get s.processes 1 ≡ Some x) × (parent_of x ≡ None)
  first_is = h.first p (ap is_some was)

  first_stays : (q : ℕ) → IsSome (get after.processes q) → (x : Process) × (get after.processes 1 ≡ Some x) × (parent_of x ≡ None)
  first_stays q alive =
      let f = first_is in
      let new : 1 ≢ s.next_pid = fresh 1 (ap is_some f.1) in
      let x = the_value (get after.processes 1) (some_there 1 new ∙ ap is_some f.1) in
      let y = before 1 x.0 new x.1 in
      (x.0, x.1, y.2 ∙ ap parent_of (same_Some y.0 f.0 (sym y.1 ∙ f.1)) ∙ f.2)

  pids_stay : (q : ℕ) → IsSome (get after.processes q) → (1 ≤ q) × (q < s.next_pid + 1)
  pids_stay q e = elim (eqb_tells q s.next_pid) [
    | inl new ↦ let same : q ≡ s.next_pid = new.1 in let b : 1 < s.next_pid = (h.pids 1 (ap is_some first_is.1)).1 in (omega arith, omega arith)
    | inr old_one ↦ let r = h.pids q (sym (some_there q old_one.1) ∙ e) in let a : 1 ≤ q = r.0 in let b : q < s.next_pid = r.1 in (a, omega arith)
  ]

  -- ---- counts: those of the child are those of its parent

  sum_more : (n : ℕ) (f : ℕ → ℕ) → sum_below (n + 1) f ≡ sum_below n f + f n
  unfolding sum_below
  sum_more n f = let e : n + 1 ≡ suc n = omega arith in ap (λ (m : ℕ). sum_below m f) e

  counts_stay : (j : ℕ) (end : End) → over_all after (on after j end) ≡ over_all s (on s j end) + ends (numbered s old) j end
  counts_stay j end =
      sum_more s.next_pid (λ q. on after j end (get after.processes q))
      ∙ (λ i. sum_same s.next_pid (λ q. on after j end (get after.processes q)) (λ q. on s j end (get s.processes q)) each i + (ap (on after j end) child_there ∙ same_ends s after refl child j end) i)
    where
      weigh : (o : Option Process) → on after j end o ≡ on s j end o
      weigh None = refl
      weigh (Some (Alive l)) = same_ends s after refl l j end
      weigh (Some (Zombie a b)) = refl

      each : (q : ℕ) → q < s.next_pid → on after j end (get after.processes q) ≡ on s j end (get s.processes q)
      each q b = weigh (get after.processes q) ∙ same_of (on s j end) refl q (λ e. let g : q ≡ s.next_pid = e in omega arith)

  pipe_before : (j : ℕ) (y : Pipe) → get after.pipes j ≡ Some y → (x : Pipe) × (get s.pipes j ≡ Some x) × (y ≡ plus x (among s old NOFILE j Reading) (among s old NOFILE j Writing))
  pipe_before j y is = by (get s.pipes j) (sym (get-more_on_all s old NOFILE j) ∙ is)
    where
      by : (o : Option Pipe) → option_map (λ x. plus x (among s old NOFILE j Reading) (among s old NOFILE j Writing)) o ≡ Some y
          → (x : Pipe) × (o ≡ Some x) × (y ≡ plus x (among s old NOFILE j Reading) (among s old NOFILE j Writing))
      by None e = let no : ⊥ = cc in absurd no
      by (Some x) e = (x, refl, same_Some y (plus x (among s old NOFILE j Reading) (among s old NOFILE j Writing)) (sym e))

  pipe_still : (j : ℕ) → IsSome (get s.pipes j) → IsSome (get after.pipes j)
  pipe_still j e = ap is_some (get-more_on_all s old NOFILE j) ∙ by (get s.pipes j) e
    where
      by : (o : Option Pipe) → IsSome o → is_some (option_map (λ x. plus x (among s old NOFILE j Reading) (among s old NOFILE j Writing)) o) ≡ true
      by None e = e
      by (Some x) e = refl

  held_still : (x : Pipe) (a b : ℕ) → is_given_up x ≡ false → is_given_up (plus x a b) ≡ false
  held_still x a b e = elim (eqb_tells (x.readers + a) 0) [
    | inr q ↦ ap (λ (z : Bool). z && nat_eq (x.writers + b) 0) q.0
    | inl q ↦ elim (eqb_tells (x.writers + b) 0) [
      | inr r ↦ and_right (nat_eq (x.readers + a) 0) (nat_eq (x.writers + b) 0) r.0
      | inl r ↦
          let u : x.readers + a ≡ 0 = q.1 in let v : x.writers + b ≡ 0 = r.1 in
          let m : x.readers ≡ 0 = omega arith in let n : x.writers ≡ 0 = omega arith in
          let up : is_given_up x ≡ true = (λ i. nat_eq (m i) 0 && nat_eq (n i) 0) in
          let no : ⊥ = cc in absurd no
    ]
  ]

  frames_stay : (s.free - (price old.image + 1)) + over_all after cost + len after.pipes ≡ frames
  frames_stay =
      let a : ℕ = over_all s cost in let b : ℕ = over_all after cost in let n : ℕ = len s.pipes in let m : ℕ = len after.pipes in let x : ℕ = price old.image + 1 in
      let lens : m ≡ n = more_all_len s old NOFILE in
      let sums : b ≡ a + x = sum_more s.next_pid (λ q. cost (get after.processes q))
      ∙ (λ i. sum_same s.next_pid (λ q. cost (get after.processes q)) (λ q. cost (get s.processes q)) each i + ap cost child_there i) in
      let enough : x ≤ s.free = room in let total : s.free + a + n ≡ frames = h.counted in
      let goal : (s.free - x) + b + m ≡ frames = omega arith in goal
    where
      each : (q : ℕ) → q < s.next_pid → cost (get after.processes q) ≡ cost (get s.processes q)
      each q b = same_of cost refl q (λ e. let g : q ≡ s.next_pid = e in omega arith)

  descriptors_stay : (q d f : ℕ) → file_at after q d ≡ Some f → (d < NOFILE) × IsSome (get s.files f)
  descriptors_stay q d f e = elim (eqb_tells q s.next_pid) [
    | inl new ↦ h.descriptors p d f (sym (file_child d) ∙ sym (ap (λ (n : ℕ). file_at after n d) new.1) ∙ e)
    | inr old_one ↦ h.descriptors q d f (sym (file_there q d old_one.1) ∙ e)
  ]

  named_still : (f : ℕ) → IsSome (get s.files f) → (q : ℕ) × (d : ℕ) × (file_at after q d ≡ Some f)
  named_still f e =
      let n = h.named f e in
      (n.0, n.1, file_there n.0 n.1 (fresh n.0 (in_use n.0 n.1 f n.2)) ∙ n.2)
    where
      by : (o : Option Process) (d f : ℕ) → file_of (live_part o) d ≡ Some f → IsSome o
      by None d f e = let no : ⊥ = cc in absurd no
      by (Some x) d f e = refl

      in_use : (q d f : ℕ) → file_at s q d ≡ Some f → IsSome (get s.processes q)
      in_use q d f e = by (get s.processes q) d f e

  pub fork_well : WellFormed frames after
  fork_well = record {
    pids = pids_stay;
    first = first_stays;
    parents = parents_stay;
    descriptors = descriptors_stay;
    ends = λ f j x end e g. pipe_still j (h.ends f j x end e g);
    named = named_still;
    readers = λ j y e. let x = pipe_before j y e in ap (λ (z : Pipe). z.readers) x.2 ∙ (λ i. h.readers j x.0 x.1 i + among s old NOFILE j Reading) ∙ sym (counts_stay j Reading);
    writers = λ j y e. let x = pipe_before j y e in ap (λ (z : Pipe). z.writers) x.2 ∙ (λ i. h.writers j x.0 x.1 i + among s old NOFILE j Writing) ∙ sym (counts_stay j Writing);
    held = λ j y e. let x = pipe_before j y e in ap is_given_up x.2 ∙ held_still x.0 (among s old NOFILE j Reading) (among s old NOFILE j Writing) (h.held j x.0 x.1);
    counted = frames_stay;
    pipe_bytes = λ j y e. let x = pipe_before j y e in subst (λ (z : Pipe). length z.bytes ≤ PIPE_BYTES) (sym x.2) (h.pipe_bytes j x.0 x.1);
    keys = h.keys;
    to_send = h.to_send;
  }

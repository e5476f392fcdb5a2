-- An exit leaves a well-formed state well-formed.
use Rattle.kernel_spec.proofs.Prelude.{ℕ, ℤ, ◌+◌, ◌-◌, ◌<◌, ◌∙◌, ◌≡◌, ◌≢◌, ◌≤◌, ◌⊎◌, Alive, ap, arith, Bool, cond, cost, count_below, empty_of_len, End, end_of, ends, eqb_tells, false, fewer_at}
use Rattle.kernel_spec.proofs.Prelude.{fewer_on, fewer_on_all, File, file_at, FinMap, freed_at, freed_on, freed_on_all, get, get-empty, given_to, gone_state, HasParent, inl, inr, insert, is_given_up}
use Rattle.kernel_spec.proofs.Prelude.{is_some, is_this, IsSome, len, len-insert, len-remove, length, Live, live, live_part, nat_cmp, nat_cmp_total, nat_eq, NOFILE, None, numbered, on, OpenFile}
use Rattle.kernel_spec.proofs.Prelude.{Option, option_map, orphan, orphans, over_all, parent_of, parted, Pipe, pipe_at, PIPE_BYTES, Pipe_end, pipe_of_target, price, Process, Reading, refl, remove}
use Rattle.kernel_spec.proofs.Prelude.{same_Some, Some, State, subst, suc, sym, Target, target_of_open, Terminal, true, WellFormed, Writing, zero, Zombie}
use Rattle.kernel_spec.proofs.steps.SeenByParts.{file_of, pipe_of_file, pipe_of_open}
use Rattle.kernel_spec.proofs.steps.MapsAfterChange.{get_same, get_other}
use Rattle.kernel_spec.proofs.steps.EndsAreCounted.{hits, hits_at}
use Rattle.kernel_spec.proofs.steps.ClosingCountsDown.{kept, fewer, get-fewer_on_all}
use Rattle.kernel_spec.proofs.steps.OrphansKeepKeys.{get-orphans}
use Rattle.kernel_spec.proofs.steps.OthersTableIsSeen.{OtherNames}
use Rattle.kernel_spec.proofs.well.Sums.{sum_change}
use Rattle.kernel_spec.proofs.steps.WellFormedIsEnough.{can_go}
use Rattle.kernel_spec.proofs.steps.GoneIsItsRow.{CanGo}
use Rattle.kernel_spec.proofs.Common.{the_value}

-- ---- each pipe that is given up frees one frame

there_one : (m : FinMap nat_cmp Pipe) (i : ℕ) (x : Pipe) → get m i ≡ Some x → len m ≡ 0 → ⊥
there_one m i x is e =
    let nothing : get m i ≡ None = ap (λ (n : FinMap nat_cmp Pipe). get n i) (empty_of_len m e) ∙ get-empty nat_cmp i in
    let no : ⊥ = cc in no

pub settled_len : (i : ℕ) (z x : Pipe) (m : FinMap nat_cmp Pipe) → get m i ≡ Some x → (b : Bool) → len (cond b (remove m i) (insert m i z)) + cond b 1 0 ≡ len m
settled_len i z x m is true =
    let n : ℕ = len m in let k : ℕ = len (remove m i) in
    let e : k ≡ n - 1 = len-remove nat_cmp_total m i ∙ ap (λ (b : Bool). cond b (n - 1) n) (ap is_some is) in
    let some : n ≢ 0 = there_one m i x is in
    let goal : k + 1 ≡ n = omega arith in goal
settled_len i z x m is false =
    let n : ℕ = len m in let k : ℕ = len (insert m i z) in
    let e : k ≡ n = len-insert nat_cmp_total m i z ∙ ap (λ (b : Bool). cond b n (n + 1)) (ap is_some is) in
    let goal : k + 0 ≡ n = omega arith in goal

fewer_at_len : (i : ℕ) (e : End) (m : FinMap nat_cmp Pipe) (o : Option Pipe) → get m i ≡ o → len (fewer_at i e m o) + freed_at e o ≡ len m
fewer_at_len i e m None is = let n : ℕ = len m in let g : n + 0 ≡ n = omega arith in g
fewer_at_len i e m (Some x) is = settled_len i (parted x e 1) x m is (is_given_up (parted x e 1))

fewer_len : (o : Option Target) (m : FinMap nat_cmp Pipe) → len (fewer_on o m) + freed_on o m ≡ len m
fewer_len None m = let n : ℕ = len m in let g : n + 0 ≡ n = omega arith in g
fewer_len (Some Terminal) m = let n : ℕ = len m in let g : n + 0 ≡ n = omega arith in g
fewer_len (Some (File program offset)) m = let n : ℕ = len m in let g : n + 0 ≡ n = omega arith in g
fewer_len (Some (Pipe_end i e)) m = fewer_at_len i e m (get m i) refl

pub fewer_all_len : (s : State) (l : Live) (n : ℕ) (m : FinMap nat_cmp Pipe) → len (fewer_on_all s l n m) + freed_on_all s l n m ≡ len m
unfolding fewer_on_all freed_on_all
fewer_all_len s l zero m = let n : ℕ = len m in let g : n + 0 ≡ n = omega arith in g
fewer_all_len s l (suc n) m =
    let o : Option Target = end_of s (get l.descriptors n) in
    let a : ℕ = len (fewer_on_all s l n (fewer_on o m)) in let b : ℕ = freed_on_all s l n (fewer_on o m) in let c : ℕ = freed_on o m in let d : ℕ = len (fewer_on o m) in let e : ℕ = len m in
    let x : a + b ≡ d = fewer_all_len s l n (fewer_on o m) in let y : d + c ≡ e = fewer_len o m in
    let goal : a + (b + c) ≡ e = omega arith in goal

module _ (frames : ℕ) (s : State) (h : WellFormed frames s) (p : ℕ) (old : Live) (was : get s.processes p ≡ Some (Alive old)) (status : ℤ)
    (files : FinMap nat_cmp OpenFile) (spared : (g : ℕ) → OtherNames s p g → get files g ≡ get s.files g) (named_by : (g : ℕ) → IsSome (get files g) → OtherNames s p g) where
  abbrev after : State
  after = gone_state p old status files s

  abbrev zombie : Process
  zombie = Zombie old.parent status

  can : CanGo s p old
  can = can_go frames s h p old was

  here : get after.processes p ≡ Some zombie
  here = get_same (orphans p s).processes p zombie

  there : (q : ℕ) → q ≢ p → get after.processes q ≡ option_map (orphan p) (get s.processes q)
  there q apart = get_other (orphans p s).processes p zombie q apart ∙ get-orphans p s q

  -- of the others all but the parent stays
  module _ {A : Type 0} (f : Process → A) (any : (x : Process) → f (given_to 1 x) ≡ f x) where
    whichever : (b : Bool) (x : Process) → f (cond b (given_to 1 x) x) ≡ f x
    whichever true x = any x
    whichever false x = refl

  by_option : {A : Type 0} (f : Option Process → A) → ((x : Process) → f (Some (given_to 1 x)) ≡ f (Some x)) → (o : Option Process) → f (option_map (orphan p) o) ≡ f o
  by_option f any None = refl
  by_option f any (Some x) = whichever (λ (y : Process). f (Some y)) any (is_this p (parent_of x)) x

  some_there : (q : ℕ) → is_some (get after.processes q) ≡ is_some (get s.processes q)
  some_there q = elim (eqb_tells q p) [
    | inl e ↦ ap (λ (n : ℕ). is_some (get after.processes n)) e.1 ∙ ap is_some here ∙ sym (ap (λ (n : ℕ). is_some (get s.processes n)) e.1 ∙ ap is_some was)
    | inr e ↦ ap is_some (there q e.1) ∙ by_option (λ (o : Option Process). is_some o) (λ x. refl) (get s.processes q)
  ]

  live_given : (x : Process) → is_some (live_part (Some (given_to 1 x))) ≡ is_some (live_part (Some x))
  live_given (Alive l) = refl
  live_given (Zombie a b) = refl

  file_given : (d : ℕ) (x : Process) → file_of (live_part (Some (given_to 1 x))) d ≡ file_of (live_part (Some x)) d
  file_given d (Alive l) = refl
  file_given d (Zombie a b) = refl

  cost_given : (x : Process) → cost (Some (given_to 1 x)) ≡ cost (Some x)
  cost_given (Alive l) = refl
  cost_given (Zombie a b) = refl

  live_there : (q : ℕ) → q ≢ p → is_some (live after q) ≡ is_some (live s q)
  live_there q apart = ap (λ (o : Option Process). is_some (live_part o)) (there q apart) ∙ by_option (λ (o : Option Process). is_some (live_part o)) live_given (get s.processes q)

  file_there : (q d : ℕ) → q ≢ p → file_at after q d ≡ file_at s q d
  file_there q d apart = ap (λ (o : Option Process). file_of (live_part o) d) (there q apart) ∙ by_option (λ (o : Option Process). file_of (live_part o) d) (file_given d) (get s.processes q)

  file_here : (d : ℕ) → file_at after p d ≡ None
  file_here d = ap (λ (o : Option Process). file_of (live_part o) d) here

  -- ---- counts

  same_target : (q d : ℕ) (m : Live) → q ≢ p → live s q ≡ Some m → (o : Option ℕ) → get m.descriptors d ≡ o → end_of after o ≡ end_of s o
  same_target q d m apart is None e = refl
  same_target q d m apart is (Some g) e = ap target_of_open (spared g (q, d, apart, ap (λ (l : Option Live). file_of l d) is ∙ e))

  other_ends : (q : ℕ) (m : Live) (j : ℕ) (end : End) → q ≢ p → live s q ≡ Some m → ends (numbered after m) j end ≡ ends (numbered s m) j end
  other_ends q m j end apart is =
      (λ i. count_below (λ d. hits_at after j end (get m.descriptors d) i) NOFILE)
      ∙ (λ i. count_below (λ d. hits j end (same_target q d m apart is (get m.descriptors d) refl i)) NOFILE)
      ∙ sym (λ i. count_below (λ d. hits_at s j end (get m.descriptors d) i) NOFILE)

  weigh : (q : ℕ) (j : ℕ) (end : End) → q ≢ p → (o : Option Process) → get s.processes q ≡ o → on after j end (option_map (orphan p) o) ≡ on s j end o
  weigh q j end apart None e = refl
  weigh q j end apart (Some (Zombie a b)) e = by (is_this p a)
    where
      by : (c : Bool) → on after j end (Some (cond c (Zombie (Some 1) b) (Zombie a b))) ≡ 0
      by true = refl
      by false = refl
  weigh q j end apart (Some (Alive m)) e = by (is_this p m.parent) ∙ other_ends q m j end apart (ap live_part e)
    where
      by : (c : Bool) → on after j end (Some (cond c (Alive (record m { parent = Some 1 })) (Alive m))) ≡ ends (numbered after m) j end
      by true = refl
      by false = refl

  p_below : p < s.next_pid
  p_below = (h.pids p (ap is_some was)).1

  counts_fall : (j : ℕ) (end : End) (n : ℕ) → n ≡ over_all s (on s j end) → n - ends (numbered s old) j end ≡ over_all after (on after j end)
  counts_fall j end n e =
      let a : ℕ = over_all s (on s j end) in let b : ℕ = over_all after (on after j end) in let x : ℕ = ends (numbered s old) j end in
      let changed : a + on after j end (get after.processes p) ≡ b + on s j end (get s.processes p) =
      sum_change s.next_pid p (λ q. on s j end (get s.processes q)) (λ q. on after j end (get after.processes q)) p_below
      (λ q apart. sym (ap (on after j end) (there q apart) ∙ weigh q j end apart (get s.processes q) refl)) in
      let sum : a + 0 ≡ b + x = (λ i. a + ap (on after j end) (sym here) i) ∙ changed ∙ (λ i. b + ap (on s j end) was i) in
      let ne : n ≡ a = e in let goal : n - x ≡ b = omega arith in goal

  frames_stay : (s.free + price old.image + 1 + freed_on_all s old NOFILE s.pipes) + over_all after cost + len after.pipes ≡ frames
  frames_stay =
      let a : ℕ = over_all s cost in let b : ℕ = over_all after cost in let x : ℕ = price old.image in
      let f : ℕ = freed_on_all s old NOFILE s.pipes in let n : ℕ = len s.pipes in let m : ℕ = len after.pipes in
      let changed : a + cost (get after.processes p) ≡ b + cost (get s.processes p) =
      sum_change s.next_pid p (λ q. cost (get s.processes q)) (λ q. cost (get after.processes q)) p_below (λ q apart. sym (ap cost (there q apart) ∙ by_option cost cost_given (get s.processes q))) in
      let sum : a + 0 ≡ b + (x + 1) = (λ i. a + ap cost (sym here) i) ∙ changed ∙ (λ i. b + ap cost was i) in
      let pipes : m + f ≡ n = fewer_all_len s old NOFILE s.pipes in let total : s.free + a + n ≡ frames = h.counted in
      let goal : (s.free + x + 1 + f) + b + m ≡ frames = omega arith in goal

  -- ---- pipes

  pipe_before : (j : ℕ) (y : Pipe) → get after.pipes j ≡ Some y → (x : Pipe) × (get s.pipes j ≡ Some x) × (y ≡ fewer s old j x) × (is_given_up y ≡ false)
  pipe_before j y is = by (get s.pipes j) (sym (get-fewer_on_all s old can.pipes can.counts j) ∙ is)
    where
      settle : (x : Pipe) (b : Bool) → is_given_up (fewer s old j x) ≡ b → cond b None (Some (fewer s old j x)) ≡ Some y
          → (z : Pipe) × (Some x ≡ Some z) × (y ≡ fewer s old j z) × (is_given_up y ≡ false)
      settle x true g e = let no : ⊥ = cc in absurd no
      settle x false g e = let same : y ≡ fewer s old j x = sym (same_Some (fewer s old j x) y e) in (x, refl, same, ap is_given_up same ∙ g)

      by : (o : Option Pipe) → kept (option_map (fewer s old j) o) ≡ Some y → (x : Pipe) × (o ≡ Some x) × (y ≡ fewer s old j x) × (is_given_up y ≡ false)
      by None e = let no : ⊥ = cc in absurd no
      by (Some x) e = settle x (is_given_up (fewer s old j x)) refl e

  end_stays : (g j : ℕ) (x : OpenFile) (end : End) → get files g ≡ Some x → x.target ≡ Pipe_end j end → IsSome (get after.pipes j)
  end_stays g j x end is target =
      let other = named_by g (ap is_some is) in
      let before : get s.files g ≡ Some x = sym (spared g other) ∙ is in
      let pipe = the_value (get s.pipes j) (h.ends g j x end before target) in
      let has : pipe_at s other.0 other.1 ≡ Some j = ap (pipe_of_file s) other.3 ∙ ap pipe_of_open before ∙ ap pipe_of_target target in
      ap is_some (get-fewer_on_all s old can.pipes can.counts j ∙ ap (λ (o : Option Pipe). kept (option_map (fewer s old j) o)) pipe.1
      ∙ ap (λ (b : Bool). cond b None (Some (fewer s old j pipe.0))) (can.held j pipe.0 (other.0, other.1, other.2, has) pipe.1))

  -- ---- parents

  parent_given : (x : Process) → parent_of (given_to 1 x) ≡ Some 1
  parent_given (Alive l) = refl
  parent_given (Zombie a b) = refl

  orphan_parent : (q : ℕ) (x : Process) → q ≢ p → (q ≡ 1) ⊎ HasParent s q x → (b : Bool) → is_this p (parent_of x) ≡ b → (q ≡ 1) ⊎ HasParent after q (cond b (given_to 1 x) x)
  orphan_parent q x apart (inl one) b e = inl one
  orphan_parent q x apart (inr has) true e = elim (eqb_tells q 1) [
    | inl one ↦ inl one.1
    | inr other ↦ inr (record { parent = 1; is = parent_given x; other = λ z. other.1 (sym z); there = inr refl })
  ]
  orphan_parent q x apart (inr has) false e = inr (record {
    parent = has.parent;
    is = has.is;
    other = has.other;
    there = elim has.there [ inl alive ↦ inl (live_there has.parent not_p ∙ alive) | inr one ↦ inr one ];
  })
    where
      not_p : has.parent ≢ p
      not_p z = let t : is_this p (parent_of x) ≡ true = ap (is_this p) (has.is ∙ ap Some z) ∙ itself p in let no : ⊥ = cc in no
        where
          itself : (n : ℕ) → nat_eq n n ≡ true
          itself n = elim (eqb_tells n n) [ inl g ↦ g.0 | inr g ↦ absurd (g.1 refl) ]

  parents_stay : (q : ℕ) (x : Process) → get after.processes q ≡ Some x → (q ≡ 1) ⊎ HasParent after q x
  parents_stay q x is = elim (eqb_tells q p) [
    | inl same ↦
        let z : x ≡ zombie = same_Some x zombie (sym is ∙ ap (get after.processes) same.1 ∙ here) in
        elim (h.parents p (Alive old) was) [
          | inl one ↦ inl (same.1 ∙ one)
          | inr has ↦ inr (record {
            parent = has.parent;
            is = ap parent_of z ∙ has.is;
            other = λ e. has.other (e ∙ same.1);
            there = elim has.there [ inl alive ↦ inl (live_there has.parent has.other ∙ alive) | inr one ↦ inr one ];
          })
        ]
    | inr apart ↦
        let y = the_value (get s.processes q) (sym (some_there_other q apart.1) ∙ ap is_some is) in
        let is_orphan : x ≡ orphan p y.0 = same_Some x (orphan p y.0) (sym is ∙ there q apart.1 ∙ ap (option_map (orphan p)) y.1) in
        subst (λ (z : Process). (q ≡ 1) ⊎ HasParent after q z) (sym is_orphan) (orphan_parent q y.0 apart.1 (h.parents q y.0 y.1) (is_this p (parent_of y.0)) refl)
  ]
    where
      some_there_other : (q : ℕ) → q ≢ p → is_some (get after.processes q) ≡ is_some (get s.processes q)
      some_there_other q apart = some_there q

  first_stays : (q : ℕ) → IsSome (get after.processes q) → (x : Process) × (get after.processes 1 ≡ Some x) × (parent_of x ≡ None)
  first_stays q alive = let f = h.first p (ap is_some was) in elim (eqb_tells 1 p) [
    | inl e ↦ (zombie, ap (get after.processes) e.1 ∙ here, ap parent_of (same_Some (Alive old) f.0 (sym was ∙ sym (ap (get s.processes) e.1) ∙ f.1)) ∙ f.2)
    | inr e ↦
        let stays : orphan p f.0 ≡ f.0 = ap (λ (o : Option ℕ). cond (is_this p o) (given_to 1 f.0) f.0) f.2 in
        (f.0, there 1 e.1 ∙ ap (option_map (orphan p)) f.1 ∙ ap Some stays, f.2)
  ]

  descriptors_stay : (q d f : ℕ) → file_at after q d ≡ Some f → (d < NOFILE) × IsSome (get files f)
  descriptors_stay q d f e = elim (eqb_tells q p) [
    | inl same ↦ let none : file_at after q d ≡ None = ap (λ (n : ℕ). file_at after n d) same.1 ∙ file_here d in let no : ⊥ = cc in absurd no
    | inr apart ↦
        let before : file_at s q d ≡ Some f = sym (file_there q d apart.1) ∙ e in
        let r = h.descriptors q d f before in
        (r.0, ap is_some (spared f (q, d, apart.1, before)) ∙ r.1)
  ]

  named_still : (f : ℕ) → IsSome (get files f) → (q : ℕ) × (d : ℕ) × (file_at after q d ≡ Some f)
  named_still f e = let n = named_by f e in (n.0, n.1, file_there n.0 n.1 n.2 ∙ n.3)

  pub gone_well : WellFormed frames after
  gone_well = record {
    pids = λ q e. h.pids q (sym (some_there q) ∙ e);
    first = first_stays;
    parents = parents_stay;
    descriptors = descriptors_stay;
    ends = end_stays;
    named = named_still;
    readers = λ j y e. let x = pipe_before j y e in ap (λ (z : Pipe). z.readers) x.2 ∙ counts_fall j Reading x.0.readers (h.readers j x.0 x.1);
    writers = λ j y e. let x = pipe_before j y e in ap (λ (z : Pipe). z.writers) x.2 ∙ counts_fall j Writing x.0.writers (h.writers j x.0 x.1);
    held = λ j y e. (pipe_before j y e).3;
    counted = frames_stay;
    pipe_bytes = λ j y e. let x = pipe_before j y e in subst (λ (z : Pipe). length z.bytes ≤ PIPE_BYTES) (sym x.2) (h.pipe_bytes j x.0 x.1);
    keys = h.keys;
    to_send = h.to_send;
  }

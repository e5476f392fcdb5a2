-- Well-formed states stay so where a process's descriptors change: what has to be known.
use Rattle.kernel_spec.proofs.Prelude.{ℕ, ◌+◌, ◌<◌, ◌∙◌, ◌≡◌, ◌≢◌, ◌≤◌, Alive, ap, arith, Bool, cond, CONSOLE_BYTES, cost, count_below, End, end_of, ends, eq-eqb, eqb_tells, false, file_at, FinMap}
use Rattle.kernel_spec.proofs.Prelude.{get, inl, inr, insert, is_given_up, is_some, IsSome, len, length, Live, live, live_part, nat_cmp, NOFILE, None, numbered, on, OpenFile, Option, option_map}
use Rattle.kernel_spec.proofs.Prelude.{over_all, parent_of, Pipe, PIPE_BYTES, Pipe_end, price, Process, Reading, refl, remove, same_Some, SEND_BYTES, Some, State, subst, suc, sum_below, sym}
use Rattle.kernel_spec.proofs.Prelude.{target_of_open, WellFormed, Writing, zero, Zombie}
use Rattle.kernel_spec.proofs.steps.SeenByParts.{file_of}
use Rattle.kernel_spec.proofs.steps.MapsAfterChange.{get_same, get_other, get_without}
use Rattle.kernel_spec.proofs.steps.EndsAreCounted.{hits, hits_at, one}
use Rattle.kernel_spec.proofs.well.Sums.{sum_change}
use Rattle.kernel_spec.proofs.Common.{count_below-same, the_value}

-- ---- counts

-- where the tests differ at k alone
pub count_change : (n k : ℕ) (P Q : ℕ → Bool) → k < n → ((d : ℕ) → d ≢ k → P d ≡ Q d) → count_below P n + one (Q k) ≡ count_below Q n + one (P k)
unfolding count_below
count_change zero k P Q below same = absurd (omega arith)
count_change (suc n) k P Q below same =
    let a : ℕ = count_below P n in let b : ℕ = count_below Q n in let pk : ℕ = one (P k) in let qk : ℕ = one (Q k) in let pn : ℕ = one (P n) in let qn : ℕ = one (Q n) in
    elim (eqb_tells k n) [
      | inl e ↦
          let is : k ≡ n = e.1 in
          let rest : a ≡ b = count_below-same n P Q (λ d low. same d (λ r. let x : d ≡ k = r in omega arith)) in
          let x : pk ≡ pn = ap (λ (m : ℕ). one (P m)) is in let y : qk ≡ qn = ap (λ (m : ℕ). one (Q m)) is in
          let goal : a + pn + qk ≡ b + qn + pk = omega arith in goal
      | inr e ↦
          let apart : k ≢ n = e.1 in
          let rest : a + qk ≡ b + pk = count_change n k P Q (omega arith) same in
          let x : pn ≡ qn = ap one (same n (λ r. apart (sym r))) in
          let goal : a + pn + qk ≡ b + qn + pk = omega arith in goal
    ]

-- how many of a process's descriptors are on an end, by the targets of their open files
abbrev pub hits_of : State → FinMap nat_cmp ℕ → ℕ → End → ℕ → Bool
hits_of s ds j end d = hits j end (end_of s (get ds d))

pub ends_are : (s : State) (l : Live) (j : ℕ) (end : End) → ends (numbered s l) j end ≡ count_below (hits_of s l.descriptors j end) NOFILE
ends_are s l j end = λ k. count_below (λ d. hits_at s j end (get l.descriptors d) k) NOFILE

-- one descriptor more, and one fewer
pub count_put : (s : State) (ds : FinMap nat_cmp ℕ) (k g j : ℕ) (end : End) → k < NOFILE → get ds k ≡ None
    → count_below (hits_of s (insert ds k g) j end) NOFILE ≡ count_below (hits_of s ds j end) NOFILE + one (hits j end (end_of s (Some g)))
count_put s ds k g j end below free =
    let a : ℕ = count_below (hits_of s (insert ds k g) j end) NOFILE in let b : ℕ = count_below (hits_of s ds j end) NOFILE in
    let new : ℕ = one (hits_of s (insert ds k g) j end k) in let old : ℕ = one (hits_of s ds j end k) in let w : ℕ = one (hits j end (end_of s (Some g))) in
    let changes : a + old ≡ b + new = count_change NOFILE k (hits_of s (insert ds k g) j end) (hits_of s ds j end) below
    (λ d apart. ap (λ (o : Option ℕ). hits j end (end_of s o)) (get_other ds k g d apart)) in
    let x : new ≡ w = ap (λ (o : Option ℕ). one (hits j end (end_of s o))) (get_same ds k g) in
    let y : old ≡ 0 = ap (λ (o : Option ℕ). one (hits j end (end_of s o))) free in
    let goal : a ≡ b + w = omega arith in goal

pub count_take : (s : State) (ds : FinMap nat_cmp ℕ) (k g j : ℕ) (end : End) → k < NOFILE → get ds k ≡ Some g
    → count_below (hits_of s (remove ds k) j end) NOFILE + one (hits j end (end_of s (Some g))) ≡ count_below (hits_of s ds j end) NOFILE
count_take s ds k g j end below used =
    let a : ℕ = count_below (hits_of s (remove ds k) j end) NOFILE in let b : ℕ = count_below (hits_of s ds j end) NOFILE in
    let new : ℕ = one (hits_of s (remove ds k) j end k) in let old : ℕ = one (hits_of s ds j end k) in let w : ℕ = one (hits j end (end_of s (Some g))) in
    let changes : a + old ≡ b + new = count_change NOFILE k (hits_of s (remove ds k) j end) (hits_of s ds j end) below
    (λ d apart. ap (λ (o : Option ℕ). hits j end (end_of s o)) (elsewhere d apart)) in
    let x : old ≡ w = ap (λ (o : Option ℕ). one (hits j end (end_of s o))) used in
    let y : new ≡ 0 = ap (λ (o : Option ℕ). one (hits j end (end_of s o))) (get_without ds k k ∙ ap (λ (q : Bool). cond q None (get ds k)) (eq-eqb k k refl)) in
    let goal : a + w ≡ b = omega arith in goal
  where
    elsewhere : (d : ℕ) → d ≢ k → get (remove ds k) d ≡ get ds d
    elsewhere d apart = get_without ds k d ∙ elim (eqb_tells d k) [ inl e ↦ absurd (apart e.1) | inr e ↦ ap (λ (q : Bool). cond q None (get ds d)) e.0 ]

-- the same targets give the same count
pub count_files : (s t : State) (ds : FinMap nat_cmp ℕ) (j : ℕ) (end : End) → ((d g : ℕ) → get ds d ≡ Some g → get t.files g ≡ get s.files g)
    → count_below (hits_of t ds j end) NOFILE ≡ count_below (hits_of s ds j end) NOFILE
count_files s t ds j end same = count_below-same NOFILE (hits_of t ds j end) (hits_of s ds j end) (λ d below. by d (get ds d) refl)
  where
    by : (d : ℕ) (o : Option ℕ) → get ds d ≡ o → hits j end (end_of t o) ≡ hits j end (end_of s o)
    by d None e = refl
    by d (Some g) e = ap (λ (x : Option OpenFile). hits j end (target_of_open x)) (same d g e)

module _ (frames : ℕ) (s t : State) (h : WellFormed frames s) (p : ℕ) (l m : Live) (was : get s.processes p ≡ Some (Alive l)) (now : get t.processes p ≡ Some (Alive m))
    (others : (q : ℕ) → q ≢ p → get t.processes q ≡ get s.processes q) (parent : m.parent ≡ l.parent) (next : t.next_pid ≡ s.next_pid)
    (files : (q d g : ℕ) → q ≢ p → file_at s q d ≡ Some g → get t.files g ≡ get s.files g) where
  other_on : (j : ℕ) (end : End) (q : ℕ) → q ≢ p → on t j end (get t.processes q) ≡ on s j end (get s.processes q)
  other_on j end q apart = ap (on t j end) (others q apart) ∙ by (get s.processes q) refl
    where
      by : (o : Option Process) → get s.processes q ≡ o → on t j end o ≡ on s j end o
      by None e = refl
      by (Some (Alive k)) e = ends_are t k j end ∙ count_files s t k.descriptors j end
          (λ d g x. files q d g apart (ap (λ (o : Option Process). file_of (live_part o) d) e ∙ x)) ∙ sym (ends_are s k j end)
      by (Some (Zombie a b)) e = refl

  -- all descriptors on an end, by p's own
  pub total : (j : ℕ) (end : End) (more fewer : ℕ) → count_below (hits_of t m.descriptors j end) NOFILE + fewer ≡ count_below (hits_of s l.descriptors j end) NOFILE + more
      → over_all t (on t j end) + fewer ≡ over_all s (on s j end) + more
  total j end more fewer mine =
      let a : ℕ = over_all t (on t j end) in let b : ℕ = over_all s (on s j end) in
      let f : ℕ → ℕ = λ q. on t j end (get t.processes q) in let g : ℕ → ℕ = λ q. on s j end (get s.processes q) in
      let fp : ℕ = on t j end (get t.processes p) in let gp : ℕ = on s j end (get s.processes p) in
      let x : ℕ = count_below (hits_of t m.descriptors j end) NOFILE in let y : ℕ = count_below (hits_of s l.descriptors j end) NOFILE in
      let fx : fp ≡ x = ap (on t j end) now ∙ ends_are t m j end in let gy : gp ≡ y = ap (on s j end) was ∙ ends_are s l j end in
      let low : p < s.next_pid = (h.pids p (ap is_some was)).1 in
      let same : sum_below s.next_pid f ≡ a = ap (λ (n : ℕ). sum_below n f) (sym next) in
      let changes : sum_below s.next_pid f + gp ≡ b + fp = sum_change s.next_pid p f g low (λ q apart. other_on j end q apart) in
      let s1 : ℕ = sum_below s.next_pid f in
      let e1 : s1 ≡ a = same in let e2 : s1 + gp ≡ b + fp = changes in let e3 : x + fewer ≡ y + more = mine in
      let goal : a + fewer ≡ b + more = omega arith in goal

  -- ---- what isn't about files and pipes

  same_of : {A : Type 0} (f : Option Process → A) → f (Some (Alive m)) ≡ f (Some (Alive l)) → (q : ℕ) → f (get t.processes q) ≡ f (get s.processes q)
  same_of f same q = elim (eqb_tells q p) [
    | inl e ↦ ap (λ (n : ℕ). f (get t.processes n)) e.1 ∙ ap f now ∙ same ∙ sym (ap (λ (n : ℕ). f (get s.processes n)) e.1 ∙ ap f was)
    | inr e ↦ ap f (others q e.1)
  ]

  some_same : (q : ℕ) → is_some (get t.processes q) ≡ is_some (get s.processes q)
  some_same q = same_of (λ (o : Option Process). is_some o) refl q

  live_same : (q : ℕ) → is_some (live t q) ≡ is_some (live s q)
  live_same q = same_of (λ (o : Option Process). is_some (live_part o)) refl q

  parent_same : (q : ℕ) → option_map parent_of (get t.processes q) ≡ option_map parent_of (get s.processes q)
  parent_same q = same_of (λ (o : Option Process). option_map parent_of o) (ap Some parent) q

  before : (q : ℕ) (x : Process) → get t.processes q ≡ Some x → (y : Process) × (get s.processes q ≡ Some y) × (parent_of x ≡ parent_of y)
  before q x is =
      let y = the_value (get s.processes q) (sym (some_same q) ∙ ap is_some is) in
      (y.0, y.1, same_Some (parent_of x) (parent_of y.0) (sym (ap (option_map parent_of) is) ∙ parent_same q ∙ ap (option_map parent_of) y.1))

  first_same : (q : ℕ) → IsSome (get t.processes q) → (x : Process) × (get t.processes 1 ≡ Some x) × (parent_of x ≡ None)
  first_same q there =
      let f = h.first q (sym (some_same q) ∙ there) in
      let x = the_value (get t.processes 1) (some_same 1 ∙ ap is_some f.1) in
      (x.0, x.1, same_Some (parent_of x.0) None (sym (ap (option_map parent_of) x.1) ∙ parent_same 1 ∙ ap (option_map parent_of) f.1 ∙ ap Some f.2))

  other_file : (q d : ℕ) → q ≢ p → file_at t q d ≡ file_at s q d
  other_file q d apart = ap (λ (o : Option Process). file_of (live_part o) d) (others q apart)

  my_file : (d : ℕ) → file_at t p d ≡ get m.descriptors d
  my_file d = ap (λ (o : Option Process). file_of (live_part o) d) now

  module _ (mine : (d g : ℕ) → get m.descriptors d ≡ Some g → (d < NOFILE) × IsSome (get t.files g))
      (ends_there : (g i : ℕ) (x : OpenFile) (end : End) → get t.files g ≡ Some x → x.target ≡ Pipe_end i end → IsSome (get t.pipes i))
      (named_by : (g : ℕ) → IsSome (get t.files g) → (q : ℕ) × (d : ℕ) × (file_at t q d ≡ Some g))
      (readers : (i : ℕ) (x : Pipe) → get t.pipes i ≡ Some x → x.readers ≡ over_all t (on t i Reading))
      (writers : (i : ℕ) (x : Pipe) → get t.pipes i ≡ Some x → x.writers ≡ over_all t (on t i Writing))
      (held : (i : ℕ) (x : Pipe) → get t.pipes i ≡ Some x → is_given_up x ≡ false)
      (bytes : (i : ℕ) (x : Pipe) → get t.pipes i ≡ Some x → length x.bytes ≤ PIPE_BYTES)
      (paid : t.free + (price m.image + 1) + len t.pipes ≡ s.free + (price l.image + 1) + len s.pipes)
      (keys : length t.console.committed + length t.console.uncommitted ≤ CONSOLE_BYTES) (to_send : length t.console.to_send ≤ SEND_BYTES) where
    frames_same : t.free + over_all t cost + len t.pipes ≡ frames
    frames_same =
        let a : ℕ = over_all s cost in let b : ℕ = over_all t cost in let n : ℕ = len s.pipes in let k : ℕ = len t.pipes in
        let x : ℕ = price m.image + 1 in let y : ℕ = price l.image + 1 in
        let f : ℕ → ℕ = λ q. cost (get s.processes q) in let g : ℕ → ℕ = λ q. cost (get t.processes q) in
        let b1 : ℕ = sum_below s.next_pid g in let same : b1 ≡ b = ap (λ (z : ℕ). sum_below z g) (sym next) in
        let fp : ℕ = cost (get s.processes p) in let gp : ℕ = cost (get t.processes p) in
        let cx : gp ≡ x = ap cost now in let cy : fp ≡ y = ap cost was in
        let changes : a + gp ≡ b1 + fp = sum_change s.next_pid p f g ((h.pids p (ap is_some was)).1) (λ q apart. ap cost (sym (others q apart))) in
        let total_s : s.free + a + n ≡ frames = h.counted in let pay : t.free + x + k ≡ s.free + y + n = paid in
        let goal : t.free + b + k ≡ frames = omega arith in goal

    some_file : (q d g : ℕ) → file_at t q d ≡ Some g → (d < NOFILE) × IsSome (get t.files g)
    some_file q d g e = elim (eqb_tells q p) [
      | inl me ↦ mine d g (sym (my_file d) ∙ ap (λ (n : ℕ). file_at t n d) (sym me.1) ∙ e)
      | inr other ↦
          let there : file_at s q d ≡ Some g = sym (other_file q d other.1) ∙ e in
          let old = h.descriptors q d g there in
          (old.0, ap is_some (files q d g other.1 there) ∙ old.1)
    ]

    pub table_well : WellFormed frames t
    table_well = record {
      pids = λ q e. let b = h.pids q (sym (some_same q) ∙ e) in (b.0, subst (λ (n : ℕ). q < n) (sym next) b.1);
      first = first_same;
      parents = λ q x e. let y = before q x e in elim (h.parents q y.0 y.1) [
        | inl one ↦ inl one
        | inr has ↦ inr (record {
          parent = has.parent;
          is = y.2 ∙ has.is;
          other = has.other;
          there = elim has.there [ inl alive ↦ inl (live_same has.parent ∙ alive) | inr one ↦ inr one ];
        })
      ];
      descriptors = some_file;
      ends = ends_there;
      named = named_by;
      readers = readers;
      writers = writers;
      held = held;
      counted = frames_same;
      pipe_bytes = bytes;
      keys = keys;
      to_send = to_send;
    }

-- Well-formed states stay so: where a process changes itself, the console and the free frames.
use Rattle.kernel_spec.proofs.Prelude.{ℕ, ◌+◌, ◌∙◌, ◌≡◌, ◌≢◌, ◌≤◌, ◌⊎◌, Alive, ap, arith, Bool, Call, changed_state, Console, CONSOLE_BYTES, cost, End, eqb_tells, file_at, get, HasParent, Image, inl}
use Rattle.kernel_spec.proofs.Prelude.{inr, is_some, IsSome, len, length, Live, live, live_part, None, on, Option, option_map, over_all, parent_of, price, Process, Reading, refl, Registers, same_Some}
use Rattle.kernel_spec.proofs.Prelude.{SEND_BYTES, Some, State, sym, WellFormed, Writing}
use Rattle.kernel_spec.proofs.steps.SeenByParts.{file_of}
use Rattle.kernel_spec.proofs.steps.MapsAfterChange.{get_same, get_other}
use Rattle.kernel_spec.proofs.well.Sums.{sum_same, sum_change}
use Rattle.kernel_spec.proofs.Common.{the_value}

module _ (frames : ℕ) (s : State) (h : WellFormed frames s) (p : ℕ) (old : Live) (was : get s.processes p ≡ Some (Alive old)) (r : Registers)
    (i : Image) (c : Option Call) (k : Bool) (console : Console) (free : ℕ) where
  abbrev new : Live
  new = record old { regs = r; image = i; call = c; killed = k }

  abbrev pub after : State
  after = changed_state p new s.files s.pipes console free s

  here : get after.processes p ≡ Some (Alive new)
  here = get_same s.processes p (Alive new)

  there : (q : ℕ) → q ≢ p → get after.processes q ≡ get s.processes q
  there q apart = get_other s.processes p (Alive new) q apart

  -- what is the same of p before and after is the same of every process
  module _ {A : Type 0} (f : Option Process → A) (same : f (Some (Alive new)) ≡ f (Some (Alive old))) where
    pub same_of : (q : ℕ) → f (get after.processes q) ≡ f (get s.processes q)
    same_of q = elim (eqb_tells q p) [
      | inl e ↦ ap (λ (n : ℕ). f (get after.processes n)) e.1 ∙ ap f here ∙ same ∙ sym (ap (λ (n : ℕ). f (get s.processes n)) e.1 ∙ ap f was)
      | inr e ↦ ap f (there q e.1)
    ]

  abbrev parent_at : Option Process → Option (Option ℕ)
  parent_at o = option_map parent_of o

  some_there : (q : ℕ) → is_some (get after.processes q) ≡ is_some (get s.processes q)
  some_there q = same_of (λ (o : Option Process). is_some o) refl q

  live_there : (q : ℕ) → is_some (live after q) ≡ is_some (live s q)
  live_there q = same_of (λ (o : Option Process). is_some (live_part o)) refl q

  same_file : (q d : ℕ) → file_at after q d ≡ file_at s q d
  same_file q d = same_of (λ (o : Option Process). file_of (live_part o) d) refl q

  -- the process of this pid before the step
  before : (q : ℕ) (x : Process) → get after.processes q ≡ Some x → (y : Process) × (get s.processes q ≡ Some y) × (parent_of x ≡ parent_of y)
  before q x is =
      let y = the_value (get s.processes q) (sym (some_there q) ∙ ap is_some is) in
      let parents : Some (parent_of x) ≡ Some (parent_of y.0) = sym (ap parent_at is) ∙ same_of parent_at refl q ∙ ap parent_at y.1 in
      (y.0, y.1, same_Some (parent_of x) (parent_of y.0) parents)

  pub parents_stay : (q : ℕ) (x : Process) → get after.processes q ≡ Some x → (q ≡ 1) ⊎ HasParent after q x
  parents_stay q x is =
      let y = before q x is in
      elim (h.parents q y.0 y.1) [
        | inl one ↦ inl one
        | inr has ↦ inr (record {
          parent = has.parent;
          is = y.2 ∙ has.is;
          other = has.other;
          there = elim has.there [ inl alive ↦ inl (live_there has.parent ∙ alive) | inr one ↦ inr one ];
        })
      ]

  first_stays : (q : ℕ) → IsSome (get after.processes q) → (x : Process) × (get after.processes 1 ≡ Some x) × (parent_of x ≡ None)
  first_stays q alive =
      let f = h.first p (ap is_some was) in
      let x = the_value (get after.processes 1) (some_there 1 ∙ ap is_some f.1) in
      let y = before 1 x.0 x.1 in
      let same : y.0 ≡ f.0 = same_Some y.0 f.0 (sym y.1 ∙ f.1) in
      (x.0, x.1, y.2 ∙ ap parent_of same ∙ f.2)

  counts_stay : (j : ℕ) (end : End) → over_all after (on after j end) ≡ over_all s (on s j end)
  counts_stay j end = sum_same s.next_pid (λ q. on after j end (get after.processes q)) (λ q. on s j end (get s.processes q)) (λ q b. same_of (on s j end) refl q)

  -- the frames that the image takes come from the free ones
  module _ (paid : free + (price i + 1) ≡ s.free + (price old.image + 1))
      (keys : length console.committed + length console.uncommitted ≤ CONSOLE_BYTES) (to_send : length console.to_send ≤ SEND_BYTES) where
    frames_stay : free + over_all after cost + len s.pipes ≡ frames
    frames_stay =
        let a : ℕ = over_all s cost in let b : ℕ = over_all after cost in let n : ℕ = len s.pipes in
        let x : ℕ = price i + 1 in let y : ℕ = price old.image + 1 in
        let cx : cost (get after.processes p) ≡ x = ap cost here in let cy : cost (get s.processes p) ≡ y = ap cost was in
        let changed : a + cost (get after.processes p) ≡ b + cost (get s.processes p) =
        sum_change s.next_pid p (λ q. cost (get s.processes q)) (λ q. cost (get after.processes q)) ((h.pids p (ap is_some was)).1) (λ q apart. ap cost (sym (there q apart))) in
        let e : a + x ≡ b + y = (λ j. a + sym cx j) ∙ changed ∙ (λ j. b + cy j) in
        let total : s.free + a + n ≡ frames = h.counted in let pay : free + x ≡ s.free + y = paid in
        let goal : free + b + n ≡ frames = omega arith in goal

    pub alone_well : WellFormed frames after
    alone_well = record {
      pids = λ q e. h.pids q (sym (some_there q) ∙ e);
      first = first_stays;
      parents = parents_stay;
      descriptors = λ q d f e. h.descriptors q d f (sym (same_file q d) ∙ e);
      ends = h.ends;
      named = λ f e. let n = h.named f e in (n.0, n.1, same_file n.0 n.1 ∙ n.2);
      readers = λ j x e. h.readers j x e ∙ sym (counts_stay j Reading);
      writers = λ j x e. h.writers j x e ∙ sym (counts_stay j Writing);
      held = h.held;
      counted = frames_stay;
      pipe_bytes = h.pipe_bytes;
      keys = keys;
      to_send = to_send;
    }

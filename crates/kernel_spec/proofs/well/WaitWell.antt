-- A wait that takes a zombie leaves a well-formed state well-formed: first the process changes itself (`alone_well`), then the zombie goes.
use Rattle.kernel_spec.proofs.Prelude.{ℕ, ℤ, ◌+◌, ◌∙◌, ◌≡◌, ◌≢◌, ◌⊎◌, ap, Bool, cond, cost, End, eq-eqb, eqb_tells, file_at, get, HasParent, inl, inr, is_some, len, live, live_part, None, on, Option}
use Rattle.kernel_spec.proofs.Prelude.{option_map, over_all, parent_of, Process, Reading, refl, remove_zombie, Some, State, sym, WellFormed, Writing, Zombie}
use Rattle.kernel_spec.proofs.steps.SeenByParts.{file_of}
use Rattle.kernel_spec.proofs.steps.MapsAfterChange.{get_without}
use Rattle.kernel_spec.proofs.well.Sums.{sum_same}
use Rattle.kernel_spec.proofs.Common.{the_value}

module _ (frames : ℕ) (s : State) (h : WellFormed frames s) (q p : ℕ) (status : ℤ) (zombie : get s.processes q ≡ Some (Zombie (Some p) status)) where
  abbrev after : State
  after = remove_zombie q s

  at_q : get after.processes q ≡ None
  at_q = get_without s.processes q q ∙ ap (λ (b : Bool). cond b None (get s.processes q)) (eq-eqb q q refl)

  there : (r : ℕ) → r ≢ q → get after.processes r ≡ get s.processes r
  there r apart = get_without s.processes q r ∙ elim (eqb_tells r q) [ inl e ↦ absurd (apart e.1) | inr e ↦ ap (λ (b : Bool). cond b None (get s.processes r)) e.0 ]

  -- what doesn't tell a zombie from nothing is the same of all
  same_of : {A : Type 0} (f : Option Process → A) → f None ≡ f (Some (Zombie (Some p) status)) → (r : ℕ) → f (get after.processes r) ≡ f (get s.processes r)
  same_of f same r = elim (eqb_tells r q) [
    | inl e ↦ ap (λ (n : ℕ). f (get after.processes n)) e.1 ∙ ap f at_q ∙ same ∙ sym (ap (λ (n : ℕ). f (get s.processes n)) e.1 ∙ ap f zombie)
    | inr e ↦ ap f (there r e.1)
  ]

  not_there : (r : ℕ) (x : Process) → get after.processes r ≡ Some x → r ≢ q
  not_there r x is e = let none : get after.processes r ≡ None = ap (get after.processes) e ∙ at_q in let no : ⊥ = cc in no

  before : (r : ℕ) (x : Process) → get after.processes r ≡ Some x → get s.processes r ≡ Some x
  before r x is = sym (there r (not_there r x is)) ∙ is

  live_there : (r : ℕ) → is_some (live after r) ≡ is_some (live s r)
  live_there r = same_of (λ (o : Option Process). is_some (live_part o)) refl r

  same_file : (r d : ℕ) → file_at after r d ≡ file_at s r d
  same_file r d = same_of (λ (o : Option Process). file_of (live_part o) d) refl r

  counts_stay : (j : ℕ) (end : End) → over_all after (on after j end) ≡ over_all s (on s j end)
  counts_stay j end = sum_same s.next_pid (λ r. on after j end (get after.processes r)) (λ r. on s j end (get s.processes r)) (λ r b. same_of (on s j end) refl r)

  costs_stay : over_all after cost ≡ over_all s cost
  costs_stay = sum_same s.next_pid (λ r. cost (get after.processes r)) (λ r. cost (get s.processes r)) (λ r b. same_of cost refl r)

  one_stays : 1 ≢ q
  one_stays e =
      let f = h.first q (ap is_some zombie) in
      let same : Some f.0 ≡ Some (Zombie (Some p) status) = sym f.1 ∙ ap (get s.processes) e ∙ zombie in
      let parents : Some (parent_of f.0) ≡ Some (Some p) = ap (option_map parent_of) same in
      let none : parent_of f.0 ≡ None = f.2 in
      let no : ⊥ = cc in no

  parents_stay : (r : ℕ) (x : Process) → get after.processes r ≡ Some x → (r ≡ 1) ⊎ HasParent after r x
  parents_stay r x is = elim (h.parents r x (before r x is)) [
    | inl one ↦ inl one
    | inr has ↦ inr (record { parent = has.parent; is = has.is; other = has.other; there = elim has.there [ inl alive ↦ inl (live_there has.parent ∙ alive) | inr one ↦ inr one ] })
  ]

  pub reaped_well : WellFormed frames after
  reaped_well = record {
    pids = λ r e. let x = the_value (get after.processes r) e in h.pids r (ap is_some (before r x.0 x.1));
    first = λ r e. let f = h.first q (ap is_some zombie) in (f.0, there 1 one_stays ∙ f.1, f.2);
    parents = parents_stay;
    descriptors = λ r d f e. h.descriptors r d f (sym (same_file r d) ∙ e);
    ends = h.ends;
    named = λ f e. let n = h.named f e in (n.0, n.1, same_file n.0 n.1 ∙ n.2);
    readers = λ j x e. h.readers j x e ∙ sym (counts_stay j Reading);
    writers = λ j x e. h.writers j x e ∙ sym (counts_stay j Writing);
    held = h.held;
    counted = (λ i. s.free + costs_stay i + len s.pipes) ∙ h.counted;
    pipe_bytes = h.pipe_bytes;
    keys = h.keys;
    to_send = h.to_send;
  }

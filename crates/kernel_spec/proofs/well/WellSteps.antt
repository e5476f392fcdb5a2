-- Well-formed states stay so where a pipe gets other bytes, a file another offset, a process a mark.
use Rattle.kernel_spec.proofs.Prelude.{[], ℕ, ◌+◌, ◌∙◌, ◌≡◌, ◌≤◌, ◌⊎◌, Alive, ap, Bool, cond, cost, count_below, End, end_of, ends, eqb_tells, false, File, file_at, get, inl, inr, insert, is_given_up}
use Rattle.kernel_spec.proofs.Prelude.{is_some, IsSome, len, len-insert, length, Live, live, live_part, mark, marked, nat_cmp_total, nat_eq, NOFILE, None, numbered, on, OpenFile, Option, option_map}
use Rattle.kernel_spec.proofs.Prelude.{over_all, parent_of, Pipe, PIPE_BYTES, Pipe_end, Process, Reading, refl, same_Some, set_file, set_pipe, Some, State, subst, sym, target_of_open, true}
use Rattle.kernel_spec.proofs.Prelude.{WellFormed, WellMarked, WellMoved, WellPiped, Writing, Zombie}
use Rattle.kernel_spec.proofs.steps.SeenByParts.{file_of}
use Rattle.kernel_spec.proofs.steps.MapsAfterChange.{get_same, get_other}
use Rattle.kernel_spec.proofs.steps.EndsAreCounted.{hits, hits_at}
use Rattle.kernel_spec.proofs.well.Sums.{sum_same}
use Rattle.kernel_spec.proofs.well.ForkWell.{same_ends}
use Rattle.kernel_spec.proofs.steps.OrphansKeepKeys.{get-change}
use Rattle.kernel_spec.proofs.Common.{marked_again, the_value}

-- ---- a pipe with other bytes

module _ (frames : ℕ) (s : State) (i : ℕ) (x y : Pipe) (h : WellFormed frames s) (is : get s.pipes i ≡ Some x) (same_readers : y.readers ≡ x.readers)
    (same_writers : y.writers ≡ x.writers) (room : length y.bytes ≤ PIPE_BYTES) where
  abbrev piped : State
  piped = set_pipe i y s

  same_on : (j : ℕ) (end : End) (o : Option Process) → on piped j end o ≡ on s j end o
  same_on j end None = refl
  same_on j end (Some (Alive l)) = same_ends s piped refl l j end
  same_on j end (Some (Zombie parent status)) = refl

  same_total : (j : ℕ) (end : End) → over_all piped (on piped j end) ≡ over_all s (on s j end)
  same_total j end = sum_same s.next_pid (λ p. on piped j end (get s.processes p)) (λ p. on s j end (get s.processes p)) (λ p b. same_on j end (get s.processes p))

  -- each pipe is y, or one of before
  which : (j : ℕ) (z : Pipe) → get piped.pipes j ≡ Some z → ((j ≡ i) × (y ≡ z)) ⊎ (get s.pipes j ≡ Some z)
  which j z e = elim (eqb_tells j i) [
    | inl q ↦ inl (q.1, same_Some y z (sym (get_same s.pipes i y) ∙ ap (get (insert s.pipes i y)) (sym q.1) ∙ e))
    | inr q ↦ inr (sym (get_other s.pipes i y j q.1) ∙ e)
  ]

  still_there : (j : ℕ) → IsSome (get s.pipes j) → IsSome (get piped.pipes j)
  still_there j there = elim (eqb_tells j i) [
    | inl q ↦ ap is_some (ap (get (insert s.pipes i y)) q.1 ∙ get_same s.pipes i y)
    | inr q ↦ ap is_some (get_other s.pipes i y j q.1) ∙ there
  ]

  same_many : len piped.pipes ≡ len s.pipes
  same_many = len-insert nat_cmp_total s.pipes i y ∙ ap (λ (b : Bool). cond b (len s.pipes) (len s.pipes + 1)) (ap is_some is)

  given_same : (a b : Pipe) → a.readers ≡ b.readers → a.writers ≡ b.writers → is_given_up a ≡ is_given_up b
  given_same a b e f = λ k. is_given_up (record { bytes = []; readers = e k; writers = f k })

  pub piped_well : WellFormed frames piped
  piped_well = record {
    pids = h.pids;
    first = h.first;
    parents = λ p z e. elim (h.parents p z e) [ inl one ↦ inl one | inr has ↦ inr (record { parent = has.parent; is = has.is; other = has.other; there = has.there }) ];
    descriptors = h.descriptors;
    ends = λ f j z end a b. still_there j (h.ends f j z end a b);
    named = h.named;
    readers = λ j z e. elim (which j z e) [
      | inl new ↦ sym (ap (λ (w : Pipe). w.readers) new.1) ∙ same_readers ∙ h.readers i x is ∙ (λ k. over_all s (on s (sym new.0 k) Reading)) ∙ sym (same_total j Reading)
      | inr old ↦ h.readers j z old ∙ sym (same_total j Reading)
    ];
    writers = λ j z e. elim (which j z e) [
      | inl new ↦ sym (ap (λ (w : Pipe). w.writers) new.1) ∙ same_writers ∙ h.writers i x is ∙ (λ k. over_all s (on s (sym new.0 k) Writing)) ∙ sym (same_total j Writing)
      | inr old ↦ h.writers j z old ∙ sym (same_total j Writing)
    ];
    held = λ j z e. elim (which j z e) [
      | inl new ↦ given_same z x (sym (ap (λ (w : Pipe). w.readers) new.1) ∙ same_readers) (sym (ap (λ (w : Pipe). w.writers) new.1) ∙ same_writers) ∙ h.held i x is
      | inr old ↦ h.held j z old
    ];
    counted = (λ k. s.free + over_all s cost + same_many k) ∙ h.counted;
    pipe_bytes = λ j z e. elim (which j z e) [
      | inl new ↦ subst (λ (w : Pipe). length w.bytes ≤ PIPE_BYTES) new.1 room
      | inr old ↦ h.pipe_bytes j z old
    ];
    keys = h.keys;
    to_send = h.to_send;
  }

pub well_piped : WellPiped
well_piped frames s i x y h is same_readers same_writers room = piped_well frames s i x y h is same_readers same_writers room

-- ---- a file with another offset

module _ (frames : ℕ) (s : State) (f program offset moved : ℕ) (r w : Bool) (h : WellFormed frames s) (is : get s.files f ≡ Some (record { read = r; write = w; target = File program offset })) where
  abbrev there : OpenFile
  there = record { read = r; write = w; target = File program moved }

  abbrev filed : State
  filed = set_file f there s

  same_hits : (j : ℕ) (end : End) (o : Option ℕ) → hits j end (end_of filed o) ≡ hits j end (end_of s o)
  same_hits j end None = refl
  same_hits j end (Some g) = elim (eqb_tells g f) [
    | inl e ↦ ap (λ (o : Option OpenFile). hits j end (target_of_open o)) (ap (get filed.files) e.1 ∙ get_same s.files f there)
        ∙ sym (ap (λ (o : Option OpenFile). hits j end (target_of_open o)) (ap (get s.files) e.1 ∙ is))
    | inr e ↦ ap (λ (o : Option OpenFile). hits j end (target_of_open o)) (get_other s.files f there g e.1)
  ]

  same_count : (l : Live) (j : ℕ) (end : End) → ends (numbered filed l) j end ≡ ends (numbered s l) j end
  same_count l j end =
      (λ k. count_below (λ d. hits_at filed j end (get l.descriptors d) k) NOFILE)
      ∙ (λ k. count_below (λ d. same_hits j end (get l.descriptors d) k) NOFILE)
      ∙ sym (λ k. count_below (λ d. hits_at s j end (get l.descriptors d) k) NOFILE)

  on_same : (j : ℕ) (end : End) (o : Option Process) → on filed j end o ≡ on s j end o
  on_same j end None = refl
  on_same j end (Some (Alive l)) = same_count l j end
  on_same j end (Some (Zombie parent status)) = refl

  total_same : (j : ℕ) (end : End) → over_all filed (on filed j end) ≡ over_all s (on s j end)
  total_same j end = sum_same s.next_pid (λ p. on filed j end (get s.processes p)) (λ p. on s j end (get s.processes p)) (λ p b. on_same j end (get s.processes p))

  file_there : (g : ℕ) → is_some (get filed.files g) ≡ is_some (get s.files g)
  file_there g = elim (eqb_tells g f) [
    | inl e ↦ ap is_some (ap (get filed.files) e.1 ∙ get_same s.files f there) ∙ sym (ap is_some (ap (get s.files) e.1 ∙ is))
    | inr e ↦ ap is_some (get_other s.files f there g e.1)
  ]

  no_pipe_end : (x : OpenFile) (j : ℕ) (end : End) → there ≡ x → x.target ≡ Pipe_end j end → ⊥
  no_pipe_end x j end e t = let q : File program moved ≡ Pipe_end j end = ap (λ (z : OpenFile). z.target) e ∙ t in let no : ⊥ = cc in no

  pub moved_well : WellFormed frames filed
  moved_well = record {
    pids = h.pids;
    first = h.first;
    parents = λ p z e. elim (h.parents p z e) [ inl one ↦ inl one | inr has ↦ inr (record { parent = has.parent; is = has.is; other = has.other; there = has.there }) ];
    descriptors = λ p d g e. let q = h.descriptors p d g e in (q.0, file_there g ∙ q.1);
    ends = λ g j x end a b. elim (eqb_tells g f) [
      | inl e ↦ absurd (no_pipe_end x j end (same_Some there x (sym (get_same s.files f there) ∙ ap (get filed.files) (sym e.1) ∙ a)) b)
      | inr e ↦ h.ends g j x end (sym (get_other s.files f there g e.1) ∙ a) b
    ];
    named = λ g e. h.named g (sym (file_there g) ∙ e);
    readers = λ j z e. h.readers j z e ∙ sym (total_same j Reading);
    writers = λ j z e. h.writers j z e ∙ sym (total_same j Writing);
    held = h.held;
    counted = h.counted;
    pipe_bytes = h.pipe_bytes;
    keys = h.keys;
    to_send = h.to_send;
  }

pub well_moved : WellMoved
well_moved frames s f program offset moved r w h is = moved_well frames s f program offset moved r w h is

-- ---- a mark

module _ (frames : ℕ) (s : State) (q : ℕ) (h : WellFormed frames s) where
  abbrev hurt : State
  hurt = mark q s

  at : (r : ℕ) → get hurt.processes r ≡ cond (nat_eq r q) (option_map marked (get s.processes r)) (get s.processes r)
  at r = get-change marked marked_again s.processes q r (get s.processes q) refl

  -- what a mark doesn't change is the same of all
  same_of : {A : Type 0} (f : Option Process → A) → ((x : Process) → f (Some (marked x)) ≡ f (Some x)) → (r : ℕ) → f (get hurt.processes r) ≡ f (get s.processes r)
  same_of f same r = ap f (at r) ∙ by (nat_eq r q) (get s.processes r)
    where
      by : (b : Bool) (o : Option Process) → f (cond b (option_map marked o) o) ≡ f o
      by true None = refl
      by true (Some x) = same x
      by false o = refl

  kept_some : (r : ℕ) → is_some (get hurt.processes r) ≡ is_some (get s.processes r)
  kept_some r = same_of (λ (o : Option Process). is_some o) (λ x. refl) r

  kept_live : (r : ℕ) → is_some (live hurt r) ≡ is_some (live s r)
  kept_live r = same_of (λ (o : Option Process). is_some (live_part o)) by r
    where
      by : (x : Process) → is_some (live_part (Some (marked x))) ≡ is_some (live_part (Some x))
      by (Alive l) = refl
      by (Zombie parent status) = refl

  kept_file : (r d : ℕ) → file_at hurt r d ≡ file_at s r d
  kept_file r d = same_of (λ (o : Option Process). file_of (live_part o) d) by r
    where
      by : (x : Process) → file_of (live_part (Some (marked x))) d ≡ file_of (live_part (Some x)) d
      by (Alive l) = refl
      by (Zombie parent status) = refl

  kept_on : (j : ℕ) (end : End) (r : ℕ) → on s j end (get hurt.processes r) ≡ on s j end (get s.processes r)
  kept_on j end r = same_of (on s j end) by r
    where
      by : (x : Process) → on s j end (Some (marked x)) ≡ on s j end (Some x)
      by (Alive l) = refl
      by (Zombie parent status) = refl

  kept_cost : (r : ℕ) → cost (get hurt.processes r) ≡ cost (get s.processes r)
  kept_cost r = same_of cost by r
    where
      by : (x : Process) → cost (Some (marked x)) ≡ cost (Some x)
      by (Alive l) = refl
      by (Zombie parent status) = refl

  parents_of : (x : Process) → parent_of (marked x) ≡ parent_of x
  parents_of (Alive l) = refl
  parents_of (Zombie parent status) = refl

  parent_at : (r : ℕ) → option_map parent_of (get hurt.processes r) ≡ option_map parent_of (get s.processes r)
  parent_at r = same_of (λ (o : Option Process). option_map parent_of o) (λ x. ap Some (parents_of x)) r

  before : (r : ℕ) (x : Process) → get hurt.processes r ≡ Some x → (y : Process) × (get s.processes r ≡ Some y) × (parent_of x ≡ parent_of y)
  before r x is =
      let y = the_value (get s.processes r) (sym (kept_some r) ∙ ap is_some is) in
      (y.0, y.1, same_Some (parent_of x) (parent_of y.0) (sym (ap (option_map parent_of) is) ∙ parent_at r ∙ ap (option_map parent_of) y.1))

  first_kept : (p : ℕ) → IsSome (get hurt.processes p) → (x : Process) × (get hurt.processes 1 ≡ Some x) × (parent_of x ≡ None)
  first_kept p there =
      let f = h.first p (sym (kept_some p) ∙ there) in
      let x = the_value (get hurt.processes 1) (kept_some 1 ∙ ap is_some f.1) in
      (x.0, x.1, same_Some (parent_of x.0) None (sym (ap (option_map parent_of) x.1) ∙ parent_at 1 ∙ ap (option_map parent_of) f.1 ∙ ap Some f.2))

  total_kept : (j : ℕ) (end : End) → over_all hurt (on hurt j end) ≡ over_all s (on s j end)
  total_kept j end = sum_same s.next_pid (λ p. on hurt j end (get hurt.processes p)) (λ p. on s j end (get s.processes p)) (λ p b. same_here j end (get hurt.processes p) ∙ kept_on j end p)
    where
      same_here : (j : ℕ) (end : End) (o : Option Process) → on hurt j end o ≡ on s j end o
      same_here j end None = refl
      same_here j end (Some (Alive l)) = same_ends s hurt refl l j end
      same_here j end (Some (Zombie parent status)) = refl

  pub marked_well : WellFormed frames hurt
  marked_well = record {
    pids = λ p e. h.pids p (sym (kept_some p) ∙ e);
    first = first_kept;
    parents = λ p x e. let y = before p x e in elim (h.parents p y.0 y.1) [
      | inl one ↦ inl one
      | inr has ↦ inr (record {
        parent = has.parent;
        is = y.2 ∙ has.is;
        other = has.other;
        there = elim has.there [ inl alive ↦ inl (kept_live has.parent ∙ alive) | inr one ↦ inr one ];
      })
    ];
    descriptors = λ p d f e. h.descriptors p d f (sym (kept_file p d) ∙ e);
    ends = h.ends;
    named = λ f e. let n = h.named f e in (n.0, n.1, kept_file n.0 n.1 ∙ n.2);
    readers = λ j z e. h.readers j z e ∙ sym (total_kept j Reading);
    writers = λ j z e. h.writers j z e ∙ sym (total_kept j Writing);
    held = h.held;
    counted = (λ k. s.free + sum_same s.next_pid (λ p. cost (get hurt.processes p)) (λ p. cost (get s.processes p)) (λ p b. kept_cost p) k + len s.pipes) ∙ h.counted;
    pipe_bytes = h.pipe_bytes;
    keys = h.keys;
    to_send = h.to_send;
  }

pub well_marked : WellMarked
well_marked frames s q h = marked_well frames s q h

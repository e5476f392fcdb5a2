-- What the laws of fork and exit ask of a state stands in every well-formed one.
use Rattle.kernel_spec.proofs.Prelude.{ℕ, ◌+◌, ◌-◌, ◌<◌, ◌∙◌, ◌≡◌, ◌≢◌, ◌≤◌, Alive, and_left, and_right, ap, arith, End, ends, eq-eqb, false, File, get, inl, inr, is_given_up, is_some, is_this}
use Rattle.kernel_spec.proofs.Prelude.{IsSome, Live, live, nat_eq, NOFILE, None, numbered, on, on_end, OpenFile, Option, over_all, parent_of, Pipe, pipe_at, Pipe_end, pipe_of_target, Process, Reading}
use Rattle.kernel_spec.proofs.Prelude.{refl, Some, State, sym, Target, Terminal, WellFormed, Writing}
use Rattle.kernel_spec.proofs.steps.SeenByParts.{file_of, pipe_of_file, pipe_of_open}
use Rattle.kernel_spec.proofs.steps.OthersTableIsSeen.{OtherHas}
use Rattle.kernel_spec.proofs.well.Sums.{sum_term, sum_terms}
use Rattle.kernel_spec.proofs.steps.ClosingCountsDown.{fewer, count_some, on_an_end, name_of_pipe, nonzero}
use Rattle.kernel_spec.proofs.steps.ForkIsItsRow.{CanFork}
use Rattle.kernel_spec.proofs.steps.GoneIsItsRow.{CanGo}
use Rattle.kernel_spec.proofs.Common.{alive_part, there_if_alive}

some_of : (o : Option Pipe) → IsSome o → (x : Pipe) × (o ≡ Some x)
some_of None h = let no : ⊥ = cc in absurd no
some_of (Some x) h = (x, refl)

module _ (frames : ℕ) (s : State) (h : WellFormed frames s) where
  target_there : (f j : ℕ) (x : OpenFile) (y : Target) → get s.files f ≡ Some x → x.target ≡ y → pipe_of_target y ≡ Some j → (z : Pipe) × (get s.pipes j ≡ Some z)
  target_there f j x Terminal is t e = let no : ⊥ = cc in absurd no
  target_there f j x (File program offset) is t e = let no : ⊥ = cc in absurd no
  target_there f j x (Pipe_end i end) is t e = let same : i ≡ j = cc in some_of (get s.pipes j) (ap (λ (k : ℕ). is_some (get s.pipes k)) (sym same) ∙ h.ends f i x end is t)

  open_there : (f j : ℕ) (o : Option OpenFile) → get s.files f ≡ o → pipe_of_open o ≡ Some j → (z : Pipe) × (get s.pipes j ≡ Some z)
  open_there f j None is e = let no : ⊥ = cc in absurd no
  open_there f j (Some x) is e = target_there f j x x.target is refl e

  -- an end of a pipe names a pipe
  pub pipe_there : (o : Option ℕ) (j : ℕ) → pipe_of_file s o ≡ Some j → (z : Pipe) × (get s.pipes j ≡ Some z)
  pipe_there None j e = let no : ⊥ = cc in absurd no
  pipe_there (Some f) j e = open_there f j (get s.files f) refl e

  parent_below : (p : ℕ) (x : Process) → get s.processes p ≡ Some x → parent_of x ≢ Some s.next_pid
  parent_below p x is e = elim (h.parents p x is) [
    | inl one ↦
        let first = h.first p (ap is_some is) in
        let same : Some x ≡ Some first.0 = sym is ∙ ap (get s.processes) one ∙ first.1 in
        let same_process : x ≡ first.0 = cc in
        let none : parent_of x ≡ None = ap parent_of same_process ∙ first.2 in
        let no : ⊥ = cc in no
    | inr has ↦
        let q : ℕ = has.parent in
        let same : Some q ≡ Some s.next_pid = sym has.is ∙ e in
        let is_next : q ≡ s.next_pid = cc in
        let below : q < s.next_pid = elim has.there [
          | inl alive ↦ (h.pids q (there_if_alive (get s.processes q) alive)).1
          | inr one ↦ let b : 1 < s.next_pid = (h.pids 1 (ap is_some (h.first p (ap is_some is)).1)).1 in let q1 : q ≡ 1 = one in omega arith
        ] in
        omega arith
  ]

  -- ---- fork

  pub can_fork : (l : Live) → CanFork s l
  can_fork l = record {
    below = λ q there. (h.pids q there).1;
    unknown = parent_below;
    pipes = λ d j e. pipe_there (get l.descriptors d) j e;
  }

  -- ---- exit

  module _ (p : ℕ) (l : Live) (is : get s.processes p ≡ Some (Alive l)) where
    below : p < s.next_pid
    below = (h.pids p (ap is_some is)).1

    on_is : (j : ℕ) (end : End) → on s j end (get s.processes p) ≡ ends (numbered s l) j end
    on_is j end = ap (on s j end) is

    at_least : (j : ℕ) (end : End) (n : ℕ) → n ≡ over_all s (on s j end) → ends (numbered s l) j end ≤ n
    at_least j end n e =
        let a : ℕ = ends (numbered s l) j end in let b : ℕ = on s j end (get s.processes p) in let c : ℕ = over_all s (on s j end) in
        let same : b ≡ a = on_is j end in let term : b ≤ c = sum_term s.next_pid p (λ q. on s j end (get s.processes q)) below in
        let ne : n ≡ c = e in
        let goal : a ≤ n = omega arith in goal

    -- and more where another process is on the end
    more_than : (j : ℕ) (end : End) (n : ℕ) → n ≡ over_all s (on s j end) → (q : ℕ) → q ≢ p → (m : Live) → get s.processes q ≡ Some (Alive m)
        → (k : ℕ) → ends (numbered s m) j end ≡ k + 1 → (e : ℕ) × (n - ends (numbered s l) j end ≡ e + 1)
    more_than j end n e q other m is_q k some =
        let a : ℕ = ends (numbered s l) j end in let b : ℕ = ends (numbered s m) j end in let c : ℕ = over_all s (on s j end) in
        let fp : ℕ = on s j end (get s.processes p) in let fq : ℕ = on s j end (get s.processes q) in
        let x : fp ≡ a = on_is j end in let y : fq ≡ b = ap (on s j end) is_q in
        let both : fp + fq ≤ c = sum_terms s.next_pid p q (λ r. on s j end (get s.processes r)) below ((h.pids q (ap is_some is_q)).1) (λ z. other (sym z)) in
        let ne : n ≡ c = e in let bk : b ≡ k + 1 = some in
        (n - a - 1, omega arith)

    held_by_other : (j : ℕ) (x : Pipe) → OtherHas s p j → get s.pipes j ≡ Some x → is_given_up (fewer s l j x) ≡ false
    held_by_other j x (q, d, other, has) is_x = by_live (live s q) refl
      where
        by_live : (o : Option Live) → live s q ≡ o → is_given_up (fewer s l j x) ≡ false
        by_live None e = let none : pipe_at s q d ≡ None = ap (λ (m : Option Live). pipe_of_file s (file_of m d)) e in let no : ⊥ = cc in absurd no
        by_live (Some m) e =
            let is_q : get s.processes q ≡ Some (Alive m) = alive_part (get s.processes q) m e in
            let on_j : pipe_of_file s (get m.descriptors d) ≡ Some j = sym (ap (λ (o : Option Live). pipe_of_file s (file_of o d)) e) ∙ has in
            let low : d < NOFILE = below_NOFILE m e (get m.descriptors d) refl on_j in
            elim (on_an_end j (numbered s m d) (ap (is_this j) (name_of_pipe s m (get m.descriptors d) ∙ on_j) ∙ eq-eqb j j refl)) [
              | inl r ↦
                  let c = count_some NOFILE (λ g. on_end j Reading (numbered s m g)) d low r in
                  let n = more_than j Reading x.readers (h.readers j x is_x) q other m is_q c.0 c.1 in
                  and_left (nat_eq (x.readers - ends (numbered s l) j Reading) 0) (nat_eq (x.writers - ends (numbered s l) j Writing) 0) (nonzero (x.readers - ends (numbered s l) j Reading) n.0 n.1)
              | inr w ↦
                  let c = count_some NOFILE (λ g. on_end j Writing (numbered s m g)) d low w in
                  let n = more_than j Writing x.writers (h.writers j x is_x) q other m is_q c.0 c.1 in
                  and_right (nat_eq (x.readers - ends (numbered s l) j Reading) 0) (nat_eq (x.writers - ends (numbered s l) j Writing) 0) (nonzero (x.writers - ends (numbered s l) j Writing) n.0 n.1)
            ]
          where
            below_NOFILE : (m : Live) → live s q ≡ Some m → (o : Option ℕ) → get m.descriptors d ≡ o → pipe_of_file s o ≡ Some j → d < NOFILE
            below_NOFILE m e None i z = let no : ⊥ = cc in absurd no
            below_NOFILE m e (Some f) i z = (h.descriptors q d f (ap (λ (y : Option Live). file_of y d) e ∙ i)).0

    no_own_parent : (x : Process) → get s.processes p ≡ Some x → parent_of x ≢ Some p
    no_own_parent x is_x e = elim (h.parents p x is_x) [
      | inl one ↦
          let first = h.first p (ap is_some is_x) in
          let same : Some x ≡ Some first.0 = sym is_x ∙ ap (get s.processes) one ∙ first.1 in
          let same_process : x ≡ first.0 = cc in
          let none : parent_of x ≡ None = ap parent_of same_process ∙ first.2 in
          let no : ⊥ = cc in no
      | inr has ↦ let same : Some has.parent ≡ Some p = sym has.is ∙ e in let is_p : has.parent ≡ p = cc in has.other is_p
    ]

    pub can_go : CanGo s p l
    can_go = record {
      parent = no_own_parent (Alive l) is;
      pipes = λ d j e. pipe_there (get l.descriptors d) j e;
      counts = λ j x is_x. (at_least j Reading x.readers (h.readers j x is_x), at_least j Writing x.writers (h.writers j x is_x), h.held j x is_x);
      held = held_by_other;
    }

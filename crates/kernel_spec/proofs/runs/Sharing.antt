-- Which descriptors of which processes are on the same open file, or on the same pipe, after a step: in two states in which the same ones were so before, and in which the
-- stepping process saw the same, the same ones are so.
use Rattle.kernel_spec.proofs.Prelude.{ℕ, ◌∙◌, ◌≡◌, ◌≢◌, ◌⊎◌, ap, AreShown, Bool, Descriptor, eq-eqb, eqb-true, eqb_tells, false, file_at, FilesAfter, inl, inr, is_same, is_some, IsNewbornOf, IsSome}
use Rattle.kernel_spec.proofs.Prelude.{live, MatchOption, meets_on_file, meets_on_pipe, None, Option, Own, own, pipe_at, refl, same_test, seen, seen_shown, Shown, Shown_file, Shown_pipe}
use Rattle.kernel_spec.proofs.Prelude.{shown_pipe_name, Shown_terminal, Some, State, StateAfter, subst, sym, true, View, view}
use Rattle.kernel_spec.proofs.steps.SeenByParts.{pipe_of_file, seen_descriptor, left_at}
use Rattle.kernel_spec.proofs.steps.OthersKeepTheRest.{pid_is}
use Rattle.kernel_spec.proofs.calls.Tables.{Table, is_end}
use Rattle.kernel_spec.proofs.calls.Steps.{own_facts}
use Rattle.kernel_spec.proofs.runs.Shown.{shown_at, file_seen, pipe_seen}
use Rattle.kernel_spec.proofs.Common.{none_from_is_some, the_value, view_low}

-- ---- two numbers, each if it is there

pub some_same : (o : Option ℕ) → is_same o o ≡ is_some o
some_same None = refl
some_same (Some n) = eq-eqb n n refl

pub both_some : (a b : Option ℕ) → is_same a b ≡ true → (f : ℕ) × (a ≡ Some f) × (b ≡ Some f)
both_some None b e = let no : ⊥ = cc in absurd no
both_some (Some n) None e = let no : ⊥ = cc in absurd no
both_some (Some n) (Some k) e = (n, refl, ap Some (eqb-true k n e))

pub same_some : (a b : Option ℕ) (f : ℕ) → a ≡ Some f → b ≡ Some f → is_same a b ≡ true
same_some a b f x y = (λ i. is_same (x i) (y i)) ∙ eq-eqb f f refl

same_swap : (a b : Option ℕ) → is_same a b ≡ true → is_same b a ≡ true
same_swap a b e = let h = both_some a b e in same_some b a h.0 h.2 h.1

same_option : (a b : Option ℕ) → is_some a ≡ is_some b → ((f g : ℕ) → a ≡ Some f → b ≡ Some g → f ≡ g) → a ≡ b
same_option None None e h = refl
same_option None (Some g) e h = let no : ⊥ = cc in absurd no
same_option (Some f) None e h = let no : ⊥ = cc in absurd no
same_option (Some f) (Some g) e h = ap Some (h f g refl refl)

-- ---- what a step does to the numbers that descriptors have: those of their open files, or of their pipes

abbrev pub Sharing : (State → ℕ → ℕ → Option ℕ) → State → State → Type 0
Sharing F s t = (p d q e : ℕ) → is_same (F s p d) (F s q e) ≡ is_same (F t p d) (F t q e)

-- within one process
abbrev pub Within : (State → ℕ → ℕ → Option ℕ) → State → State → Type 0
Within F s t = (p d e : ℕ) → is_same (F s p d) (F s p e) ≡ is_same (F t p d) (F t p e)

pub record Tracks (F : State → ℕ → ℕ → Option ℕ) (s : State) (p : ℕ) (o : Own) (t : State) : Type 0 where
  -- what stays in use stays on the same
  pub stay : (q d f g : ℕ) → F s q d ≡ Some f → F t q d ≡ Some g → f ≡ g
  -- what p comes to is on none of the others, but where p was on it
  pub new : (q d e f : ℕ) → F t p d ≡ Some f → ((k : ℕ) → F s p k ≢ Some f) → F t q e ≡ Some f → q ≡ p
  -- a newborn is on what p is on
  pub born : (q d : ℕ) → IsNewbornOf o q → F t q d ≡ F t p d
  -- others come to nothing
  pub others : (q d : ℕ) → q ≢ p → ¬ IsNewbornOf o q → IsSome (F t q d) → IsSome (F s q d)
  -- where p comes to one, it leaves none
  pub keeps : (d k : ℕ) → F s p d ≡ None → IsSome (F t p d) → IsSome (F s p k) → IsSome (F t p k)

module _ (F : State → ℕ → ℕ → Option ℕ) (v w t u : State) (p : ℕ) (o : Own) (one : Tracks F v p o t) (two : Tracks F w p o u) (before : Sharing F v w) (within : Within F t u) where
  used_after : (q d : ℕ) → is_some (F t q d) ≡ is_some (F u q d)
  used_after q d = sym (some_same (F t q d)) ∙ within q d d ∙ some_same (F u q d)

  -- two that were in use before
  old_pair : (a d b e f : ℕ) → F t a d ≡ Some f → F t b e ≡ Some f → IsSome (F v a d) → IsSome (F v b e) → is_same (F u a d) (F u b e) ≡ true
  old_pair a d b e f x y a_old b_old =
      let fa = the_value (F v a d) a_old in
      let fb = the_value (F v b e) b_old in
      let were : is_same (F v a d) (F v b e) ≡ true = same_some (F v a d) (F v b e) f (fa.1 ∙ ap Some (one.stay a d fa.0 f fa.1 x)) (fb.1 ∙ ap Some (one.stay b e fb.0 f fb.1 y)) in
      let g = both_some (F w a d) (F w b e) (sym (before a d b e) ∙ were) in
      let ua = the_value (F u a d) (sym (used_after a d) ∙ ap is_some x) in
      let ub = the_value (F u b e) (sym (used_after b e) ∙ ap is_some y) in
      same_some (F u a d) (F u b e) g.0 (ua.1 ∙ ap Some (sym (two.stay a d g.0 ua.0 g.1 ua.1))) (ub.1 ∙ ap Some (sym (two.stay b e g.0 ub.0 g.2 ub.1)))

  -- one that p comes to, and one of another
  module _ (d b e f : ℕ) (free : F v p d ≡ None) (x : F t p d ≡ Some f) (apart : b ≢ p) (old : IsSome (F v b e)) (y : F t b e ≡ Some f) where
    was : F v b e ≡ Some f
    was = let fb = the_value (F v b e) old in fb.1 ∙ ap Some (one.stay b e fb.0 f fb.1 y)

    -- p was on it, by another descriptor
    by_another : (k : ℕ) → F v p k ≡ Some f → is_same (F u p d) (F u b e) ≡ true
    by_another k named =
        let g = both_some (F w p k) (F w b e) (sym (before p k b e) ∙ same_some (F v p k) (F v b e) f named was) in
        let tk = the_value (F t p k) (one.keeps d k free (ap is_some x) (ap is_some named)) in
        let pair : is_same (F t p d) (F t p k) ≡ true = same_some (F t p d) (F t p k) f x (tk.1 ∙ ap Some (sym (one.stay p k f tk.0 named tk.1))) in
        let h = both_some (F u p d) (F u p k) (sym (within p d k) ∙ pair) in
        let ub = the_value (F u b e) (sym (used_after b e) ∙ ap is_some y) in
        let same : ub.0 ≡ h.0 = sym (two.stay b e g.0 ub.0 g.2 ub.1) ∙ two.stay p k g.0 h.0 g.1 h.2 in
        same_some (F u p d) (F u b e) h.0 h.1 (ub.1 ∙ ap Some same)

    new_pair : is_same (F u p d) (F u b e) ≡ true
    new_pair = by (is_same (F u p d) (F u b e)) refl
      where
        by : (c : Bool) → is_same (F u p d) (F u b e) ≡ c → is_same (F u p d) (F u b e) ≡ true
        by true is = is
        by false is = absurd (apart (one.new b d e f x (λ k named. let no : false ≡ true = sym is ∙ by_another k named in let bad : ⊥ = cc in bad) y))

  of_p : (d b e f : ℕ) → b ≢ p → IsSome (F v b e) → F t p d ≡ Some f → F t b e ≡ Some f → (o : Option ℕ) → F v p d ≡ o → is_same (F u p d) (F u b e) ≡ true
  of_p d b e f apart old x y None free = new_pair d b e f free x apart old y
  of_p d b e f apart old x y (Some n) there = old_pair p d b e f x y (ap is_some there) old

  -- p, or another that isn't new
  abbrev Root : ℕ → Type 0
  Root a = (a ≡ p) ⊎ ((a ≢ p) × ¬ IsNewbornOf o a)

  by_roots : (a d b e f : ℕ) → Root a → Root b → F t a d ≡ Some f → F t b e ≡ Some f → is_same (F u a d) (F u b e) ≡ true
  by_roots a d b e f (inl i) (inl j) x y =
      (λ k. is_same (F u (i k) d) (F u (j k) e)) ∙ (sym (within p d e) ∙ same_some (F t p d) (F t p e) f (ap (λ (n : ℕ). F t n d) (sym i) ∙ x) (ap (λ (n : ℕ). F t n e) (sym j) ∙ y))
  by_roots a d b e f (inl i) (inr j) x y =
      ap (λ (n : ℕ). is_same (F u n d) (F u b e)) i ∙ of_p d b e f j.0 (one.others b e j.0 j.1 (ap is_some y)) (ap (λ (n : ℕ). F t n d) (sym i) ∙ x) y (F v p d) refl
  by_roots a d b e f (inr i) (inl j) x y =
      same_swap (F u b e) (F u a d) (ap (λ (n : ℕ). is_same (F u n e) (F u a d)) j ∙ of_p e a d f i.0 (one.others a d i.0 i.1 (ap is_some x)) (ap (λ (n : ℕ). F t n e) (sym j) ∙ y) x (F v p e) refl)
  by_roots a d b e f (inr i) (inr j) x y = old_pair a d b e f x y (one.others a d i.0 i.1 (ap is_some x)) (one.others b e j.0 j.1 (ap is_some y))

  -- a process that is on what the process a is on, after the step
  record Rooted (a : ℕ) : Type 0 where
    by : ℕ
    root : Root by
    here : (d : ℕ) → F t a d ≡ F t by d
    there : (d : ℕ) → F u a d ≡ F u by d

  rooted : (a : ℕ) → Rooted a
  rooted a = elim (eqb_tells a p) [
    | inl is ↦ record { by = a; root = inl is.1; here = λ d. refl; there = λ d. refl }
    | inr apart ↦ elim (newborn_or_not o.child) [
      | inl born ↦ record { by = p; root = inl refl; here = λ d. one.born a d born; there = λ d. two.born a d born }
      | inr not ↦ record { by = a; root = inr (apart.1, not); here = λ d. refl; there = λ d. refl }
    ]
  ]
    where
      newborn_or_not : (c : Option View) → MatchOption c ⊥ (λ c. a ≡ c.pid) ⊎ ¬ MatchOption c ⊥ (λ c. a ≡ c.pid)
      newborn_or_not None = inr (λ no. no)
      newborn_or_not (Some c) = elim (eqb_tells a c.pid) [ inl e ↦ inl e.1 | inr e ↦ inr e.1 ]

  pub same_after : (a d b e : ℕ) → is_same (F t a d) (F t b e) ≡ true → is_same (F u a d) (F u b e) ≡ true
  same_after a d b e is =
      let h = both_some (F t a d) (F t b e) is in
      let i = rooted a in
      let j = rooted b in
      (λ k. is_same (i.there d k) (j.there e k)) ∙ by_roots i.by d j.by e h.0 i.root j.root (sym (i.here d) ∙ h.1) (sym (j.here e) ∙ h.2)

pub sharing_after : (F : State → ℕ → ℕ → Option ℕ) (v w t u : State) (p : ℕ) (o : Own) → Tracks F v p o t → Tracks F w p o u → Sharing F v w → Within F t u → Sharing F t u
sharing_after F v w t u p o one two before within a d b e = same_test (is_same (F t a d) (F t b e)) (is_same (F u a d) (F u b e)) (same_after F v w t u p o one two before within a d b e)
    (same_after F w v u t p o two one (λ p d q e. sym (before p d q e)) (λ p d e. sym (within p d e)) a d b e)

-- ---- open files and pipes are so

module _ (s t : State) (p : ℕ) (b : View) (was : view s p ≡ Some b) (after : StateAfter s b (own b) t) (shown : AreShown s) (shown_then : AreShown t) where
  abbrev x : Own
  x = own b

  pid : b.pid ≡ p
  pid = pid_is s p (live s p) b was

  files : FilesAfter s p x t
  files = subst (λ (n : ℕ). FilesAfter s n x t) pid after.files

  tables : (n : View) → x.next ≡ Some n → Table b.descriptors n.descriptors
  tables = (own_facts b).table (view_low s p (live s p) b was)

  next : view t p ≡ x.next
  next = ap (view t) (sym pid) ∙ after.next

  -- what p's view shows, before and after
  file_before : (d : ℕ) → is_some (b.descriptors d) ≡ is_some (file_at s p d)
  file_before d = ap (λ (o : Option View). is_some (shown_at o d)) (sym was) ∙ file_seen s shown p d

  pipe_before : (d : ℕ) → is_end (b.descriptors d) ≡ is_some (pipe_at s p d)
  pipe_before d = ap (λ (o : Option View). is_end (shown_at o d)) (sym was) ∙ pipe_seen s shown p d

  module _ (n : View) (is : x.next ≡ Some n) where
    file_then : (d : ℕ) → is_some (n.descriptors d) ≡ is_some (file_at t p d)
    file_then d = ap (λ (o : Option View). is_some (shown_at o d)) (sym (next ∙ is)) ∙ file_seen t shown_then p d

    pipe_then : (d : ℕ) → is_end (n.descriptors d) ≡ is_some (pipe_at t p d)
    pipe_then d = ap (λ (o : Option View). is_end (shown_at o d)) (sym (next ∙ is)) ∙ pipe_seen t shown_then p d

  -- where p is on something after the step, it goes on
  goes_on : (d : ℕ) → IsSome (file_at t p d) → (n : View) × (x.next ≡ Some n)
  goes_on d there = by x.next refl
    where
      by : (o : Option View) → x.next ≡ o → (n : View) × (x.next ≡ Some n)
      by (Some n) e = (n, e)
      by None e = let no : false ≡ true = ap (λ (o : Option View). is_some (shown_at o d)) (sym (next ∙ e)) ∙ file_seen t shown_then p d ∙ there in let bad : ⊥ = cc in absurd bad

  -- ---- a newborn

  born_file : (q d : ℕ) → IsNewbornOf x q → file_at t q d ≡ file_at t p d
  born_file q d born = by x.child refl born files.newborn
    where
      by : (c : Option View) → x.child ≡ c → MatchOption c ⊥ (λ c. q ≡ c.pid) → MatchOption c (Unit {0}) (λ c. (d : ℕ) → file_at t c.pid d ≡ file_at s p d) → file_at t q d ≡ file_at t p d
      by None e is same = absurd is
      by (Some c) e is same =
          let n = the_value x.next ((own_facts b).parent (ap is_some e)) in
          let used : is_some (file_at s p d) ≡ is_some (file_at t p d) = sym (file_before d) ∙ sym ((own_facts b).bears n.0 n.1 (ap is_some e) d) ∙ file_then n.0 n.1 d in
          ap (λ (n : ℕ). file_at t n d) is ∙ same d ∙ same_option (file_at s p d) (file_at t p d) used (λ f g. files.same_file p d f g)

  -- ---- another process

  -- it was live, and saw what it sees but for what the step left
  other_was : (q d : ℕ) → q ≢ p → ¬ IsNewbornOf x q → IsSome (shown_at (view t q) d) → (y : View) × (view s q ≡ Some y) × (view t q ≡ Some (seen s b x y))
  other_was q d apart not there =
      let y = the_value (view s q) (elim (after.no_more q (alive (view t q) there)) [
        | inl his ↦ absurd (apart (his ∙ pid))
        | inr rest ↦ elim rest [ inl before ↦ before | inr born ↦ absurd (not born) ]
      ]) in
      (y.0, y.1, after.others q y.0 (λ e. apart (e ∙ pid)) y.1)
    where
      alive : (o : Option View) → IsSome (shown_at o d) → IsSome o
      alive None h = let no : ⊥ = cc in absurd no
      alive (Some v) h = refl

  kept_shown : (f g : Option Descriptor) (z : Shown) → is_some (shown_pipe_name (seen_shown f g z)) ≡ is_some (shown_pipe_name z)
  kept_shown f g Shown_terminal = refl
  kept_shown f g (Shown_file program offset) = refl
  kept_shown f g (Shown_pipe name end pipe) = refl

  kept : (f g : Option Descriptor) (o : Option Descriptor) → (is_some (seen_descriptor f g o) ≡ is_some o) × (is_end (seen_descriptor f g o) ≡ is_end o)
  kept f g None = (refl, refl)
  kept f g (Some z) = (refl, kept_shown f g z.shown)

  seen_kept : (y : View) (d : ℕ) → (is_some ((seen s b x y).descriptors d) ≡ is_some (y.descriptors d)) × (is_end ((seen s b x y).descriptors d) ≡ is_end (y.descriptors d))
  unfolding seen
  seen_kept y d = kept (left_at x.left.descriptors (meets_on_file s b.pid y.pid d)) (left_at x.left.descriptors (meets_on_pipe s b.pid y.pid d)) (y.descriptors d)

  end_shown : (o : Option Descriptor) → is_end o ≡ true → IsSome o
  end_shown None h = let no : ⊥ = cc in absurd no
  end_shown (Some z) h = refl

  other_file : (q d : ℕ) → q ≢ p → ¬ IsNewbornOf x q → IsSome (file_at t q d) → IsSome (file_at s q d)
  other_file q d apart not there =
      let h = other_was q d apart not (file_seen t shown_then q d ∙ there) in
      sym (file_seen s shown q d) ∙ ap (λ (o : Option View). is_some (shown_at o d)) h.1 ∙ sym (seen_kept h.0 d).0
      ∙ ap (λ (o : Option View). is_some (shown_at o d)) (sym h.2) ∙ file_seen t shown_then q d ∙ there

  other_pipe : (q d : ℕ) → q ≢ p → ¬ IsNewbornOf x q → IsSome (pipe_at t q d) → IsSome (pipe_at s q d)
  other_pipe q d apart not there =
      let h = other_was q d apart not (end_shown (shown_at (view t q) d) (pipe_seen t shown_then q d ∙ there)) in
      sym (pipe_seen s shown q d) ∙ ap (λ (o : Option View). is_end (shown_at o d)) h.1 ∙ sym (seen_kept h.0 d).1
      ∙ ap (λ (o : Option View). is_end (shown_at o d)) (sym h.2) ∙ pipe_seen t shown_then q d ∙ there

  -- ---- where p comes to one, it leaves none

  pipe_file : (r : State) (q d : ℕ) → IsSome (pipe_at r q d) → IsSome (file_at r q d)
  pipe_file r q d there = by (file_at r q d) there
    where
      by : (o : Option ℕ) → IsSome (pipe_of_file r o) → IsSome o
      by None h = h
      by (Some f) h = refl

  keeps_file : (d k : ℕ) → file_at s p d ≡ None → IsSome (file_at t p d) → IsSome (file_at s p k) → IsSome (file_at t p k)
  keeps_file d k free there old =
      let n = goes_on d there in
      sym (file_then n.0 n.1 k) ∙ (tables n.0 n.1).opens d k (none_from_is_some (b.descriptors d) (file_before d ∙ ap is_some free)) (file_then n.0 n.1 d ∙ there) (file_before k ∙ old)

  keeps_pipe : (d k : ℕ) → pipe_at s p d ≡ None → IsSome (pipe_at t p d) → IsSome (pipe_at s p k) → IsSome (pipe_at t p k)
  keeps_pipe d k free there old =
      let n = goes_on d (pipe_file t p d there) in
      let now : is_end (n.0.descriptors d) ≡ true = pipe_then n.0 n.1 d ∙ there in
      let before : is_end (b.descriptors d) ≡ false = pipe_before d ∙ ap is_some free in
      let unused : b.descriptors d ≡ None = none_from_is_some (b.descriptors d) (by (is_some (b.descriptors d)) refl n now before) in
      let k_end : is_end (b.descriptors k) ≡ true = pipe_before k ∙ old in
      let k_used : IsSome (n.0.descriptors k) = (tables n.0 n.1).opens d k unused (end_shown (n.0.descriptors d) now) (end_shown (b.descriptors k) k_end) in
      sym (pipe_then n.0 n.1 k) ∙ (tables n.0 n.1).kind k (end_shown (b.descriptors k) k_end) k_used ∙ k_end
    where
      by : (c : Bool) → is_some (b.descriptors d) ≡ c → (n : (n : View) × (x.next ≡ Some n)) → is_end (n.0.descriptors d) ≡ true → is_end (b.descriptors d) ≡ false → is_some (b.descriptors d) ≡ false
      by false e n now before = e
      by true e n now before =
          let no : true ≡ false = sym now ∙ (tables n.0 n.1).kind d e (end_shown (n.0.descriptors d) now) ∙ before in
          let bad : ⊥ = cc in absurd bad

  pub file_tracks : Tracks file_at s p x t
  file_tracks = record { stay = files.same_file; new = files.new_file; born = born_file; others = other_file; keeps = keeps_file }

  pub pipe_tracks : Tracks pipe_at s p x t
  pipe_tracks = record { stay = files.same_pipe; new = files.new_pipe; born = λ q d born. ap (pipe_of_file t) (born_file q d born); others = other_pipe; keeps = keeps_pipe }

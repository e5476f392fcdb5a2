-- The laws of the rows that make, end, wait for or mark a process.
use Rattle.kernel_spec.proofs.Prelude.{ℕ, ℤ, ◌&&◌, ◌<◌, ◌∙◌, ◌≡◌, ◌≢◌, ◌⊎◌, After, Alive, Answer, ap, arith, Bool, Call, Called, cond, eqb_tells, false, file_at, FilesAfter, FilesLeft, FinMap, fork}
use Rattle.kernel_spec.proofs.Prelude.{forked_child, forked_state, forking, get, given_to, goes_on, gone, gone_state, gone_with, GoneLaw, inl, inr, insert, is_some, is_this, IsNewbornOf, IsSome, keys}
use Rattle.kernel_spec.proofs.Prelude.{kill_state, killer, least_zombie, list_any, Live, live, live_part, marked, MatchOption, nat_cmp, nat_eq, None, not, OpenFile, Option, option_map, orphan}
use Rattle.kernel_spec.proofs.Prelude.{orphans, Own, own_state, pipe_at, pos, Process, ReapLaw, refl, same_Some, Some, State, subst, sym, true, View, view, view_of, wait, waited, waited_state}
use Rattle.kernel_spec.proofs.Prelude.{WellFormed, writable_now, Zombie}
use Rattle.kernel_spec.proofs.steps.SeenByParts.{file_of, pipe_of_file, pipe_of_open}
use Rattle.kernel_spec.proofs.steps.OthersTableIsSeen.{OtherNames}
use Rattle.kernel_spec.proofs.steps.MapsAfterChange.{get_same, get_other, get_without}
use Rattle.kernel_spec.proofs.steps.ViewsAfterSetLive.{live-set_live_there}
use Rattle.kernel_spec.proofs.steps.StateAfterIsTold.{files_after, state_after}
use Rattle.kernel_spec.proofs.steps.WellFormedIsEnough.{can_fork, can_go}
use Rattle.kernel_spec.proofs.steps.OrphansKeepKeys.{get-orphans}
use Rattle.kernel_spec.proofs.rows.RowParts.{killed_by, cannot_fork}
use Rattle.kernel_spec.proofs.rows.PartLaws.{ForkPart, KillPart}
use Rattle.kernel_spec.proofs.Common.{is_some-view}
use Rattle.kernel_spec.proofs.steps.AloneLawsHold.{by_own}
use Rattle.kernel_spec.proofs.steps.ForkIsItsRow as forks
use Rattle.kernel_spec.proofs.steps.GoneIsItsRow as goes
use Rattle.kernel_spec.proofs.steps.WaitIsItsRow as reaps
use Rattle.kernel_spec.proofs.steps.KillIsItsRow as kills

no_file : (o : Option Live) (d f : ℕ) → o ≡ None → file_of o d ≡ Some f → ⊥
no_file None d f e h = cc
no_file (Some l) d f e h = cc

-- ---- fork

module _ (frames : ℕ) (s : State) (p : ℕ) (l : Live) (c : Call) (well : WellFormed frames s) (was : get s.processes p ≡ Some (Alive l)) (able : cannot_fork (view_of s p l) ≡ false) where
  abbrev born : State
  born = forked_state p l s

  fork_there : (q : ℕ) → q ≢ s.next_pid → q ≢ p → live born q ≡ live s q
  fork_there q new other = ap live_part (get_other (insert s.processes p (Alive (forking s l))) s.next_pid (Alive (forked_child s p l)) q new)
      ∙ live-set_live_there s p l (forking s l) was refl q other

  p_is_old : p ≢ s.next_pid
  p_is_old e = let b : p < s.next_pid = (well.pids p (ap is_some was)).1 in absurd (omega arith)

  at_parent : live born p ≡ Some (forking s l)
  at_parent = ap live_part (get_other (insert s.processes p (Alive (forking s l))) s.next_pid (Alive (forked_child s p l)) p p_is_old ∙ get_same s.processes p (Alive (forking s l)))

  at_child : live born s.next_pid ≡ Some (forked_child s p l)
  at_child = ap live_part (get_same (insert s.processes p (Alive (forking s l))) s.next_pid (Alive (forked_child s p l)))

  mine : (d : ℕ) → file_at born p d ≡ file_at s p d
  mine d = ap (λ (o : Option Live). file_of o d) at_parent ∙ sym (ap (λ (o : Option Live). file_of o d) (ap live_part was))

  nobody_yet : (q : ℕ) → q ≡ s.next_pid → live s q ≡ None
  nobody_yet q e = by (get s.processes q) refl
    where
      by : (o : Option Process) → get s.processes q ≡ o → live_part o ≡ None
      by None x = refl
      by (Some y) x = let b : q < s.next_pid = (well.pids q (ap is_some x)).1 in absurd (omega arith)

  same : (q d f : ℕ) → file_at s q d ≡ Some f → file_at born q d ≡ file_at s q d
  same q d f h = elim (eqb_tells q s.next_pid) [
    | inl new ↦ absurd (no_file (live s q) d f (nobody_yet q new.1) h)
    | inr other ↦ elim (eqb_tells q p) [
      | inl me ↦ ap (λ (n : ℕ). file_at born n d) me.1 ∙ mine d ∙ sym (ap (λ (n : ℕ). file_at s n d) me.1)
      | inr else ↦ ap (λ (o : Option Live). file_of o d) (fork_there q other.1 else.1)
    ]
  ]

  fork_files : (o : Own) → o.child ≡ Some (view_of born s.next_pid (forked_child s p l)) → FilesAfter s p o born
  unfolding view_of
  fork_files o child = record {
    same_file = λ q d f g a b. same_Some f g (sym a ∙ sym (same q d f a) ∙ b);
    same_pipe = λ q d i j a b. same_pipes q d i j (file_at s q d) refl a b;
    newborn = subst (λ (x : Option View). MatchOption x (Unit {0}) (λ x. (d : ℕ) → file_at born x.pid d ≡ file_at s p d)) (sym child)
        (λ d. ap (λ (o : Option Live). file_of o d) at_child ∙ sym (ap (λ (o : Option Live). file_of o d) (ap live_part was)));
    new_file = λ q d e f a b x. absurd (b d (sym (mine d) ∙ a));
    new_pipe = λ q d e f a b x. absurd (b d (ap (pipe_of_file s) (sym (mine d)) ∙ a));
  }
    where
      same_pipes : (q d i j : ℕ) (o : Option ℕ) → file_at s q d ≡ o → pipe_of_file s o ≡ Some i → pipe_at born q d ≡ Some j → i ≡ j
      same_pipes q d i j None e a b = let no : ⊥ = cc in absurd no
      same_pipes q d i j (Some f) e a b = same_Some i j (sym a ∙ ap (pipe_of_file s) (sym (same q d f e ∙ e)) ∙ b)

  fork_no_more : (o : Own) → o.child ≡ Some (view_of born s.next_pid (forked_child s p l)) → (q : ℕ) → IsSome (view born q) → (q ≡ p) ⊎ IsSome (view s q) ⊎ IsNewbornOf o q
  unfolding view_of
  fork_no_more o child q h = elim (eqb_tells q p) [
    | inl me ↦ inl me.1
    | inr other ↦ elim (eqb_tells q s.next_pid) [
      | inl new ↦ inr (inr (subst (λ (x : Option View). MatchOption x ⊥ (λ x. q ≡ x.pid)) (sym child) new.1))
      | inr old ↦ inr (inl (is_some-view (live s q) s q ∙ sym (ap is_some (fork_there q old.1 other.1)) ∙ sym (is_some-view (live born q) born q) ∙ h))
    ]
  ]

  fork_after : After s p l (fork c (view_of s p l)) born
  unfolding view_of
  fork_after =
      by_own s born (view_of s p l) (fork c (view_of s p l)) (forks.fork_answer s p l was c (can_fork frames s well l)) (forks.fork_own s p l was c (can_fork frames s well l) able)
      (state_after s born (view_of s p l) (forks.fork_answer s p l was c (can_fork frames s well l)) (forks.fork_leaves s p l was c (can_fork frames s well l))
      (forks.view_parent s p l was c (can_fork frames s well l)) (forks.view_child s p l was c (can_fork frames s well l))
      (fork_no_more (forks.fork_answer s p l was c (can_fork frames s well l)) refl)
      (fork_files (forks.fork_answer s p l was c (can_fork frames s well l)) refl))

pub fork_law : ForkPart
fork_law frames s p l c well was able = fork_after frames s p l c well was able

-- ---- exit

module _ (frames : ℕ) (s : State) (p : ℕ) (l : Live) (answer : Answer) (status : ℤ) (files : FinMap nat_cmp OpenFile) (well : WellFormed frames s) (was : get s.processes p ≡ Some (Alive l))
    (ends_with : gone_with answer ≡ Some status) (left : FilesLeft s (gone_state p l status files s)) where
  abbrev after : State
  after = gone_state p l status files s

  pub gone_at : (q : ℕ) → q ≢ p → get after.processes q ≡ option_map (orphan p) (get s.processes q)
  gone_at q other = get_other (orphans p s).processes p (Zombie l.parent status) q other ∙ get-orphans p s q

  orphan_file : (d : ℕ) (o : Option Process) → file_of (live_part (option_map (orphan p) o)) d ≡ file_of (live_part o) d
  orphan_file d None = refl
  orphan_file d (Some (Alive m)) = by (is_this p m.parent)
    where
      by : (b : Bool) → file_of (live_part (Some (cond b (given_to 1 (Alive m)) (Alive m)))) d ≡ get m.descriptors d
      by true = refl
      by false = refl
  orphan_file d (Some (Zombie parent status)) = by (is_this p parent)
    where
      by : (b : Bool) → file_of (live_part (Some (cond b (given_to 1 (Zombie parent status)) (Zombie parent status)))) d ≡ None
      by true = refl
      by false = refl

  orphan_live : (o : Option Process) → is_some (live_part (option_map (orphan p) o)) ≡ is_some (live_part o)
  orphan_live None = refl
  orphan_live (Some (Alive m)) = by (is_this p m.parent)
    where
      by : (b : Bool) → is_some (live_part (Some (cond b (given_to 1 (Alive m)) (Alive m)))) ≡ true
      by true = refl
      by false = refl
  orphan_live (Some (Zombie parent status)) = by (is_this p parent)
    where
      by : (b : Bool) → is_some (live_part (Some (cond b (given_to 1 (Zombie parent status)) (Zombie parent status)))) ≡ false
      by true = refl
      by false = refl

  pub others_same : (q d : ℕ) → q ≢ p → file_at after q d ≡ file_at s q d
  others_same q d other = ap (λ (o : Option Process). file_of (live_part o) d) (gone_at q other) ∙ orphan_file d (get s.processes q)

  mine_none : (d : ℕ) → file_at after p d ≡ None
  mine_none d = ap (λ (o : Option Process). file_of (live_part o) d) (get_same (orphans p s).processes p (Zombie l.parent status))

  pub not_mine : (d g : ℕ) → file_at after p d ≡ Some g → ⊥
  not_mine d g h = let e : None ≡ Some g = sym (mine_none d) ∙ h in let no : ⊥ = cc in no

  pub spared : (g : ℕ) → OtherNames s p g → get files g ≡ get s.files g
  spared g h = left.stay h.0 h.1 g (others_same h.0 h.1 h.2 ∙ h.3)

  is_there : (f j : ℕ) (o : Option OpenFile) → pipe_of_open o ≡ Some j → IsSome o
  is_there f j None h = let no : ⊥ = cc in absurd no
  is_there f j (Some x) h = refl

  gone_targets : (q d f j : ℕ) → file_at s q d ≡ Some f → pipe_of_file after (Some f) ≡ Some j → pipe_of_file s (Some f) ≡ Some j
  gone_targets q d f j a b =
      let named = left.named f (is_there f j (get files f) b) in
      ap pipe_of_open (sym (left.stay named.0 named.1 f named.2)) ∙ b

  gone_no_more : (o : Own) (q : ℕ) → IsSome (view after q) → (q ≡ p) ⊎ IsSome (view s q) ⊎ IsNewbornOf o q
  gone_no_more o q h = elim (eqb_tells q p) [
    | inl me ↦ inl me.1
    | inr other ↦ inr (inl (is_some-view (live s q) s q
        ∙ sym (ap (λ (x : Option Process). is_some (live_part x)) (gone_at q other.1) ∙ orphan_live (get s.processes q))
        ∙ sym (is_some-view (live after q) after q) ∙ h))
  ]

  gone_after : After s p l (gone answer (view_of s p l)) after
  unfolding view_of
  gone_after =
      state_after s after (view_of s p l) (gone answer (view_of s p l))
      (goes.gone_leaves s p l was (can_go frames s well p l was) answer status ends_with files spared)
      (goes.view_gone s p l was (can_go frames s well p l was) answer status ends_with files spared) tt
      (gone_no_more (gone answer (view_of s p l)))
      (files_after s after p (gone answer (view_of s p l)) refl
      (λ q d g other h. sym (others_same q d other) ∙ h)
      (λ d f g a b. absurd (not_mine d g b))
      gone_targets
      (λ d f h. absurd (not_mine d f h)))

pub gone_law : GoneLaw
gone_law frames s p l answer status files well was ends_with left = gone_after frames s p l answer status files well was ends_with left

-- ---- wait

module _ (s : State) (p q : ℕ) (l : Live) (c : Call) (status : ℤ) (was : get s.processes p ≡ Some (Alive l)) (zombie : get s.processes q ≡ Some (Zombie (Some p) status)) where
  abbrev reaped : State
  reaped = waited_state p (waited c q status l) q s

  p_not_q : p ≢ q
  p_not_q e = let no : ⊥ = cc in no

  reaped_at : (r : ℕ) → r ≢ q → get reaped.processes r ≡ get (insert s.processes p (Alive (waited c q status l))) r
  reaped_at r other = get_without (insert s.processes p (Alive (waited c q status l))) q r ∙ elim (eqb_tells r q) [
    | inl h ↦ absurd (other h.1)
    | inr h ↦ ap (λ (b : Bool). cond b None (get (insert s.processes p (Alive (waited c q status l))) r)) h.0
  ]

  reaped_none : live reaped q ≡ None
  reaped_none = ap live_part (get_without (insert s.processes p (Alive (waited c q status l))) q q ∙ elim (eqb_tells q q) [
    | inl h ↦ ap (λ (b : Bool). cond b None (get (insert s.processes p (Alive (waited c q status l))) q)) h.0
    | inr h ↦ absurd (h.1 refl)
  ])

  -- everyone but p is live as before, and p names what it named
  reaped_live : (r : ℕ) → r ≢ p → live reaped r ≡ live s r
  reaped_live r other = elim (eqb_tells r q) [
    | inl h ↦ ap (live reaped) h.1 ∙ reaped_none ∙ sym (ap live_part (ap (get s.processes) h.1 ∙ zombie))
    | inr h ↦ ap live_part (reaped_at r h.1) ∙ live-set_live_there s p l (waited c q status l) was refl r other
  ]

  reaped_mine : live reaped p ≡ Some (waited c q status l)
  reaped_mine = ap live_part (reaped_at p p_not_q ∙ get_same s.processes p (Alive (waited c q status l)))

  mine_same : (d : ℕ) → file_at reaped p d ≡ file_at s p d
  mine_same d = ap (λ (o : Option Live). file_of o d) reaped_mine ∙ sym (ap (λ (o : Option Live). file_of o d) (ap live_part was))

  reap_no_more : (o : Own) (r : ℕ) → IsSome (view reaped r) → (r ≡ p) ⊎ IsSome (view s r) ⊎ IsNewbornOf o r
  reap_no_more o r h = elim (eqb_tells r p) [
    | inl me ↦ inl me.1
    | inr other ↦ inr (inl (is_some-view (live s r) s r ∙ sym (ap is_some (reaped_live r other.1)) ∙ sym (is_some-view (live reaped r) reaped r) ∙ h))
  ]

  module _ (room : (not (nat_eq c.a0 0) && not (writable_now l.image c.a0 4)) ≡ false) (least : least_zombie (view_of s p l) ≡ Some q) where
    reap_after : After s p l (wait c (view_of s p l)) reaped
    unfolding view_of
    reap_after =
        by_own s reaped (view_of s p l) (wait c (view_of s p l)) (goes_on (Called c.number (pos q)) (view_of reaped p (waited c q status l)))
        (reaps.wait_own s p q l was c status zombie room least)
        (state_after s reaped (view_of s p l) (goes_on (Called c.number (pos q)) (view_of reaped p (waited c q status l))) (reaps.wait_leaves s p q l was c status zombie)
        (ap (option_map (view_of reaped p)) reaped_mine) tt (reap_no_more (goes_on (Called c.number (pos q)) (view_of reaped p (waited c q status l))))
        (files_after s reaped p (goes_on (Called c.number (pos q)) (view_of reaped p (waited c q status l))) refl
        (λ r d g other h. sym (ap (λ (o : Option Live). file_of o d) (reaped_live r other)) ∙ h)
        (λ d f g a b. same_Some f g (sym a ∙ sym (mine_same d) ∙ b))
        (λ r d f j a b. b)
        (λ d f h. inl (d, sym (mine_same d) ∙ h))))

pub reap_law : ReapLaw
reap_law s p q l c status was zombie room least = reap_after s p q l c status was zombie room least

-- ---- kill

marked_file : (b : Bool) (o : Option Process) (d : ℕ) → file_of (live_part (cond b (option_map marked o) o)) d ≡ file_of (live_part o) d
marked_file true None d = refl
marked_file true (Some (Alive m)) d = refl
marked_file true (Some (Zombie parent status)) d = refl
marked_file false o d = refl

marked_some : (b : Bool) (o : Option Process) → is_some (live_part (cond b (option_map marked o) o)) ≡ is_some (live_part o)
marked_some true None = refl
marked_some true (Some (Alive m)) = refl
marked_some true (Some (Zombie parent status)) = refl
marked_some false o = refl

module _ (s : State) (p q : ℕ) (l : Live) (c : Call) (was : get s.processes p ≡ Some (Alive l)) (known : not (list_any (nat_eq q) (keys s.processes)) ≡ false) where
  abbrev hurt : State
  hurt = kill_state p (killer p q l) q s

  hurt_file : (r d : ℕ) → file_at hurt r d ≡ file_at (own_state p (killer p q l) s) r d
  hurt_file r d = ap (λ (o : Option Process). file_of (live_part o) d) (kills.process_at s p q l was c r) ∙ marked_file (nat_eq r q) (get (own_state p (killer p q l) s).processes r) d

  hurt_mine : (d : ℕ) → file_at hurt p d ≡ file_at s p d
  hurt_mine d = hurt_file p d ∙ ap (λ (o : Option Live). file_of o d) (ap live_part (get_same s.processes p (Alive (killer p q l)))) ∙ sym (ap (λ (o : Option Live). file_of o d) (ap live_part was))

  hurt_other : (r d : ℕ) → r ≢ p → file_at hurt r d ≡ file_at s r d
  hurt_other r d other = hurt_file r d ∙ ap (λ (o : Option Live). file_of o d) (live-set_live_there s p l (killer p q l) was refl r other)

  kill_no_more : (o : Own) (r : ℕ) → IsSome (view hurt r) → (r ≡ p) ⊎ IsSome (view s r) ⊎ IsNewbornOf o r
  kill_no_more o r h = elim (eqb_tells r p) [
    | inl me ↦ inl me.1
    | inr other ↦ inr (inl (is_some-view (live s r) s r
        ∙ sym (ap (λ (x : Option Process). is_some (live_part x)) (kills.process_at s p q l was c r)
        ∙ marked_some (nat_eq r q) (get (own_state p (killer p q l) s).processes r)
        ∙ ap is_some (live-set_live_there s p l (killer p q l) was refl r other.1)) ∙ sym (is_some-view (live hurt r) hurt r) ∙ h))
  ]

  abbrev kill_own : Own
  kill_own = record (goes_on (Called c.number (pos 0)) (view_of hurt p (killer p q l))) { marked = Some q }

  kill_after : After s p l (killed_by c (view_of s p l) q) hurt
  unfolding view_of
  kill_after =
      by_own s hurt (view_of s p l) (killed_by c (view_of s p l) q) kill_own (kills.kill_own s p q l was c known)
      (state_after s hurt (view_of s p l) kill_own (kills.kill_leaves s p q l was c) (kills.view_killer s p q l was c) tt (kill_no_more kill_own)
      (files_after s hurt p kill_own refl (λ r d g other h. sym (hurt_other r d other) ∙ h)
      (λ d f g a b. same_Some f g (sym a ∙ sym (hurt_mine d) ∙ b)) (λ r d f j a b. b) (λ d f h. inl (d, sym (hurt_mine d) ∙ h))))

pub kill_law : KillPart
kill_law s p q l c was known = kill_after s p q l c was known

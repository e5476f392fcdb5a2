-- A step of the same process in two worlds that can't be told apart leaves two that can't be told apart.
use Rattle.kernel_spec.proofs.Prelude.{ℕ, ◌∙◌, ◌≡◌, ◌≢◌, ◌≤◌, ap, AreAlike, AreShown, arith, Bool, Contains, contains, eqb_tells, false, file_at, file_name, get, gone_with, inl, inr, is_same, is_some}
use Rattle.kernel_spec.proofs.Prelude.{IsFreeSlot, IsLowestFree, IsNewbornOf, IsOrderly, IsSome, least_below, List, live, MatchOption, nat_cmp-IsAntisymmetric, nat_cmp_total, NOFILE, None, Option}
use Rattle.kernel_spec.proofs.Prelude.{Outcome, Own, own, pipe_at, pipe_name, Process, refl, same_map, same_set, same_test, seen, Sleeps, Some, State, StateAfter, Step_of, StepOf, subst, sym, true}
use Rattle.kernel_spec.proofs.Prelude.{Turns, TurnsAfter, View, view, WakesWhereDue, World}
use Rattle.kernel_spec.proofs.steps.SeenByParts.{seen_descriptor, left_at}
use Rattle.kernel_spec.proofs.steps.OthersKeepTheRest.{pid_is}
use Rattle.kernel_spec.proofs.rows.Pids.{own_sound}
use Rattle.kernel_spec.proofs.turns.KeepsSlots.{is_listed, not_listed, was_or_new, new_slot}
use Rattle.kernel_spec.proofs.runs.Shown.{shown_at, file_within, pipe_within}
use Rattle.kernel_spec.proofs.runs.Sharing.{sharing_after, file_tracks, pipe_tracks}
use Rattle.kernel_spec.proofs.Common.{the_value}

-- ---- who sleeps, where the same ones wake

module _ (v w t u : World) (o : Outcome) (one : WakesWhereDue v o t) (two : WakesWhereDue w o u) (same : (q : ℕ) → view t.state q ≡ view u.state q) where
  pub still_asleep : (q : ℕ) → Sleeps v.turns q → Sleeps w.turns q → IsSome (view u.state q) → Sleeps t.turns q → Sleeps u.turns q
  still_asleep q before too lives asleep = by (contains u.turns.sleepers q) refl
    where
      by : (b : Bool) → contains u.turns.sleepers q ≡ b → contains u.turns.sleepers q ≡ true
      by true is = is
      by false is =
          let y = the_value (view u.state q) lives in
          let wakes : ¬ Sleeps u.turns q = λ h. let no : false ≡ true = sym is ∙ h in let bad : ⊥ = cc in bad in
          absurd ((one q y.0 before (same q ∙ y.1)).1 ((two q y.0 too y.1).0 wakes) asleep)

-- ---- a step

module _ (v w t u : World) (p : ℕ) (b : View) (alike : AreAlike v w) (orderly_v : IsOrderly v) (orderly_w : IsOrderly w)
    (runs_v : v.turns.current ≡ Some p) (runs_w : w.turns.current ≡ Some p) (was_v : view v.state p ≡ Some b) (was_w : view w.state p ≡ Some b)
    (state_v : StateAfter v.state b (own b) t.state) (state_w : StateAfter w.state b (own b) u.state)
    (turns_v : TurnsAfter v.turns p (own b) t.turns) (turns_w : TurnsAfter w.turns p (own b) u.turns)
    (wakes_v : WakesWhereDue v (Step_of p (own b).answer) t) (wakes_w : WakesWhereDue w (Step_of p (own b).answer) u)
    (shown_t : AreShown t.state) (shown_u : AreShown u.state) where
  abbrev x : Own
  x = own b

  pid : b.pid ≡ p
  pid = pid_is v.state p (live v.state p) b was_v

  abbrev step_v : StepOf v p (Step_of p x.answer) t
  step_v = record { before = b; was = was_v; answer = refl; state = state_v; turns = turns_v }

  abbrev step_w : StepOf w p (Step_of p x.answer) u
  step_w = record { before = b; was = was_w; answer = refl; state = state_w; turns = turns_w }

  -- ---- what each process sees

  same_seen : (y : View) → seen v.state b x y ≡ seen w.state b x y
  unfolding seen
  same_seen y = λ i. record (seen v.state b x y) {
    descriptors = λ d. seen_descriptor
        (left_at x.left.descriptors (least_below (λ e. alike.files y.pid d b.pid e i) NOFILE))
        (left_at x.left.descriptors (least_below (λ e. alike.pipes y.pid d b.pid e i) NOFILE))
        (y.descriptors d);
  }

  -- a process that isn't live after the step
  nobody : (s r : State) (q : ℕ) → StateAfter s b x r → b.pid ≢ q → view s q ≡ None → ¬ IsNewbornOf x q → view r q ≡ None
  nobody s r q after apart none not = by (view r q) refl
    where
      by : (o : Option View) → view r q ≡ o → view r q ≡ None
      by None is = is
      by (Some z) is = absurd (elim (after.no_more q (ap is_some is)) [
        | inl his ↦ apart (sym his)
        | inr rest ↦ elim rest [
          | inl before ↦ (let no : false ≡ true = sym (ap is_some none) ∙ before in let bad : ⊥ = cc in bad)
          | inr born ↦ not born
        ]
      ])

  -- a newborn, or nobody
  new_view : (q : ℕ) → b.pid ≢ q → view v.state q ≡ None → view w.state q ≡ None → (c : Option View) → x.child ≡ c
      → MatchOption c (Unit {0}) (λ c. view t.state c.pid ≡ Some c) → MatchOption c (Unit {0}) (λ c. view u.state c.pid ≡ Some c)
      → view t.state q ≡ view u.state q
  new_view q apart none_v none_w None is see_t see_u =
      let not : ¬ IsNewbornOf x q = λ born. subst (λ (c : Option View). MatchOption c ⊥ (λ c. q ≡ c.pid)) is born in
      nobody v.state t.state q state_v apart none_v not ∙ sym (nobody w.state u.state q state_w apart none_w not)
  new_view q apart none_v none_w (Some c) is see_t see_u = elim (eqb_tells q c.pid) [
    | inl same ↦ ap (view t.state) same.1 ∙ see_t ∙ sym (ap (view u.state) same.1 ∙ see_u)
    | inr other ↦
        let not : ¬ IsNewbornOf x q = λ born. other.1 (subst (λ (c : Option View). MatchOption c ⊥ (λ c. q ≡ c.pid)) is born) in
        nobody v.state t.state q state_v apart none_v not ∙ sym (nobody w.state u.state q state_w apart none_w not)
  ]

  views_by : (q : ℕ) → b.pid ≢ q → (o : Option View) → view v.state q ≡ o → view t.state q ≡ view u.state q
  views_by q apart (Some y) is = state_v.others q y (λ e. apart (sym e)) is ∙ ap Some (same_seen y) ∙ sym (state_w.others q y (λ e. apart (sym e)) (sym (alike.views q) ∙ is))
  views_by q apart None is = new_view q apart is (sym (alike.views q) ∙ is) x.child refl state_v.newborn state_w.newborn

  same_views : (q : ℕ) → view t.state q ≡ view u.state q
  same_views q = elim (eqb_tells b.pid q) [
    | inl his ↦ ap (view t.state) (sym his.1) ∙ state_v.next ∙ sym (ap (view u.state) (sym his.1) ∙ state_w.next)
    | inr other ↦ views_by q other.1 (view v.state q) refl
  ]

  -- ---- which descriptors meet

  within_files : (q d e : ℕ) → is_same (file_at t.state q d) (file_at t.state q e) ≡ is_same (file_at u.state q d) (file_at u.state q e)
  within_files q d e = sym (file_within t.state shown_t q d e)
      ∙ ap (λ (o : Option View). is_same (file_name (shown_at o d)) (file_name (shown_at o e))) (same_views q) ∙ file_within u.state shown_u q d e

  within_pipes : (q d e : ℕ) → is_same (pipe_at t.state q d) (pipe_at t.state q e) ≡ is_same (pipe_at u.state q d) (pipe_at u.state q e)
  within_pipes q d e = sym (pipe_within t.state shown_t q d e)
      ∙ ap (λ (o : Option View). is_same (pipe_name (shown_at o d)) (pipe_name (shown_at o e))) (same_views q) ∙ pipe_within u.state shown_u q d e

  same_files : (a d q e : ℕ) → is_same (file_at t.state a d) (file_at t.state q e) ≡ is_same (file_at u.state a d) (file_at u.state q e)
  same_files = sharing_after file_at v.state w.state t.state u.state p x (file_tracks v.state t.state p b was_v state_v orderly_v.shown shown_t)
      (file_tracks w.state u.state p b was_w state_w orderly_w.shown shown_u) alike.files within_files

  same_pipes : (a d q e : ℕ) → is_same (pipe_at t.state a d) (pipe_at t.state q e) ≡ is_same (pipe_at u.state a d) (pipe_at u.state q e)
  same_pipes = sharing_after pipe_at v.state w.state t.state u.state p x (pipe_tracks v.state t.state p b was_v state_v orderly_v.shown shown_t)
      (pipe_tracks w.state u.state p b was_w state_w orderly_w.shown shown_u) alike.pipes within_pipes

  -- ---- slots

  same_place : (q : ℕ) → get v.turns.slots q ≡ get w.turns.slots q
  same_place q = ap (λ (turns : Turns). get turns.slots q) alike.turns

  among : (q : ℕ) (z : Process) → get t.state.processes q ≡ Some z → Contains x.left.pids q
  among q z is = subst (λ (pids : List ℕ). Contains pids q) state_v.left.pids (is_listed t.state.processes q (ap is_some is))

  -- a process that had a slot keeps it
  kept_slot : (q slot : ℕ) → Contains x.left.pids q → get v.turns.slots q ≡ Some slot → get t.turns.slots q ≡ get u.turns.slots q
  kept_slot q slot here is = turns_v.held q here (ap is_some is) ∙ same_place q ∙ sym (turns_w.held q here (ap is_some (sym (same_place q) ∙ is)))

  least : (a c : ℕ) → IsLowestFree v.turns a → IsLowestFree w.turns c → a ≡ c
  least a c h g =
      let free_c : IsFreeSlot v.turns c = subst (λ (turns : Turns). IsFreeSlot turns c) (sym alike.turns) g.1 in
      let free_a : IsFreeSlot w.turns a = subst (λ (turns : Turns). IsFreeSlot turns a) alike.turns h.1 in
      let one : a ≤ c = h.2 c free_c in
      let two : c ≤ a = g.2 a free_a in
      omega arith

  -- a newborn has the lowest free one
  new_place : (q : ℕ) → IsNewbornOf x q → get t.turns.slots q ≡ get u.turns.slots q
  new_place q born =
      let a = new_slot v t p (Step_of p x.answer) orderly_v.slots runs_v step_v q x.child born turns_v.newborn in
      let c = new_slot w u p (Step_of p x.answer) orderly_w.slots runs_w step_w q x.child born turns_w.newborn in
      a.1 ∙ ap Some (least a.0 c.0 a.2 c.2) ∙ sym c.1

  slot_by : (q : ℕ) (o : Option Process) → get t.state.processes q ≡ o → (s : Option ℕ) → get v.turns.slots q ≡ s → get t.turns.slots q ≡ get u.turns.slots q
  slot_by q None is s place =
      let not : ¬ Contains x.left.pids q = λ here. not_listed t.state.processes q is (subst (λ (pids : List ℕ). Contains pids q) (sym state_v.left.pids) here) in
      turns_v.given_up q not ∙ sym (turns_w.given_up q not)
  slot_by q (Some z) is (Some slot) place = kept_slot q slot (among q z is) place
  slot_by q (Some z) is None place = elim (was_or_new v t p (Step_of p x.answer) orderly_v.slots runs_v step_v q (ap is_some is)) [
    | inl old ↦ let no : false ≡ true = sym (ap is_some place) ∙ orderly_v.slots.some q old in let bad : ⊥ = cc in absurd bad
    | inr new ↦ new_place q new
  ]

  same_slots : (q : ℕ) → get t.turns.slots q ≡ get u.turns.slots q
  same_slots q = slot_by q (get t.state.processes q) refl (get v.turns.slots q) refl

  -- ---- who sleeps

  same_sleep : (q : ℕ) → Sleeps v.turns q → Sleeps w.turns q
  same_sleep q = subst (λ (turns : Turns). Sleeps turns q) alike.turns

  same_sleep_back : (q : ℕ) → Sleeps w.turns q → Sleeps v.turns q
  same_sleep_back q = subst (λ (turns : Turns). Sleeps turns q) (sym alike.turns)

  -- who slept before is live after
  sleeper_lives : (q : ℕ) → Sleeps v.turns q → IsSome (view t.state q)
  sleeper_lives q asleep =
      let y = the_value (view v.state q) (orderly_v.sleepers q asleep) in
      let apart : q ≢ b.pid = λ e. (orderly_v.slots.current p runs_v).1 (subst (λ (n : ℕ). Sleeps v.turns n) (e ∙ pid) asleep) in
      ap is_some (state_v.others q y.0 apart y.1)

  asleep_too : (q : ℕ) → Sleeps t.turns q → Sleeps u.turns q
  asleep_too q asleep = elim (turns_v.awake q asleep) [
    | inl before ↦ still_asleep v w t u (Step_of p x.answer) wakes_v wakes_w same_views q before (same_sleep q before) (sym (ap is_some (same_views q)) ∙ sleeper_lives q before) asleep
    | inr fell ↦ subst (λ (n : ℕ). Sleeps u.turns n) (sym fell.0) (turns_w.blocked fell.1)
  ]

  asleep_back : (q : ℕ) → Sleeps u.turns q → Sleeps t.turns q
  asleep_back q asleep = elim (turns_w.awake q asleep) [
    | inl before ↦ still_asleep w v u t (Step_of p x.answer) wakes_w wakes_v (λ q. sym (same_views q)) q before (same_sleep_back q before) (sleeper_lives q (same_sleep_back q before)) asleep
    | inr fell ↦ subst (λ (n : ℕ). Sleeps t.turns n) (sym fell.0) (turns_v.blocked fell.1)
  ]

  same_turns : t.turns ≡ u.turns
  same_turns =
      let slots = same_map nat_cmp_total nat_cmp-IsAntisymmetric t.turns.slots u.turns.slots same_slots in
      let sleepers = same_set nat_cmp_total nat_cmp-IsAntisymmetric t.turns.sleepers u.turns.sleepers
      (λ q. same_test (contains t.turns.sleepers q) (contains u.turns.sleepers q) (asleep_too q) (asleep_back q)) in
      let last = turns_v.last ∙ ap (λ (turns : Turns). turns.last) alike.turns ∙ sym turns_w.last in
      let current = turns_v.current ∙ sym turns_w.current in
      let halted = turns_v.halted ∙ sym turns_w.halted in
      λ i. record { slots = slots i; sleepers = sleepers i; last = last i; current = current i; halted = halted i }

  pub alike_step : AreAlike t u
  alike_step = record {
    views = same_views;
    pids = state_v.left.pids ∙ sym state_w.left.pids;
    console = state_v.left.console ∙ sym state_w.left.console;
    clock = state_v.left.clock ∙ alike.clock ∙ sym state_w.left.clock;
    next_pid = state_v.left.next_pid ∙ sym state_w.left.next_pid;
    free = state_v.left.free ∙ sym state_w.left.free;
    programs = state_v.left.programs ∙ alike.programs ∙ sym state_w.left.programs;
    turns = same_turns;
    files = same_files;
    pipes = same_pipes;
  }

  -- who sleeps after the step is live
  pub sleepers_after : (q : ℕ) → Sleeps t.turns q → IsSome (view t.state q)
  sleepers_after q asleep = elim (turns_v.awake q asleep) [
    | inl before ↦ sleeper_lives q before
    | inr fell ↦
        let stays : gone_with x.answer ≡ None = ap gone_with fell.1.1 in
        ap (λ (n : ℕ). is_some (view t.state n)) (fell.0 ∙ sym pid) ∙ ap is_some state_v.next ∙ (own_sound b).left stays
  ]

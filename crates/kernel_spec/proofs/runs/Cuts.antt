-- Each run is cut at the steps of a process; from boot on pids are given before they are used, and only calls that may wait are in progress.
use Rattle.kernel_spec.proofs.Prelude.{[], ℕ, ℤ, ◌+◌, ◌<◌, ◌∙◌, ◌∷◌, ◌≡◌, ◌≢◌, ◌≤◌, ◌⊎◌, ap, arith, Bool, Call, call_or_begun, cond, Contains, eq-eqb, eqb-true, eqb_tells, Event, false, FinMap, first}
use Rattle.kernel_spec.proofs.Prelude.{get, Halted, Happens, Idle, inl, inr, is_some, is_step_of, IsCut, IsNewbornOf, IsRun, IsSome, IsStepOf, Key, KeyHappens, List, Live, live, live_part, map}
use Rattle.kernel_spec.proofs.Prelude.{MatchOption, Moment, nat_cmp, None, Ok, OnlyWaitersAreInCalls, Option, option_map, Others, Outcome, own, PidsAreGiven, Process, ProgramFile, refl, Run}
use Rattle.kernel_spec.proofs.Prelude.{RunHappens, RunsAreCut, same_Some, seen, Send, Sent, Some, State, Step_of, StepOf, steps_of, subst, sym, Tick, Ticked, TickHappens, true, Turn, TurnTaken, Typed}
use Rattle.kernel_spec.proofs.Prelude.{View, view, view_of, waiting_calls, World}
use Rattle.kernel_spec.proofs.steps.OthersKeepTheRest.{kept, pid_is}
use Rattle.kernel_spec.proofs.turns.KeepsSlots.{process_seen}
use Rattle.kernel_spec.proofs.runs.Two.{own_step}
use Rattle.kernel_spec.proofs.rows.Outcomes.{own_numbered}
use Rattle.kernel_spec.proofs.rows.AnswersTell.{in_call_where_blocked, blocked_is_in_call}
use Rattle.kernel_spec.proofs.well.FirstWell.{first_well, first_idle}
use Rattle.kernel_spec.proofs.Common.{is_some-view, none_has_no_value, the_value}

-- ---- an event is a step, or leaves processes and pids

abbrev IsAStep : World → Event → Outcome → World → Type 0
IsAStep w e o t = (q : ℕ) × IsStepOf q w e × StepOf w q o t

pub record IsOutside (w : World) (o : Outcome) (t : World) : Type 0 where
  pub processes : t.state.processes ≡ w.state.processes
  pub next_pid : t.state.next_pid ≡ w.state.next_pid
  pub outcome : (p : ℕ) → is_step_of p o ≡ false

abbrev IsKind : World → Event → Outcome → World → Type 0
IsKind w e o t = IsAStep w e o t ⊎ IsOutside w o t

module _ (w t : World) where
  same_world : (o : Outcome) → t ≡ w → ((p : ℕ) → is_step_of p o ≡ false) → IsOutside w o t
  same_world o e apart = record { processes = ap (λ (x : World). x.state.processes) e; next_pid = ap (λ (x : World). x.state.next_pid) e; outcome = apart }

  halted_is : (o : Outcome) → o ≡ Halted → (p : ℕ) → is_step_of p o ≡ false
  halted_is o e p = ap (is_step_of p) e

  turn_kind : (o : Outcome) → TurnTaken w o t → IsOutside w o t
  turn_kind (Turn q) h = record { processes = ap (λ (x : World). x.state.processes) h.3; next_pid = ap (λ (x : World). x.state.next_pid) h.3; outcome = λ p. refl }
  turn_kind Idle h = same_world Idle h (λ p. refl)
  turn_kind (Step_of q a) h = absurd h
  turn_kind Ticked h = absurd h
  turn_kind (Typed echo) h = absurd h
  turn_kind (Sent b) h = absurd h
  turn_kind Halted h = absurd h

  run_kind : (o : Outcome) (halted : Option ℤ) (current : Option ℕ) → w.turns.halted ≡ halted → w.turns.current ≡ current → RunHappens w halted current o t → IsKind w Run o t
  run_kind o (Some status) current e f h = inr (same_world o h.1 (halted_is o h.0))
  run_kind o None (Some q) e f h = inl (q, (refl, e, f), h)
  run_kind o None None e f h = inr (turn_kind o h)

  tick_kind : (o : Outcome) (halted : Option ℤ) → TickHappens w halted o t → IsOutside w o t
  tick_kind o (Some status) h = same_world o h.1 (halted_is o h.0)
  tick_kind o None h = record { processes = ap (λ (s : State). s.processes) h.1; next_pid = ap (λ (s : State). s.next_pid) h.1; outcome = λ p. ap (is_step_of p) h.0 }

  key_kind : (o : Outcome) (halted : Option ℤ) (b : ℕ) → KeyHappens w halted b o t → IsOutside w o t
  key_kind o (Some status) b h = same_world o h.1 (halted_is o h.0)
  key_kind o None b h = record { processes = ap (λ (s : State). s.processes) h.1; next_pid = ap (λ (s : State). s.next_pid) h.1; outcome = λ p. ap (is_step_of p) h.0 }

  pub kind : (e : Event) (o : Outcome) → Happens w e o t → IsKind w e o t
  kind Run o h = run_kind o w.turns.halted w.turns.current refl refl h
  kind Tick o h = inr (tick_kind o w.turns.halted h)
  kind (Key b) o h = inr (key_kind o w.turns.halted b h)
  kind Send o h = inr (record { processes = ap (λ (s : State). s.processes) h.1; next_pid = ap (λ (s : State). s.next_pid) h.1; outcome = λ p. ap (is_step_of p) h.0 })

-- an event that doesn't answer with a step of p isn't one
pub not_his : (p : ℕ) (w t : World) (e : Event) (o : Outcome) → Happens w e o t → is_step_of p o ≡ false → ¬ IsStepOf p w e
not_his p w t e o h apart is =
    let step = own_step p w t o w.turns.halted w.turns.current (subst (λ (x : Event). Happens w x o t) is.0 h) is.1 is.2 in
    let no : true ≡ false = sym (eq-eqb p p refl) ∙ sym (ap (is_step_of p) step.answer) ∙ apart in
    let bad : ⊥ = cc in bad

-- ---- who is live

same_live : (w t : World) → t.state.processes ≡ w.state.processes → (p : ℕ) → live t.state p ≡ live w.state p
same_live w t same p = ap (λ (m : FinMap nat_cmp Process). live_part (get m p)) same

pub same_seen : (w t : World) → t.state.processes ≡ w.state.processes → (p : ℕ) → is_some (view t.state p) ≡ is_some (view w.state p)
same_seen w t same p = is_some-view (live t.state p) t.state p ∙ ap is_some (same_live w t same p) ∙ sym (is_some-view (live w.state p) w.state p)

next_pid_is : (s : State) (p : ℕ) (o : Option Live) (v : View) → option_map (view_of s p) o ≡ Some v → v.next_pid ≡ s.next_pid
unfolding view_of
next_pid_is s p None v e = let no : ⊥ = cc in absurd no
next_pid_is s p (Some l) v e = sym (ap (λ (u : View). u.next_pid) (same_Some (view_of s p l) v e))

-- the next pid only grows, and a newborn has a pid that it passes
numbers_up : (n m : ℕ) (child : Option View) → MatchOption child (m ≡ n) (λ c. (c.pid ≡ n) × (c.call ≡ None) × (m ≡ n + 1)) → n ≤ m
numbers_up n m None h = omega (arith, h)
numbers_up n m (Some c) h = omega (arith, h.2)

born_below : (n m q : ℕ) (child : Option View) → MatchOption child (m ≡ n) (λ c. (c.pid ≡ n) × (c.call ≡ None) × (m ≡ n + 1)) → MatchOption child ⊥ (λ c. q ≡ c.pid) → (q ≡ n) × (q < m)
born_below n m q None h born = absurd born
born_below n m q (Some c) h born = let is : q ≡ n = born ∙ h.0 in (is, omega (arith, is, h.2))

module _ (w t : World) (q : ℕ) (o : Outcome) (h : StepOf w q o t) where
  pub his_pid : h.before.pid ≡ q
  his_pid = pid_is w.state q (live w.state q) h.before h.was

  his_next : h.before.next_pid ≡ w.state.next_pid
  his_next = next_pid_is w.state q (live w.state q) h.before h.was

  step_up : w.state.next_pid ≤ t.state.next_pid
  step_up = omega (arith, his_next, h.state.left.next_pid, numbers_up h.before.next_pid (own h.before).left.next_pid (own h.before).child (own_numbered h.before))

  -- a pid that is given, and of which nobody is live, stays so
  step_dead : (p : ℕ) → view w.state p ≡ None → p < w.state.next_pid → IsSome (view t.state p) → ⊥
  step_dead p dead given lives = elim (h.state.no_more p lives) [
    | inl his ↦ none_has_no_value (view w.state p) dead (ap (λ (k : ℕ). is_some (view w.state k)) (his ∙ his_pid) ∙ ap is_some h.was)
    | inr rest ↦ elim rest [
      | inl before ↦ none_has_no_value (view w.state p) dead before
      | inr born ↦
          let is : p ≡ h.before.next_pid = (born_below h.before.next_pid (own h.before).left.next_pid p (own h.before).child (own_numbered h.before) born).0 in
          absurd (omega (arith, is, his_next, given))
    ]
  ]

module _ (p : ℕ) (w t : World) (e : Event) (o : Outcome) (h : Happens w e o t) where
  given_more : w.state.next_pid ≤ t.state.next_pid
  given_more = elim (kind w t e o h) [ inl step ↦ step_up w t step.0 o step.2 | inr outside ↦ omega (arith, outside.next_pid) ]

  stays_given : p < w.state.next_pid → p < t.state.next_pid
  stays_given given = omega (arith, given, given_more)

  stays_dead : view w.state p ≡ None → p < w.state.next_pid → view t.state p ≡ None
  stays_dead dead given = by (view t.state p) refl
    where
      by : (x : Option View) → view t.state p ≡ x → view t.state p ≡ None
      by None is = is
      by (Some v) is = absurd (elim (kind w t e o h) [
        | inl step ↦ step_dead w t step.0 o step.2 p dead given (ap is_some is)
        | inr outside ↦ none_has_no_value (view w.state p) dead (sym (same_seen w t outside.processes p) ∙ ap is_some is)
      ])

  -- an outcome that is a step of p's is of p's step
  his_step : is_step_of p o ≡ true → IsStepOf p w e × StepOf w p o t
  his_step his = elim (kind w t e o h) [
    | inl step ↦
        let same : step.0 ≡ p = eqb-true step.0 p (sym (ap (is_step_of p) step.2.answer) ∙ his) in
        (subst (λ (q : ℕ). IsStepOf q w e) same step.1, subst (λ (q : ℕ). StepOf w q o t) same step.2)
    | inr outside ↦ let no : false ≡ true = sym (outside.outcome p) ∙ his in let bad : ⊥ = cc in absurd bad
  ]

-- ---- a run is cut

abbrev outcomes : List Moment → List Outcome
outcomes ms = map (λ m. m.outcome) ms

-- one event more at the head, which is no step of p
module _ (p : ℕ) (w mid t : World) (e : Event × Outcome) (es : List (Event × Outcome)) where
  one_before : (ms : List Moment) → Happens w e.0 e.1 mid → ¬ IsStepOf p w e.0 → IsCut p mid es t ms → IsCut p w (e ∷ es) t ms
  one_before ms h apart cut = (mid, h, inl (apart, cut))

-- a run without a step of p has no moment
no_moment : (p : ℕ) (w t : World) (es : List (Event × Outcome)) → Others p w es t → IsCut p w es t []
no_moment p w t [] others = (others, refl)
no_moment p w t (e ∷ es) (mid, h, apart, others) = (mid, h, inl (apart, no_moment p mid t es others))

no_step : (p : ℕ) (e : Event × Outcome) (es : List (Event × Outcome)) → is_step_of p e.1 ≡ false → steps_of p (e ∷ es) ≡ steps_of p es
no_step p e es apart = ap (λ (b : Bool). cond b (e.1 ∷ steps_of p es) (steps_of p es)) apart

a_step : (p : ℕ) (e : Event × Outcome) (es : List (Event × Outcome)) → is_step_of p e.1 ≡ true → steps_of p (e ∷ es) ≡ e.1 ∷ steps_of p es
a_step p e es his = ap (λ (b : Bool). cond b (e.1 ∷ steps_of p es) (steps_of p es)) his

-- of a process that is gone there is no step
cut_dead : (p : ℕ) (w t : World) (es : List (Event × Outcome)) → IsRun w es t → view w.state p ≡ None → p < w.state.next_pid → Others p w es t × (steps_of p es ≡ [])
cut_dead p w t [] run dead given = (run, refl)
cut_dead p w t (e ∷ es) (mid, h, more) dead given = by (is_step_of p e.1) refl (cut_dead p mid t es more (stays_dead p w mid e.0 e.1 h dead given) (stays_given p w mid e.0 e.1 h given))
  where
    by : (b : Bool) → is_step_of p e.1 ≡ b → Others p mid es t × (steps_of p es ≡ []) → Others p w (e ∷ es) t × (steps_of p (e ∷ es) ≡ [])
    by true his rest = absurd (none_has_no_value (view w.state p) dead (ap is_some (his_step p w mid e.0 e.1 h his).1.was))
    by false apart rest = ((mid, h, not_his p w mid e.0 e.1 h apart, rest.0), no_step p e es apart ∙ rest.1)

abbrev Cut : ℕ → World → List (Event × Outcome) → World → Type 0
Cut p w es t = (ms : List Moment) × IsCut p w es t ms × (outcomes ms ≡ steps_of p es)

module _ (p : ℕ) (w mid t : World) (e : Event × Outcome) (es : List (Event × Outcome)) (h : Happens w e.0 e.1 mid) where
  -- p's step, and what comes behind it
  with_step : (his : is_step_of p e.1 ≡ true) → (ms : List Moment) → IsSome (view mid.state p) ⊎ (ms ≡ []) → IsCut p mid es t ms → outcomes ms ≡ steps_of p es → Cut p w (e ∷ es) t
  with_step his ms last cut same =
      let is = his_step p w mid e.0 e.1 h his in
      let m : Moment = record { before = is.1.before; outcome = e.1; after = view mid.state p } in (
        m ∷ ms,
        (mid, h, inr (m, ms, refl, (is.0, is.1.was, refl, refl), last, cut)),
        ap (λ (l : List Outcome). e.1 ∷ l) same ∙ sym (a_step p e es his),
      )

  -- a step of p, where it lives on and where it is gone
  by_step : (IsSome (view mid.state p) → Cut p mid es t) → (view mid.state p ≡ None → Others p mid es t × (steps_of p es ≡ []))
      → is_step_of p e.1 ≡ true → (x : Option View) → view mid.state p ≡ x → Cut p w (e ∷ es) t
  by_step on over his None is = let rest = over is in with_step his [] (inr refl) (no_moment p mid t es rest.0) (sym rest.1)
  by_step on over his (Some v) is = let rest = on (ap is_some is) in with_step his rest.0 (inl (ap is_some is)) rest.1 rest.2

  by_outcome : (IsSome (view mid.state p) → Cut p mid es t) → (view mid.state p ≡ None → Others p mid es t × (steps_of p es ≡ []))
      → IsSome (view w.state p) → (b : Bool) → is_step_of p e.1 ≡ b → Cut p w (e ∷ es) t
  by_outcome on over lives true his = by_step on over his (view mid.state p) refl
  by_outcome on over lives false apart =
      let v = the_value (view w.state p) lives in
      let stays : IsSome (view mid.state p) = ap is_some (kept p v.0 w mid e.0 e.1 h (not_his p w mid e.0 e.1 h apart) v.1).is in
      let rest = on stays in
      (rest.0, one_before p w mid t e es rest.0 h (not_his p w mid e.0 e.1 h apart) rest.1, rest.2 ∙ sym (no_step p e es apart))

pub runs_are_cut : RunsAreCut
runs_are_cut p w t [] run lives given = ([], (run, refl), refl)
runs_are_cut p w t (e ∷ es) run lives given =
    let more : p < run.0.state.next_pid = stays_given p w run.0 e.0 e.1 run.1 given in
    by_outcome p w run.0 t e es run.1 (λ on. runs_are_cut p run.0 t es run.2 on more) (λ over. cut_dead p run.0 t es run.2 over more) lives (is_step_of p e.1) refl

-- ---- from boot on

-- a process has a pid that was given, and is in no call that may not wait
abbrev Waits : View → Type 0
Waits v = (c : Call) → v.call ≡ Some c → Contains waiting_calls c.number

abbrev Fine : World → Type 0
Fine w = (p : ℕ) (v : View) → view w.state p ≡ Some v → (p < w.state.next_pid) × Waits v

call_is : (s t : State) (p : ℕ) (o : Option Live) (u v : View) → option_map (view_of s p) o ≡ Some u → option_map (view_of t p) o ≡ Some v → u.call ≡ v.call
unfolding view_of
call_is s t p None u v a b = let no : ⊥ = cc in absurd no
call_is s t p (Some l) u v a b = sym (ap (λ (x : View). x.call) (same_Some (view_of s p l) u a)) ∙ ap (λ (x : View). x.call) (same_Some (view_of t p l) v b)

idle_waits : (v : View) → v.call ≡ None → Waits v
idle_waits v idle c is = let no : ⊥ = cc in absurd no

next_waits : (v n : View) → (own v).next ≡ Some n → Waits n
next_waits v n next c is =
    let blocked = (in_call_where_blocked v n next).1 (ap is_some is) in
    let told = blocked_is_in_call v n blocked.0 blocked.1 next in
    subst (λ (z : ℤ). Contains waiting_calls z) (sym told.2 ∙ ap (λ (x : Call). x.number) (same_Some (record (call_or_begun v v.call) { moved = told.0 }) c (sym told.1 ∙ is))) told.3

module _ (w t : World) (fine : Fine w) where
  module _ (q : ℕ) (o : Outcome) (h : StepOf w q o t) where
    up : (p : ℕ) → p < w.state.next_pid → p < t.state.next_pid
    up p given = omega (arith, given, step_up w t q o h)

    -- the stepping process, another one, a newborn
    fine_his : (p : ℕ) (v : View) → view t.state p ≡ Some v → p ≡ q → (p < t.state.next_pid) × Waits v
    fine_his p v see is = (
      up p (subst (λ (k : ℕ). k < w.state.next_pid) (sym is) (fine q h.before h.was).0),
      next_waits h.before v (sym h.state.next ∙ ap (view t.state) (his_pid w t q o h ∙ sym is) ∙ see),
    )

    fine_other : (p : ℕ) (v u : View) → view t.state p ≡ Some v → view w.state p ≡ Some u → p ≢ q → (p < t.state.next_pid) × Waits v
    unfolding seen
    fine_other p v u see was apart =
        let is = h.state.others p u (λ e. apart (e ∙ his_pid w t q o h)) was in
        let call : u.call ≡ v.call = ap (λ (x : View). x.call) (same_Some (seen w.state h.before (own h.before) u) v (sym is ∙ see)) in
        (up p (fine p u was).0, λ c busy. (fine p u was).1 c (call ∙ busy))

    fine_born : (p : ℕ) (v : View) → view t.state p ≡ Some v → IsNewbornOf (own h.before) p → (p < t.state.next_pid) × Waits v
    fine_born p v see born =
        let below = (born_below h.before.next_pid (own h.before).left.next_pid p (own h.before).child (own_numbered h.before) born).1 in
        (omega (arith, below, h.state.left.next_pid), idle_waits v (by h.before.next_pid (own h.before).left.next_pid (own h.before).child (own_numbered h.before) h.state.newborn born))
      where
        by : (n m : ℕ) (child : Option View) → MatchOption child (m ≡ n) (λ c. (c.pid ≡ n) × (c.call ≡ None) × (m ≡ n + 1))
            → MatchOption child (Unit {0}) (λ c. view t.state c.pid ≡ Some c) → MatchOption child ⊥ (λ c. p ≡ c.pid) → v.call ≡ None
        by n m None numbered sees is = absurd is
        by n m (Some c) numbered sees is = ap (λ (x : View). x.call) (same_Some v c (sym see ∙ ap (view t.state) is ∙ sees)) ∙ numbered.1

    fine_step : Fine t
    fine_step p v see = elim (eqb_tells p q) [
      | inl same ↦ fine_his p v see same.1
      | inr apart ↦ elim (h.state.no_more p (ap is_some see)) [
        | inl his ↦ absurd (apart.1 (his ∙ his_pid w t q o h))
        | inr rest ↦ elim rest [
          | inl before ↦ let u = the_value (view w.state p) before in fine_other p v u.0 see u.1 apart.1
          | inr born ↦ fine_born p v see born
        ]
      ]
    ]

  fine_outside : (o : Outcome) → IsOutside w o t → Fine t
  fine_outside o h p v see =
      let u = the_value (view w.state p) (sym (same_seen w t h.processes p) ∙ ap is_some see) in
      let call : u.0.call ≡ v.call = call_is w.state t.state p (live w.state p) u.0 v u.1 (ap (option_map (view_of t.state p)) (sym (same_live w t h.processes p)) ∙ see) in
      (omega (arith, (fine p u.0 u.1).0, h.next_pid), λ c busy. (fine p u.0 u.1).1 c (call ∙ busy))

  fine_event : (e : Event) (o : Outcome) → Happens w e o t → Fine t
  fine_event e o h = elim (kind w t e o h) [ inl step ↦ fine_step step.0 o step.2 | inr outside ↦ fine_outside o outside ]

fine_run : (w t : World) (es : List (Event × Outcome)) → IsRun w es t → Fine w → Fine t
fine_run w t [] run fine = subst Fine (sym run) fine
fine_run w t (e ∷ es) run fine = fine_run run.0 t es run.2 (fine_event w run.0 fine e.0 e.1 run.1)

fine_first : (frames trace : ℕ) (programs : List ProgramFile) (w : World) → first frames trace programs ≡ Ok w → Fine w
fine_first frames trace programs w h p v see = (
  ((first_well frames trace programs w h).pids p (process_seen w.state p (get w.state.processes p) (ap is_some see))).1,
  idle_waits v (first_idle frames trace programs w h p v see),
)

pub pids_are_given : PidsAreGiven
pids_are_given frames trace programs es t p boot lives =
    let v = the_value (view t.state p) lives in (fine_run boot.0 t es boot.2 (fine_first frames trace programs boot.0 boot.1) p v.0 v.1).0

pub only_waiters_are_in_calls : OnlyWaitersAreInCalls
only_waiters_are_in_calls frames trace programs es t p v c boot see busy = (fine_run boot.0 t es boot.2 (fine_first frames trace programs boot.0 boot.1) p v see).1 c busy

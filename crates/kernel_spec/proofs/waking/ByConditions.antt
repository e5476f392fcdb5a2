-- Waking by conditions is waking where it is due.
use Rattle.kernel_spec.proofs.Prelude.{ℕ, ◌∙◌, ◌≡◌, ◌⊎◌, ap, Bool, Condition, ConditionsSuffice, false, inl, inr, is_open, IsEnd, IsInCall, IsSome, Live, live, None, NoReadySleeper, Option}
use Rattle.kernel_spec.proofs.Prelude.{option_map, or_cases, or_left, or_parts, or_right, Outcome, ready, refl, Sleeps, Some, subst, sym, Ticked, true, View, view_of, waits_for, WakesAnyway}
use Rattle.kernel_spec.proofs.Prelude.{WakesByConditions, World}
use Rattle.kernel_spec.proofs.waking.Wakes.{ready_is, view_is}

some_of : (o : Option Live) → IsSome o → (l : Live) × (o ≡ Some l)
some_of None h = let no : ⊥ = cc in absurd no
some_of (Some l) h = (l, refl)

module _ (w t : World) (o : Outcome) (came : Condition → Bool) (before : NoReadySleeper w) (h : WakesByConditions w o t came) (q : ℕ) (l m : Live)
    (sleeps : Sleeps w.turns q) (was : live w.state q ≡ Some l) (now : live t.state q ≡ Some m) where
  unready : (l.killed ≡ false) × (is_open w.state (waits_for w.state q l) ≡ false)
  unready = or_parts l.killed (is_open w.state (waits_for w.state q l)) (sym (ready_is w.state q l) ∙ before q (view_of w.state q l) sleeps (ap (option_map (view_of w.state q)) was))

  -- who wakes is ready, or wakes anyway
  woken_due : ¬ Sleeps t.turns q → (ready (view_of t.state q m) ≡ true) ⊎ WakesAnyway q (view_of t.state q m) o
  woken_due awake = elim ((h.woken q l m sleeps was now).0 awake) [
    | inl shows ↦ inl (ready_is t.state q m ∙ or_right m.killed (is_open t.state (waits_for t.state q m))
        (ap (is_open t.state) (h.same q l m sleeps was now) ∙ h.open_now (waits_for w.state q l) shows))
    | inr more ↦ elim more [
      | inl newly ↦ inl (ready_is t.state q m ∙ or_left m.killed (is_open t.state (waits_for t.state q m)) newly.1)
      | inr anyway ↦ inr anyway
    ]
  ]

  -- who is ready, or wakes anyway, wakes
  due_woken : (ready (view_of t.state q m) ≡ true) ⊎ WakesAnyway q (view_of t.state q m) o → ¬ Sleeps t.turns q
  due_woken (inl shows) = elim (or_cases m.killed (is_open t.state (waits_for t.state q m)) (sym (ready_is t.state q m) ∙ shows)) [
    | inl marked ↦ (h.woken q l m sleeps was now).1 (inr (inl (unready.0, marked)))
    | inr shown ↦ (h.woken q l m sleeps was now).1 (inl (h.opened (waits_for w.state q l) unready.1 (ap (is_open t.state) (sym (h.same q l m sleeps was now)) ∙ shown)))
  ]
  due_woken (inr anyway) = (h.woken q l m sleeps was now).1 (inr (inr anyway))

pub conditions_suffice : ConditionsSuffice
conditions_suffice w t o came before h q v sleeps see =
    let m = view_is t.state q (live t.state q) v see in
    let l = some_of (live w.state q) (h.live_before q sleeps) in (
      λ awake. subst (λ (u : View). (ready u ≡ true) ⊎ (IsInCall 13 u × (o ≡ Ticked)) ⊎ ((q ≡ 1) × IsInCall 3 u × IsEnd o)) m.2
          (flat (view_of t.state q m.0) (woken_due w t o came before h q l.0 m.0 sleeps l.1 m.1 awake)),
      λ due. due_woken w t o came before h q l.0 m.0 sleeps l.1 m.1
          (nested (view_of t.state q m.0) (subst (λ (u : View). (ready u ≡ true) ⊎ (IsInCall 13 u × (o ≡ Ticked))
          ⊎ ((q ≡ 1) × IsInCall 3 u × IsEnd o)) (sym m.2) due)),
    )
  where
    flat : (u : View) → (ready u ≡ true) ⊎ WakesAnyway q u o → (ready u ≡ true) ⊎ (IsInCall 13 u × (o ≡ Ticked)) ⊎ ((q ≡ 1) × IsInCall 3 u × IsEnd o)
    flat u (inl shows) = inl shows
    flat u (inr x) = inr x

    nested : (u : View) → (ready u ≡ true) ⊎ (IsInCall 13 u × (o ≡ Ticked)) ⊎ ((q ≡ 1) × IsInCall 3 u × IsEnd o) → (ready u ≡ true) ⊎ WakesAnyway q u o
    nested u (inl shows) = inl shows
    nested u (inr x) = inr x

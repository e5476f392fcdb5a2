-- Worked cases of who has no turn in a run, of how many turns are given, and of who is ready.
use Rattle.kernel_spec.proofs.Prelude.{[], ℕ, ◌∙◌, ◌∷◌, ◌≡◌, Blocked, false, HasNoTurn, Idle, is_turn, IsReady, IsRunnable, map, NoReadySleeper, pos, ready, refl, Run, same_Some, Sleeps, Some}
use Rattle.kernel_spec.proofs.Prelude.{Step_of, Stepped, sym, Tick, Ticked, true, Turn, turns_taken, View, view, World}

-- ---- who has no turn: nobody has one if nothing happens, and a turn of another, a step or a tick is none

in_no_event : HasNoTurn 2 []
in_no_event = tt

of_another : HasNoTurn 2 ((Run, Turn 3) ∷ (Run, Turn 1) ∷ [])
of_another = ((λ e. let no : ⊥ = cc in no), ((λ e. let no : ⊥ = cc in no), tt))

in_its_step : HasNoTurn 2 ((Run, Step_of 2 Stepped) ∷ (Tick, Ticked) ∷ [])
in_its_step = ((λ e. let no : ⊥ = cc in no), ((λ e. let no : ⊥ = cc in no), tt))

-- its own turn is one, first or last
its_turn_first : HasNoTurn 2 ((Run, Turn 2) ∷ (Run, Turn 3) ∷ []) → ⊥
its_turn_first h = h.0 refl

its_turn_last : HasNoTurn 2 ((Run, Turn 3) ∷ (Run, Turn 2) ∷ []) → ⊥
its_turn_last h = h.1.0 refl

-- ---- how many turns are given

turns : map turns_taken ([] ∷ ((Run, Turn 3) ∷ (Run, Turn 2) ∷ []) ∷ ((Run, Turn 3) ∷ (Run, Idle) ∷ []) ∷ ((Tick, Ticked) ∷ (Run, Turn 3) ∷ []) ∷
    ((Run, Step_of 2 (Blocked (pos 3))) ∷ (Run, Idle) ∷ []) ∷ []) ≡ 0 ∷ 2 ∷ 1 ∷ 1 ∷ 0 ∷ []
turns = refl

are_turns : map is_turn (Turn 2 ∷ Idle ∷ Ticked ∷ Step_of 2 Stepped ∷ []) ≡ true ∷ false ∷ false ∷ false ∷ []
are_turns = refl

-- ---- who is ready

module _ (w : World) (v : View) (see : view w.state 2 ≡ Some v) where
  is_ready : ready v ≡ true → IsReady w 2
  is_ready could = (v, see, could)

  not_ready : ready v ≡ false → IsReady w 2 → ⊥
  not_ready unready (u, sees, could) =
      let same : v ≡ u = same_Some v u (sym see ∙ sees) in
      let no : false ≡ true = sym unready ∙ (λ i. ready (same i)) ∙ could in
      let bad : ⊥ = cc in bad

  -- a ready process that sleeps is what isn't to be, and one that isn't ready may sleep
  no_ready_sleeper : Sleeps w.turns 2 → ready v ≡ true → NoReadySleeper w → ⊥
  no_ready_sleeper asleep could none = let no : false ≡ true = sym (none 2 v asleep see) ∙ could in let bad : ⊥ = cc in bad

-- if nobody sleeps there is none
nobody_sleeps : (w : World) → ((p : ℕ) → ¬ Sleeps w.turns p) → NoReadySleeper w
nobody_sleeps w awake p v asleep see = absurd (awake p asleep)

-- one sleeps, and it isn't ready
one_sleeps : (w : World) → ((p : ℕ) → Sleeps w.turns p → p ≡ 2) → ((v : View) → view w.state 2 ≡ Some v → ready v ≡ false) → NoReadySleeper w
one_sleeps w only unready p v asleep see = unready v (sym (λ i. view w.state (only p asleep i)) ∙ see)

-- who sleeps may not run
sleeper_waits : (w : World) → Sleeps w.turns 2 → IsRunnable w 2 → ⊥
sleeper_waits w asleep may = may.1 asleep

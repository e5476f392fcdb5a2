-- No wake-up is lost, and who may run stays so until it runs.
use Rattle.kernel_spec.proofs.Prelude.{[], ℕ, ℤ, ◌∙◌, ◌∷◌, ◌≡◌, ◌⊎◌, ap, Blocked, Bool, Event, FallsAsleepByItself, false, Halted, Happens, Idle, inl, inr, is_some, IsPromised, IsSome, IsStepOf, Key}
use Rattle.kernel_spec.proofs.Prelude.{KeyHappens, List, live, NeverLost, NoLostWakeUp, None, NoReadySleeper, Option, Outcome, ready, ReadyMayRun, refl, Run, RunHappens, Send, Sent, Sleeps, Some}
use Rattle.kernel_spec.proofs.Prelude.{StaysRunnable, Step_of, StepOf, subst, sym, Tick, Ticked, TickHappens, true, Turn, TurnTaken, Typed, View, view, World}
use Rattle.kernel_spec.proofs.rows.Asleep.{own_unready}
use Rattle.kernel_spec.proofs.well.FirstWell.{nobody_sleeps}
use Rattle.kernel_spec.proofs.steps.OthersKeepTheRest.{kept, pid_is}
use Rattle.kernel_spec.proofs.Common.{the_value}

-- q slept before, or it was its own step, which answers that it waits, and it could not go on
abbrev Reason : World → Event → Outcome → World → ℕ → Type 0
Reason w e o t q = Sleeps w.turns q ⊎ (IsStepOf q w e × ((number : ℤ) × (o ≡ Step_of q (Blocked number))) × ((v : View) → view t.state q ≡ Some v → ready v ≡ false))

unchanged : (w t : World) (e : Event) (o : Outcome) (q : ℕ) → t ≡ w → Sleeps t.turns q → Reason w e o t q
unchanged w t e o q same h = inl (subst (λ (u : World). Sleeps u.turns q) same h)

by_step : (w t : World) (p : ℕ) (o : Outcome) (q : ℕ) → w.turns.halted ≡ None → w.turns.current ≡ Some p → StepOf w p o t → Sleeps t.turns q → Reason w Run o t q
by_step w t p o q halted current h asleep = elim (h.turns.awake q asleep) [
  | inl before ↦ inl before
  | inr fell ↦ inr (
    (refl, halted, current ∙ ap Some (sym fell.0)),
    (fell.1.0, h.answer ∙ (λ i. Step_of (sym fell.0 i) (fell.1.1 i))),
    λ v see.
        own_unready h.before fell.1.0 v fell.1.1
        (sym h.state.next ∙ ap (view t.state) (pid_is w.state p (live w.state p) h.before h.was) ∙ ap (view t.state) (sym fell.0) ∙ see),
  )
]

by_turn : (w t : World) (o : Outcome) (q : ℕ) → TurnTaken w o t → Sleeps t.turns q → Reason w Run o t q
by_turn w t (Turn p) q h asleep = inl (subst (λ (u : World). Sleeps u.turns q) h.3 asleep)
by_turn w t Idle q h asleep = unchanged w t Run Idle q h asleep
by_turn w t (Step_of p a) q h asleep = absurd h
by_turn w t Ticked q h asleep = absurd h
by_turn w t (Typed echo) q h asleep = absurd h
by_turn w t (Sent b) q h asleep = absurd h
by_turn w t Halted q h asleep = absurd h

by_run : (w t : World) (o : Outcome) (halted : Option ℤ) (current : Option ℕ) (q : ℕ) → w.turns.halted ≡ halted → w.turns.current ≡ current
    → RunHappens w halted current o t → Sleeps t.turns q → Reason w Run o t q
by_run w t o (Some status) current q end is h asleep = unchanged w t Run o q h.1 asleep
by_run w t o None (Some p) q end is h asleep = by_step w t p o q end is h asleep
by_run w t o None None q end is h asleep = by_turn w t o q h asleep

by_tick : (w t : World) (o : Outcome) (halted : Option ℤ) (q : ℕ) → TickHappens w halted o t → Sleeps t.turns q → Reason w Tick o t q
by_tick w t o (Some status) q h asleep = unchanged w t Tick o q h.1 asleep
by_tick w t o None q h asleep = inl (h.2.1 q asleep)

by_key : (w t : World) (o : Outcome) (halted : Option ℤ) (b q : ℕ) → KeyHappens w halted b o t → Sleeps t.turns q → Reason w (Key b) o t q
by_key w t o (Some status) b q h asleep = unchanged w t (Key b) o q h.1 asleep
by_key w t o None b q h asleep = inl (h.2.1 q asleep)

who_sleeps : (w t : World) (e : Event) (o : Outcome) (q : ℕ) → Happens w e o t → Sleeps t.turns q → Reason w e o t q
who_sleeps w t Run o q h asleep = by_run w t o w.turns.halted w.turns.current q refl refl h asleep
who_sleeps w t Tick o q h asleep = by_tick w t o w.turns.halted q h asleep
who_sleeps w t (Key b) o q h asleep = by_key w t o w.turns.halted b q h asleep
who_sleeps w t Send o q h asleep = inl (h.2.1 q asleep)

pub falls_asleep_by_itself : FallsAsleepByItself
falls_asleep_by_itself w t e o p h asleep = elim (who_sleeps w t e o p h asleep) [ inl before ↦ inl before | inr fell ↦ inr (fell.0, fell.1) ]

not_ready : (v : View) (b : Bool) → ready v ≡ b → (ready v ≡ true → ⊥) → ready v ≡ false
not_ready v true e h = absurd (h e)
not_ready v false e h = e

pub no_lost_wake_up : NoLostWakeUp
no_lost_wake_up w t e o h due q v asleep see = elim (who_sleeps w t e o q h asleep) [
  | inl before ↦ not_ready v (ready v) refl (λ yes. (due q v before see).1 (inl yes) asleep)
  | inr fell ↦ fell.2 v see
]

pub stays_runnable : StaysRunnable
stays_runnable w t e o p h runs apart = (alive, λ asleep. elim (who_sleeps w t e o p h asleep) [ inl before ↦ runs.1 before | inr fell ↦ apart fell.0.2 ])
  where
    alive : IsSome (view t.state p)
    alive =
        let v = the_value (view w.state p) runs.0 in
        let k = kept p v.0 w t e o h (λ is. apart is.2) v.1 in
        ap is_some k.is

-- ---- from boot

along : (w t : World) (es : List (Event × Outcome)) → NoReadySleeper w → IsPromised w es t → NoReadySleeper t
along w t [] none run = subst (λ (u : World). NoReadySleeper u) (sym run) none
along w t (e ∷ es) none run = along run.0 t es (no_lost_wake_up w run.0 e.0 e.1 run.1.0 run.1.1) run.2

pub never_lost : NeverLost
never_lost frames trace programs w t es boot run = along w t es (λ p v asleep see. absurd (nobody_sleeps frames trace programs w boot p asleep)) run

pub ready_may_run : ReadyMayRun
ready_may_run frames trace programs w t es p boot run (v, see, could) = (
  ap is_some see,
  λ asleep. let no : false ≡ true = sym (never_lost frames trace programs w t es boot run p v asleep see) ∙ could in let bad : ⊥ = cc in bad,
)

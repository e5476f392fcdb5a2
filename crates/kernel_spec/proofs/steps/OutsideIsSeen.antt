-- What every process sees of an event that is no step.
use Rattle.kernel_spec.proofs.Prelude.{ℕ, ℤ, ◌%◌, ◌+◌, ◌∙◌, ◌≡◌, ◌⊎◌, ap, CLOCK_ROUND, Event, Halted, HaltedStays, Happens, Idle, inl, inr, IsSome, Key, KeyHappens, line, Live, live, None, Option}
use Rattle.kernel_spec.proofs.Prelude.{option_map, Outcome, OutsideSteps, refl, Run, RunHappens, same_Some, Send, Sent, sent, Some, State, Step_of, sym, Tick, Ticked, TickHappens, Turn, TurnTaken}
use Rattle.kernel_spec.proofs.Prelude.{Typed, View, view, view_of, World}
use Rattle.kernel_spec.specs.runs.Outside.{seen_outside}
use Rattle.kernel_spec.proofs.steps.OthersKeepTheRest.{clock_view, console_view}

clock_is : (s : State) (p : ℕ) (o : Option Live) (v : View) → option_map (view_of s p) o ≡ Some v → v.clock ≡ s.clock
unfolding view_of
clock_is s p None v e = cc
clock_is s p (Some l) v e = sym (ap (λ (u : View). u.clock) (same_Some (view_of s p l) v e))

console_is : (s : State) (p : ℕ) (o : Option Live) (v : View) → option_map (view_of s p) o ≡ Some v → v.console ≡ s.console
unfolding view_of
console_is s p None v e = cc
console_is s p (Some l) v e = sym (ap (λ (u : View). u.console) (same_Some (view_of s p l) v e))

module _ (p : ℕ) (v : View) (w t : World) (o : Outcome) (see : view w.state p ≡ Some v) where
  by_turn : (x : Outcome) → TurnTaken w x t → view t.state p ≡ Some v
  by_turn (Turn q) h = ap (λ (u : World). view u.state p) h.3 ∙ see
  by_turn Idle h = ap (λ (u : World). view u.state p) h ∙ see
  by_turn (Step_of q a) h = absurd h
  by_turn Ticked h = absurd h
  by_turn (Typed echo) h = absurd h
  by_turn (Sent b) h = absurd h
  by_turn Halted h = absurd h

  by_run : (halted : Option ℤ) (current : Option ℕ) → RunHappens w halted current o t → halted ≡ None → current ≡ None → view t.state p ≡ Some v
  by_run (Some status) current h e f = let no : ⊥ = cc in absurd no
  by_run None (Some q) h e f = let no : ⊥ = cc in absurd no
  by_run None None h e f = by_turn o h

  by_tick : (halted : Option ℤ) → TickHappens w halted o t → halted ≡ None → view t.state p ≡ Some (seen_outside Tick v)
  by_tick (Some status) h e = let no : ⊥ = cc in absurd no
  by_tick None h e =
      ap (λ (s : State). view s p) h.1 ∙ clock_view w.state ((w.state.clock + 1) % CLOCK_ROUND) p (live w.state p) v see
      ∙ (λ i. Some (record v { clock = (sym (clock_is w.state p (live w.state p) v see) i + 1) % CLOCK_ROUND }))

  by_key : (halted : Option ℤ) (b : ℕ) → KeyHappens w halted b o t → halted ≡ None → view t.state p ≡ Some (seen_outside (Key b) v)
  by_key (Some status) b h e = let no : ⊥ = cc in absurd no
  by_key None b h e =
      ap (λ (s : State). view s p) h.1 ∙ console_view w.state (line w.state.console b).0 p (live w.state p) v see
      ∙ (λ i. Some (record v { console = (line (sym (console_is w.state p (live w.state p) v see) i) b).0 }))

  running : (e : Event) → (e ≡ Send → ⊥) → (w.turns.halted ≡ None) ⊎ (e ≡ Send) → w.turns.halted ≡ None
  running e apart (inl halted) = halted
  running e apart (inr sends) = absurd (apart sends)

  by_event : (e : Event) → Happens w e o t → (w.turns.halted ≡ None) ⊎ (e ≡ Send) → (e ≡ Run → w.turns.current ≡ None) → view t.state p ≡ Some (seen_outside e v)
  by_event Run h halted idle = by_run w.turns.halted w.turns.current h (running Run (λ x. let no : ⊥ = cc in no) halted) (idle refl)
  by_event Tick h halted idle = by_tick w.turns.halted h (running Tick (λ x. let no : ⊥ = cc in no) halted)
  by_event (Key b) h halted idle = by_key w.turns.halted b h (running (Key b) (λ x. let no : ⊥ = cc in no) halted)
  by_event Send h halted idle =
      ap (λ (s : State). view s p) h.1 ∙ console_view w.state (sent w.state.console) p (live w.state p) v see
      ∙ (λ i. Some (record v { console = sent (sym (console_is w.state p (live w.state p) v see) i) }))

pub outside_steps : OutsideSteps
outside_steps p v w t e o h halted idle see = by_event p v w t o see e h halted idle

run_stays : (w t : World) (o : Outcome) (halted : Option ℤ) (current : Option ℕ) → RunHappens w halted current o t → IsSome halted → (o ≡ Halted) × (t ≡ w)
run_stays w t o None current h some = let no : ⊥ = cc in absurd no
run_stays w t o (Some status) current h some = h

tick_stays : (w t : World) (o : Outcome) (halted : Option ℤ) → TickHappens w halted o t → IsSome halted → (o ≡ Halted) × (t ≡ w)
tick_stays w t o None h some = let no : ⊥ = cc in absurd no
tick_stays w t o (Some status) h some = h

key_stays : (w t : World) (o : Outcome) (halted : Option ℤ) (b : ℕ) → KeyHappens w halted b o t → IsSome halted → (o ≡ Halted) × (t ≡ w)
key_stays w t o None b h some = let no : ⊥ = cc in absurd no
key_stays w t o (Some status) b h some = h

pub halted_stays : HaltedStays
halted_stays w t Run o h some apart = run_stays w t o w.turns.halted w.turns.current h some
halted_stays w t Tick o h some apart = tick_stays w t o w.turns.halted h some
halted_stays w t (Key b) o h some apart = key_stays w t o w.turns.halted b h some
halted_stays w t Send o h some apart = absurd (apart refl)

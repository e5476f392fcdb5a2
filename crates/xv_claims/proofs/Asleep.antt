-- Another's step wakes nobody who sleeps for ticks.
use Rattle.std.proofs.Common.{ℕ, ◌∙◌, ◌≡◌, ◌≢◌, ◌||◌, ap, Bool, false, inl, inr, refl, Some, sym, true}
use Rattle.std.proofs.lemmas.Option.{same_Some}
use Rattle.std.specs.FinSet.{contains}
use Rattle.std.specs.Prelude.{pos}
use Rattle.proc_table.specs.declared.process.Call.{Call}
unfoldable use Rattle.kernel_spec.specs.others.Quiet.{seen}
use Rattle.kernel_spec.specs.runs.Run.{Step_of, StepOf, Ticked, World}
unfoldable use Rattle.kernel_spec.specs.rows.Calls.{row_of}
use Rattle.kernel_spec.specs.steps.Own.{Answer, Own}
use Rattle.kernel_spec.specs.steps.Step.{own}
use Rattle.kernel_spec.specs.steps.Ticks.{has_passed, ticks_since}
use Rattle.kernel_spec.specs.views.State.{live}
use Rattle.kernel_spec.specs.views.View.{View, view}
use Rattle.kernel_spec.specs.views.Words.{c_int, is_this}
use Rattle.kernel_spec.specs.waking.Ready.{call_ready, row_ready}
unfoldable use Rattle.kernel_spec.specs.waking.Ready.{ready}
use Rattle.kernel_spec.specs.waking.Turns.{Sleeps}
use Rattle.kernel_spec.specs.waking.Wakes.{IsInCall}
use Rattle.kernel_spec.proofs.Common.{or_false, this_is_not}
use Rattle.kernel_spec.proofs.runs.Two.{own_step}
use Rattle.kernel_spec.proofs.steps.OthersKeepTheRest.{pid_is}
use Rattle.xv_claims.specs.ApartLaws.{OnlyTicksWake}

-- ---- who sleeps for ticks is ready by its mark and the clock alone

by_the_clock : (x : View) (c : Call) → x.call ≡ Some c → c.number ≡ pos 13 → ready x ≡ (x.killed || has_passed (ticks_since x.clock c.clock) (c_int c.a0))
unfolding ready row_of
by_the_clock x c is thirteen = ap (λ o. x.killed || call_ready x o) is ∙ ap (λ n. x.killed || row_ready x c (row_of n)) thirteen

-- what another's step leaves of that
seen_ready : (w : World) (v u : View) (o : Own) → o.marked ≢ Some u.pid → IsInCall 13 u → ready (seen w.state v o u) ≡ ready u
unfolding seen
seen_ready w v u o marks (c, is, thirteen) =
    let unmarked : (u.killed || is_this u.pid o.marked) ≡ u.killed = ap (λ (b : Bool). u.killed || b) (this_is_not u.pid o.marked marks) ∙ sym (or_false u.killed) in
    by_the_clock (seen w.state v o u) c is thirteen ∙ ap (λ (b : Bool). b || has_passed (ticks_since u.clock c.clock) (c_int c.a0)) unmarked ∙ sym (by_the_clock u c is thirteen)

still_in_call : (w : World) (v u : View) (o : Own) → (seen w.state v o u).call ≡ u.call
unfolding seen
still_in_call w v u o = refl

no_tick : (p : ℕ) (a : Answer) → Step_of p a ≡ Ticked → ⊥
no_tick p a e = cc

thirteen_not_three : (x : View) → IsInCall 13 x → IsInCall 3 x → ⊥
thirteen_not_three x (c, is, thirteen) (d, too, three) =
    let same : c ≡ d = same_Some c d (sym is ∙ too) in
    let both : pos 13 ≡ pos 3 = sym thirteen ∙ ap (λ (z : Call). z.number) same ∙ three in
    let no : ⊥ = cc in no

-- ---- as a law

pub only_ticks_wake : OnlyTicksWake
only_ticks_wake w t p q o v u promised his other see_p see_q none asleep in_call marks = by (contains t.turns.sleepers q) refl
  where
    step : StepOf w p o t
    step = own_step p w t o w.turns.halted w.turns.current promised.0 his.1 his.2

    same : step.before ≡ v
    same = same_Some step.before v (sym step.was ∙ see_p)

    after : view t.state q ≡ Some (seen w.state step.before (own step.before) u)
    after = step.state.others q u (λ e. other (sym (e ∙ pid_is w.state p (live w.state p) step.before step.was))) see_q

    unmarked : (own step.before).marked ≢ Some u.pid
    unmarked e = marks (ap (λ (x : View). (own x).marked) (sym same) ∙ e ∙ ap Some (pid_is w.state q (live w.state q) u see_q))

    in_call_after : IsInCall 13 (seen w.state step.before (own step.before) u)
    in_call_after = (in_call.0, still_in_call w step.before u (own step.before) ∙ in_call.1, in_call.2)

    by : (b : Bool) → contains t.turns.sleepers q ≡ b → Sleeps t.turns q
    by true is = is
    by false is =
        let awake : ¬ Sleeps t.turns q = λ h. let no : false ≡ true = sym is ∙ h in let bad : ⊥ = cc in bad in
        elim ((promised.1 q (seen w.state step.before (own step.before) u) asleep after).0 awake) [
          | inl ready_now ↦
              let no : false ≡ true = sym (none q u asleep see_q) ∙ sym (seen_ready w step.before u (own step.before) unmarked in_call) ∙ ready_now in
              let bad : ⊥ = cc in absurd bad
          | inr rest ↦ elim rest [
            | inl tick ↦ absurd (no_tick p (own step.before).answer (sym step.answer ∙ tick.1))
            | inr first ↦ absurd (thirteen_not_three (seen w.state step.before (own step.before) u) in_call_after first.1)
          ]
        ]

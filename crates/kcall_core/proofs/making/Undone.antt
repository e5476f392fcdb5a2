-- How the instruction of the process that runs ends, seen in the view before it: no page comes where it isn't done, and what comes changes the image and the free frames alone.
use Rattle.kcall_core.proofs.Prelude.{[], ◌∙◌, ◌∷◌, ◌≡◌, ◌≢◌, after_instruction, ap, before_instruction, before_same, before_touched, before_untouched, Bool, Cause, done_once_touched, Ecall, false}
use Rattle.kcall_core.proofs.Prelude.{Fault, Faulted, goes_on, gone, Hart, instruction_now, is_on_absent, Kernel, live_now, Next, next_instruction, next_of_stop, None, Option, own, page_used, refl}
use Rattle.kcall_core.proofs.Prelude.{Registers, Some, Step, Stepped, Stop, stop_now, stop_of, stored, touch, touch-comes, true, View, view_now, view_of}
use Rattle.rv64i_core.specs.Memory.{Store}
use Rattle.kcall_core.proofs.making.TouchedSteps.{own-is, fault-of, fault-no-next}
use Rattle.kcall_core.proofs.making.Series.{ecall-next}
use Rattle.rv64i_core.specs.declared.execution.Stop.TheVariants as stops
use Rattle.kernel_spec.specs.steps.Cases as laws

-- ---- the view in which it is done

-- an instruction that isn't done is on no absent page that comes
pub undone-before : (v : View) → stop_of (instruction_now v) ≢ stops.Next → before_instruction v ≡ v
undone-before v other = by (is_on_absent v.regs v.image) refl (touch (page_used v.regs v.image ∷ []) v) refl
  where
    by : (b : Bool) → is_on_absent v.regs v.image ≡ b → (o : Option View) → touch (page_used v.regs v.image ∷ []) v ≡ o → before_instruction v ≡ v
    by false off o come = before_same v off
    by true on None come = before_untouched v come
    by true on (Some t) come =
        let c = touch-comes (page_used v.regs v.image ∷ []) v t come in
        absurd (other (
        ap (λ (u : View). stop_of (next_instruction u.regs u.image)) (before_touched v t on come)
        ∙ (λ i. stop_of (next_instruction ((c.view i).regs) (c.image i)))
        ∙ done_once_touched v.regs v.image on
        ))

-- ---- the process that runs

module _ (k : Kernel) (h : Hart) where
  -- what is made of it
  pub own-now : laws.IsBetweenCalls (live_now k h) → own (view_now k h) ≡ after_instruction (before_instruction (view_now k h)) (instruction_now (view_now k h))
  unfolding view_of
  own-now free = own-is (view_now k h) free.0 free.1

  -- it is done
  pub next-now : laws.IsBetweenCalls (live_now k h) → stop_now k h ≡ stops.Next
      → (r : Registers) × (st : Option Store) × (own (view_now k h) ≡ goes_on Stepped (stored (before_instruction (view_now k h)) r st))
  next-now free next =
      let n = next_of_stop (instruction_now (view_now k h)) next in
      (n.0, n.1, own-now free ∙ ap (after_instruction (before_instruction (view_now k h))) n.2)

  -- it isn't
  pub undone-stop : (stop : Stop) → stop ≡ stop_now k h → stop ≢ stops.Next → stop ≡ stop_of (next_instruction (live_now k h).regs (live_now k h).image)
  unfolding view_of
  undone-stop stop ends other = ends ∙ ap (λ (v : View). stop_of (next_instruction v.regs v.image)) (undone-before (view_now k h) (λ e. other (ends ∙ e)))

  ecall-of : (step : Step) → stops.Ecall ≡ stop_of step → step ≡ Ecall
  ecall-of (Next regs store) e = let no : ⊥ = cc in absurd no
  ecall-of Ecall e = refl
  ecall-of (Fault cause) e = let no : ⊥ = cc in absurd no

  -- it is an ECALL
  pub ecall-now : stops.Ecall ≡ stop_now k h → next_instruction (live_now k h).regs (live_now k h).image ≡ Ecall
  ecall-now ends = ecall-of (next_instruction (live_now k h).regs (live_now k h).image) (undone-stop stops.Ecall ends ecall-next)

  -- it faults, and the process ends
  pub fault-now : (cause : Cause) → laws.IsBetweenCalls (live_now k h) → stops.Fault cause ≡ stop_now k h → own (view_now k h) ≡ gone (Faulted cause) (view_now k h)
  fault-now cause free ends =
      let same = undone-before (view_now k h) (λ e. fault-no-next cause (ends ∙ e)) in
      own-now free ∙ ap (after_instruction (before_instruction (view_now k h))) (fault-of (instruction_now (view_now k h)) cause ends) ∙ ap (gone (Faulted cause)) same

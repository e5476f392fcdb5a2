-- Worked cases: where a step by breakpoints may lead, and which way becomes one up to a step.
use Rattle.std.proofs.Common.{◌≡◌, ℕ, [], ◌∷◌, None, Some, false, true, refl}
use Rattle.xv_session.specs.declared.looking.NextStep.{NextStep}
use Rattle.gdb_target.specs.Stepping.{is_one, leads_to_one, until_by}
use Rattle.gdb_target.specs.declared.target.Target.{Target}
use Rattle.gdb_target.specs.declared.target.Until.TheVariants.{StepOf, AnyStep}

the_target_of_a_jump_is_one : is_one (0x104 ∷ 0x200 ∷ []) (Some 0x200) ≡ true
the_target_of_a_jump_is_one = refl

another_address_is_none : is_one (0x104 ∷ 0x200 ∷ []) (Some 0x100) ≡ false
another_address_is_none = refl

what_is_no_jump_leads_nowhere_else : is_one (0x104 ∷ []) None ≡ false
what_is_no_jump_leads_nowhere_else = refl

module _ (step : NextStep) where
  it_leads_behind_itself : step.regs.pc ≡ 0x100 → step.word ≡ None → leads_to_one (0x104 ∷ []) step ≡ true
  it_leads_behind_itself pc none = rw pc refl

  it_leads_no_further : step.regs.pc ≡ 0x100 → step.word ≡ None → leads_to_one (0x108 ∷ 0x100 ∷ []) step ≡ false
  it_leads_no_further pc none = rw (pc, none) refl

module _ (t : Target) (p : ℕ) where
  a_step_stays_what_it_is : until_by t p (StepOf 3) ≡ StepOf 3
  a_step_stays_what_it_is = refl

  any_step_stays_what_it_is : until_by t p AnyStep ≡ AnyStep
  any_step_stays_what_it_is = refl

-- Without a table of call frames the calls are a guess.
use Rattle.std.proofs.Common.{◌≡◌, ℕ, [], Option, None, Some, refl}
use Rattle.rv64i_core.specs.Registers.{Registers}
use Rattle.kernel_spec.specs.views.State.{State}
use Rattle.xv_report.specs.CallLaws.{IsGuess}
use Rattle.xv_report.specs.Reports.{AreCallersWith, AreCallsBy}
use Rattle.xv_report.specs.Unwound.{caller_by, frameless, innermost, told_if}
use Rattle.xv_report.specs.declared.callers.Callers.{Callers}
use Rattle.xv_report.specs.declared.unwinding.Activation.{Activation}
use Rattle.xv_report.specs.declared.unwinding.Calls.{Calls}
use Rattle.xv_report.specs.declared.unwinding.Calls.TheVariants.{Known, FromRa, Guessed}

module _ (s : State) (p : ℕ) (regs : Registers) where
  by-kind : (calls : Calls) → AreCallsBy None None [] s p regs calls → (callers : Callers) × (calls ≡ Guessed callers) × AreCallersWith s p regs callers
  by-kind (Guessed callers) h = (callers, refl, h)
  by-kind (Known addresses) h = absurd h
  by-kind (FromRa addresses) h = absurd h

  by-caller : (caller : Option Activation) (calls : Calls) → AreCallsBy None (told_if [] caller) [] s p regs calls → (callers : Callers) × (calls ≡ Guessed callers) × AreCallersWith s p regs callers
  by-caller None calls h = by-kind calls h
  by-caller (Some caller) calls h = by-kind calls h

pub is-guess : IsGuess
is-guess s p regs calls h = by-caller s p regs (caller_by s p (innermost regs) (Some frameless)) calls h

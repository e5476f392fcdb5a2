-- Worked cases of who stands before an instruction.
use Rattle.std.proofs.Common.{◌≡◌, Bool, true, false, Option, None, Some, refl}
use Rattle.std.specs.Prelude.{pos}
use Rattle.proc_table.specs.declared.process.Call.{Call}
use Rattle.kcall_core.specs.declared.kernel.observers.ProcessState.TheVariants.{Live, Zombie}
use Rattle.xv_session.specs.Until.{is_outside_calls}

-- one that runs its program does, and so does one that is to be killed
in_its_program : (marked : Bool) → is_outside_calls (Some (Live None marked None false)) ≡ true
in_its_program marked = refl

-- one in a call does not, asleep or woken
in_a_call : (call : Call) (asleep : Bool) → is_outside_calls (Some (Live None false (Some call) asleep)) ≡ false
in_a_call call asleep = refl

-- nor does one that is gone
that_is_gone : is_outside_calls (Some (Zombie None (pos 0))) ≡ false
that_is_gone = refl

that_never_was : is_outside_calls None ≡ false
that_never_was = refl

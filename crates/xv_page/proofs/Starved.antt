-- A session that is put into a box: where memory is short for the box, that is an answer of boot too.
use Rattle.std.proofs.Common.{ℕ, List, inr, refl, sym, subst}
use Rattle.std.specs.Prelude.{Result, Ok, Err, IfOk}
use Rattle.std.specs.declared.boxed.Box.{Box}
use Rattle.xk_base.specs.declared.errors.BootError.TheVariants.{BadConfig, BadPrograms, NoInit, Memory, Init}
use Rattle.xk_base.specs.declared.errors.BootError.{BootError}
use Rattle.kernel_spec.specs.runs.Run.{World}
use Rattle.kernel_spec.specs.views.State.{ProgramFile}
use Rattle.xv_machine.specs.Boots.{Boots}
use Rattle.xv_machine.specs.Meaning.{Meaning}
use Rattle.xv_session.specs.Answers.{machine_of, IsNew}
use Rattle.xv_session.specs.Recorded.{Recorded}
use Rattle.xv_page.specs.Booting.{boxed, IsBoxed}

pub starved : (frames : ℕ) (m : Meaning) (w : Result World BootError) → Boots frames (Ok m) w → Boots frames (Err Memory) w
starved frames m (Err BadConfig) h = let no_way : ⊥ = cc in absurd no_way
starved frames m (Err (BadPrograms i)) h = let no_way : ⊥ = cc in absurd no_way
starved frames m (Err NoInit) h = let no_way : ⊥ = cc in absurd no_way
starved frames m (Err Memory) h = refl
starved frames m (Err (Init e)) h = inr refl
starved frames m (Ok w) h = inr refl

pub boots-boxed : {Z : Type 0} (frames : ℕ) (s : Recorded) (r : Result (Box Recorded Z) BootError) (w : Result World BootError) → IsBoxed s r
    → Boots frames (Ok s.machine) w → Boots frames (machine_of (boxed r)) w
boots-boxed frames s (Ok b) w same h = let P : Recorded → Type 0 = λ t. Boots frames (Ok t.machine) w in subst P (sym same) h
boots-boxed frames s (Err e) w same h = let P : BootError → Type 0 = λ x. Boots frames (Err x) w in subst P (sym same) (starved frames s.machine w h)

pub new-boxed : {Z : Type 0} (frames trace : ℕ) (programs : List ProgramFile) (s : Recorded) (r : Result (Box Recorded Z) BootError) → IsBoxed s r
    → IsNew frames trace programs s → IfOk r (λ b. IsNew frames trace programs b.value)
new-boxed frames trace programs s (Ok b) same h = subst (IsNew frames trace programs) (sym same) h
new-boxed frames trace programs s (Err e) same h = tt

-- What the machine tells of a frame is its use.
use Rattle.std.proofs.Common.{◌≡◌, ◌≤◌, ℕ, refl}
use Rattle.std.specs.Prelude.{◌↔◌, Option, None, Some}
use Rattle.kcall_core.specs.declared.kernel.observers.frame_uses.FrameUse.{FrameUse}
use Rattle.xv_machine.specs.FrameUses.{IsUsed}
use Rattle.xv_machine.specs.Meaning.{Meaning}
use Rattle.xv_page.specs.Observed.{IsUseOf}

pub use-told : (m : Meaning) (frame : ℕ) (o : Option FrameUse) → ((used : FrameUse) → (o ≡ Some used) ↔ IsUsed m frame used) → ((o ≡ None) ↔ (m.frames.count ≤ frame)) → IsUseOf m frame o
use-told m frame None told none = none.0 refl
use-told m frame (Some used) told none = (told used).0 refl

-- What a step leaves of the pids, and whether a process is left.
use Rattle.kernel_spec.proofs.Prelude.{ℕ, ◌≡◌, ◌⊎◌, gone_with, IsNewbornOf, IsSome, None, Own, own, true, View}
use Rattle.kernel_spec.proofs.calls.Steps.{own_facts}
pub use Rattle.kernel_spec.proofs.calls.Facts.{has}

-- A process that isn't gone is left, and the pids are those of before and the newborn's
pub record Sound (v : View) (o : Own) : Type 0 where
  pub left : gone_with o.answer ≡ None → IsSome o.next
  pub pids : (q : ℕ) → has q o.left.pids ≡ true → (has q v.pids ≡ true) ⊎ IsNewbornOf o q

pub own_sound : (v : View) → Sound v (own v)
own_sound v = record { left = (own_facts v).left; pids = (own_facts v).pids }

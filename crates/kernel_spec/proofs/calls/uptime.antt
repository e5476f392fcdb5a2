-- uptime: which call it is, and what is claimed of its row.
use Rattle.kernel_spec.proofs.Prelude.{◌>>=◌, ◌or◌, ◌≡◌, Call, perform, pos, refl, row, row_of, Some, Uptime, uptime, View}
use Rattle.kernel_spec.proofs.calls.Words.{by_number}
use Rattle.kernel_spec.proofs.calls.Facts.{RowFacts, nothing, only_done}

pub is_uptime : (c : Call) (v : View) → c.number ≡ pos 14 → perform c v ≡ uptime c v
unfolding row row_of ◌>>=◌ ◌or◌
is_uptime c v is = by_number c v (pos 14) is

module _ (c : Call) (v : View) (its : row_of c.number ≡ Some Uptime) where
  pub uptime_facts : RowFacts c v nothing (uptime c v)
  uptime_facts = only_done c v its refl v.clock

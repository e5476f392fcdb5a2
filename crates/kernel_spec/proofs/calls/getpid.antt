-- getpid: which call it is, and what is claimed of its row.
use Rattle.kernel_spec.proofs.Prelude.{◌>>=◌, ◌or◌, ◌≡◌, Call, Getpid, getpid, perform, pos, refl, row, row_of, Some, View}
use Rattle.kernel_spec.proofs.calls.Words.{by_number}
use Rattle.kernel_spec.proofs.calls.Facts.{RowFacts, nothing, only_done}

pub is_getpid : (c : Call) (v : View) → c.number ≡ pos 11 → perform c v ≡ getpid c v
unfolding row row_of ◌>>=◌ ◌or◌
is_getpid c v is = by_number c v (pos 11) is

module _ (c : Call) (v : View) (its : row_of c.number ≡ Some Getpid) where
  pub getpid_facts : RowFacts c v nothing (getpid c v)
  getpid_facts = only_done c v its refl v.pid

-- kill: which call it is, and what is claimed of its row.
use Rattle.kernel_spec.proofs.Prelude.{◌==◌, ◌>>=◌, ◌or◌, ◌||◌, ◌≡◌, c_int, Call, Kill, kill, list_any, natural, not, nothing_stored, perform, pos, refl, row, row_of, Some, View}
use Rattle.kernel_spec.proofs.calls.Facts.{RowFacts, finished, no, nothing, same_image}
use Rattle.kernel_spec.proofs.calls.Words.{by_number, by_or, by_when}
use Rattle.kernel_spec.proofs.calls.Images.{allowed_none, nothing_empty}
use Rattle.kernel_spec.proofs.calls.Tables.{plain}

pub is_kill : (c : Call) (v : View) → c.number ≡ pos 6 → perform c v ≡ kill c v
unfolding row row_of ◌>>=◌ ◌or◌
is_kill c v is = by_number c v (pos 6) is

module _ (c : Call) (v : View) (its : row_of c.number ≡ Some Kill) where
  pub kill_facts : RowFacts c v nothing (kill c v)
  unfolding kill
  kill_facts = by_or (RowFacts c v nothing) (natural (c_int c.a0)) (no c v) (λ pid _. by_when (RowFacts c v nothing) (pid == 0) (no c v) (λ _.
      by_when (RowFacts c v nothing) (not (list_any (λ p. pid == p) v.pids)) (no c v) (λ _.
      finished c v nothing its refl 0 _ (record v { killed = v.killed || (pid == v.pid) }) refl refl refl refl
      (same_image c v) (allowed_none nothing_stored v.image nothing_empty) (λ q h. h) (λ _. plain v.descriptors))))

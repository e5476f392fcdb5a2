-- sleep: which call it is, and what is claimed of its row.
use Rattle.kernel_spec.proofs.Prelude.{◌>>=◌, ◌or◌, ◌≡◌, c_int, Call, has_passed, not, perform, pos, refl, row, row_of, Sleep, sleep, Some, ticks_since, View}
use Rattle.kernel_spec.proofs.calls.Facts.{RowFacts, nothing, only_done, waits_with}
use Rattle.kernel_spec.proofs.calls.Words.{by_number, by_when}
use Rattle.kernel_spec.proofs.calls.Tables.{plain}

pub is_sleep : (c : Call) (v : View) → c.number ≡ pos 13 → perform c v ≡ sleep c v
unfolding row row_of ◌>>=◌ ◌or◌
is_sleep c v is = by_number c v (pos 13) is

module _ (c : Call) (v : View) (its : row_of c.number ≡ Some Sleep) where
  pub sleep_facts : RowFacts c v nothing (sleep c v)
  unfolding sleep
  sleep_facts = by_when (RowFacts c v nothing) (not (has_passed (ticks_since v.clock c.clock) (c_int c.a0)))
      (waits_with c v its refl 0 v refl refl refl (λ _. plain v.descriptors)) (λ _. only_done c v its refl 0)

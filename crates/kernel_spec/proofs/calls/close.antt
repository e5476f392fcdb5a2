-- close: which call it is, and what is claimed of its row.
use Rattle.kernel_spec.proofs.Prelude.{◌+◌, ◌>>=◌, ◌or◌, ◌≡◌, c_int, Call, Close, close, natural, None, nothing_stored, one_less_on, perform, pipes_given_up, pos, refl, row, row_of, Some, View}
use Rattle.kernel_spec.proofs.Prelude.{with_value, without_descriptor}
use Rattle.kernel_spec.proofs.calls.Facts.{RowFacts, finished, no, nothing, same_image}
use Rattle.kernel_spec.proofs.calls.Words.{by_number, by_or}
use Rattle.kernel_spec.proofs.calls.Images.{allowed_none, nothing_empty}
use Rattle.kernel_spec.proofs.calls.Tables.{closed_named, less_same, same_closes, table_closed, value_closes}

pub is_close : (c : Call) (v : View) → c.number ≡ pos 21 → perform c v ≡ close c v
unfolding row row_of ◌>>=◌ ◌or◌
is_close c v is = by_number c v (pos 21) is

module _ (c : Call) (v : View) (its : row_of c.number ≡ Some Close) where
  pub close_facts : RowFacts c v nothing (close c v)
  unfolding close
  close_facts = by_or (RowFacts c v nothing) (natural (c_int c.a0)) (no c v) (λ fd _. by_or (RowFacts c v nothing) (v.descriptors fd) (no c v) (λ d _.
      let closed = one_less_on d.shown v.descriptors in
      finished c v nothing its refl 0 _ (record v { descriptors = without_descriptor fd closed; free = v.free + pipes_given_up closed }) refl refl refl refl
      (same_image c v) (allowed_none nothing_stored v.image nothing_empty) (λ q h. h)
      (λ low. table_closed v.descriptors (without_descriptor fd closed)
      (closed_named v.descriptors (with_value closed fd None) (value_closes v.descriptors closed fd (same_closes v.descriptors closed (less_same d.shown v.descriptors)))))))

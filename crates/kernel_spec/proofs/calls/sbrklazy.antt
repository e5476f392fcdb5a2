-- sbrklazy: which call it is, and what is claimed of its row.
use Rattle.kernel_spec.proofs.Prelude.{◌+◌, ◌>>=◌, ◌or◌, ◌≡◌, c_int, Call, grown_lazily, nat_lt, natural, nothing_stored, perform, pos, refl, row, row_of, Sbrklazy, sbrklazy, SIZE_LIMIT, Some, View}
use Rattle.kernel_spec.proofs.calls.Facts.{RowFacts, done_over, no, nothing}
use Rattle.kernel_spec.proofs.calls.Words.{by_number, by_or, by_when}
use Rattle.kernel_spec.proofs.calls.Images.{images_same, nothing_empty}

pub is_sbrklazy : (c : Call) (v : View) → c.number ≡ pos 22 → perform c v ≡ sbrklazy c v
unfolding row row_of ◌>>=◌ ◌or◌
is_sbrklazy c v is = by_number c v (pos 22) is

module _ (c : Call) (v : View) (its : row_of c.number ≡ Some Sbrklazy) where
  pub sbrklazy_facts : RowFacts c v nothing (sbrklazy c v)
  unfolding sbrklazy
  sbrklazy_facts = by_or (RowFacts c v nothing) (natural (c_int c.a0)) (no c v) (λ n _. by_when (RowFacts c v nothing) (nat_lt SIZE_LIMIT (v.image.size + n)) (no c v) (λ _.
      done_over c v its refl v.image.size (grown_lazily v.image (v.image.size + n)) v.free
      (images_same nothing_stored v.image (grown_lazily v.image (v.image.size + n)) nothing_empty (λ page. refl))))

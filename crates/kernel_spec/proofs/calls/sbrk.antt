-- sbrk: which call it is, and what is claimed of its row.
use Rattle.kernel_spec.proofs.Prelude.{ℕ, ◌+ℤ◌, ◌>>=◌, ◌or◌, ◌∙◌, ◌≡◌, Bool, c_int, Call, cond, false, grown, Image, nat_lt, natural, none-some, nothing_stored, perform, pos, refl, row, row_of, Sbrk}
use Rattle.kernel_spec.proofs.Prelude.{sbrk, shrunk, SIZE_LIMIT, Some, sym, true, View}
use Rattle.kernel_spec.proofs.calls.Facts.{RowFacts, done_over, no, nothing}
use Rattle.kernel_spec.proofs.calls.Words.{by_number, by_or, by_when}
use Rattle.kernel_spec.proofs.calls.Images.{Images, images_quiet, nothing_empty}
use Rattle.kernel_spec.proofs.rows.KeptBytes.{grown_same, shrunk_same}
use Rattle.kernel_spec.proofs.rows.CleanPages.{grown_zeros, shrunk_none}

pub is_sbrk : (c : Call) (v : View) → c.number ≡ pos 12 → perform c v ≡ sbrk c v
unfolding row row_of ◌>>=◌ ◌or◌
is_sbrk c v is = by_number c v (pos 12) is

-- what stays of the pages is as it was, and what comes is zeros
sized : (smaller : Bool) (i : Image) (size : ℕ) → Images nothing_stored i (cond smaller (shrunk i size) (grown i size))
sized true i size = images_quiet nothing_stored i (shrunk i size) nothing_empty (shrunk_same i size) (λ page x none is. absurd (none-some x (sym (shrunk_none i size page none) ∙ is)))
sized false i size = images_quiet nothing_stored i (grown i size) nothing_empty (grown_same i size) (grown_zeros i size)

module _ (c : Call) (v : View) (its : row_of c.number ≡ Some Sbrk) where
  pub sbrk_facts : RowFacts c v nothing (sbrk c v)
  unfolding sbrk
  sbrk_facts = by_or (RowFacts c v nothing) (natural (pos v.image.size +ℤ c_int c.a0)) (no c v) (λ size _.
      by_when (RowFacts c v nothing) (nat_lt SIZE_LIMIT size) (no c v) (λ _. by_when (RowFacts c v nothing) _ (no c v) (λ _.
      done_over c v its refl v.image.size _ _ (sized (nat_lt size v.image.size) v.image size))))

-- exit: which call it is, and what is claimed of its row.
use Rattle.kernel_spec.proofs.Prelude.{◌>>=◌, ◌or◌, ◌≡◌, c_int, Call, Exit, exit, Exited, inr, nothing_stored, perform, pos, refl, row, row_of, Some, View}
use Rattle.kernel_spec.proofs.calls.Words.{by_number}
use Rattle.kernel_spec.proofs.calls.Facts.{RowFacts, gone_facts, nothing}
use Rattle.kernel_spec.proofs.calls.Images.{nothing_empty}

pub is_exit : (c : Call) (v : View) → c.number ≡ pos 2 → perform c v ≡ exit c v
unfolding row row_of ◌>>=◌ ◌or◌
is_exit c v is = by_number c v (pos 2) is

module _ (c : Call) (v : View) (its : row_of c.number ≡ Some Exit) where
  pub exit_facts : RowFacts c v nothing (exit c v)
  exit_facts = record {
    step = gone_facts c nothing_stored v (Exited (c_int c.a0)) refl nothing_empty;
    comes = inr (inr (inr (record { next = refl; ends = refl; pids = refl })));
  }

-- write: which call it is, and what is claimed of its row.
use Rattle.kernel_spec.proofs.Prelude.{ℕ, ◌+◌, ◌-◌, ◌==◌, ◌>>=◌, ◌or◌, ◌≡◌, c_int, Call, change_pipe, done_at, fit, in_use, nat_le, next_bytes, Own, perform, pos, readable, refl, room_for, row}
use Rattle.kernel_spec.proofs.Prelude.{row_of, Some, table, View, with_more, with_sent, Write, write}
use Rattle.kernel_spec.proofs.calls.Facts.{RowFacts, done_with, no, nothing, only_done, waits_with}
use Rattle.kernel_spec.proofs.calls.Words.{by_number, by_cond, by_moving, by_or, by_shown, by_when}
use Rattle.kernel_spec.proofs.calls.Tables.{IsLow, Table, change_same, plain, table_same}

pub is_write : (c : Call) (v : View) → c.number ≡ pos 16 → perform c v ≡ write c v
unfolding row row_of ◌>>=◌ ◌or◌
is_write c v is = by_number c v (pos 16) is

module _ (c : Call) (v : View) (its : row_of c.number ≡ Some Write) where
  abbrev Ends : Own → Type 0
  Ends o = RowFacts c v nothing o

  moved_on : (n moved : ℕ) (u : View) → u.image ≡ v.image → u.pids ≡ v.pids → u.next_pid ≡ v.next_pid → (IsLow v.descriptors → Table v.descriptors u.descriptors) → Ends (done_at c n moved u)
  moved_on n moved u image pids number table = by_cond Ends (nat_le n moved) (done_with c v its refl n u image pids number table) (waits_with c v its refl moved u image pids number table)

  pub write_facts : Ends (write c v)
  unfolding write
  write_facts = by_or Ends (in_use v (c_int c.a0)) (no c v) (by_shown Ends (λ d. in_use v (c_int c.a0) ≡ Some d) _
      (λ file r w used. by_moving Ends w (c_int c.a2) (readable v.image c.a1) (no c v) (λ _. only_done c v its refl 0) (λ n _ _ _.
      let k = room_for v.console (n - c.moved) in
      moved_on n (c.moved + k) (record v { console = with_sent (next_bytes c v k) v.console }) refl refl refl (λ _. plain v.descriptors)))
      (λ file r w program offset used. by_moving Ends w (c_int c.a2) (readable v.image c.a1) (no c v) (λ _. only_done c v its refl 0) (λ n _ _ _. no c v))
      (λ file r w name end pipe used. by_moving Ends w (c_int c.a2) (readable v.image c.a1) (no c v) (λ _. only_done c v its refl 0) (λ n _ _ _.
      by_when Ends (pipe.readers == 0) (no c v) (λ _.
      let k = fit pipe (n - c.moved) in
      moved_on n (c.moved + k) (record v { descriptors = change_pipe name (with_more (next_bytes c v k) pipe) v.descriptors }) refl refl refl
      (λ _. table_same v.descriptors (change_pipe name (with_more (next_bytes c v k) pipe) v.descriptors) (change_same _ v.descriptors))))))

-- The table of the calls, walked over once: what is claimed of every row, and of every step.
use Rattle.kernel_spec.proofs.Prelude.{◌>>=◌, ◌or◌, ◌≡◌, Call, Close, Dup, Exec, Exit, Fork, Getpid, Kill, None, Open, Option, perform, Pipe_row, Read, refl, refused, Row, row, row_of, Sbrk, Sbrklazy}
use Rattle.kernel_spec.proofs.Prelude.{Sleep, Some, stored_by_row, Uptime, View, Wait, Write}
use Rattle.kernel_spec.proofs.calls.Facts.{RowFacts, no}
use Rattle.kernel_spec.proofs.calls.close.{close_facts}
use Rattle.kernel_spec.proofs.calls.dup.{dup_facts}
use Rattle.kernel_spec.proofs.calls.exec.{exec_facts}
use Rattle.kernel_spec.proofs.calls.exit.{exit_facts}
use Rattle.kernel_spec.proofs.calls.fork.{fork_facts}
use Rattle.kernel_spec.proofs.calls.getpid.{getpid_facts}
use Rattle.kernel_spec.proofs.calls.kill.{kill_facts}
use Rattle.kernel_spec.proofs.calls.open_file.{open_facts}
use Rattle.kernel_spec.proofs.calls.pipe.{pipe_facts}
use Rattle.kernel_spec.proofs.calls.read.{read_facts}
use Rattle.kernel_spec.proofs.calls.sbrk.{sbrk_facts}
use Rattle.kernel_spec.proofs.calls.sbrklazy.{sbrklazy_facts}
use Rattle.kernel_spec.proofs.calls.sleep.{sleep_facts}
use Rattle.kernel_spec.proofs.calls.uptime.{uptime_facts}
use Rattle.kernel_spec.proofs.calls.wait.{wait_facts}
use Rattle.kernel_spec.proofs.calls.write.{write_facts}

module _ (c : Call) (v : View) where
  by_row : (r : Row) → row_of c.number ≡ Some r → RowFacts c v (stored_by_row c v (Some r)) (row r c v)
  unfolding row
  by_row Fork is = fork_facts c v is
  by_row Exit is = exit_facts c v is
  by_row Wait is = wait_facts c v is
  by_row Pipe_row is = pipe_facts c v is
  by_row Read is = read_facts c v is
  by_row Kill is = kill_facts c v is
  by_row Exec is = exec_facts c v is
  by_row Dup is = dup_facts c v is
  by_row Getpid is = getpid_facts c v is
  by_row Sbrk is = sbrk_facts c v is
  by_row Sleep is = sleep_facts c v is
  by_row Uptime is = uptime_facts c v is
  by_row Open is = open_facts c v is
  by_row Write is = write_facts c v is
  by_row Close is = close_facts c v is
  by_row Sbrklazy is = sbrklazy_facts c v is

  by_number : (o : Option Row) → row_of c.number ≡ o → RowFacts c v (stored_by_row c v o) ((o or refused c v) >>= (λ r. row r c v))
  unfolding ◌>>=◌ ◌or◌
  by_number None is = no c v
  by_number (Some r) is = by_row r is

  pub perform_facts : RowFacts c v (stored_by_row c v (row_of c.number)) (perform c v)
  unfolding perform
  perform_facts = by_number (row_of c.number) refl

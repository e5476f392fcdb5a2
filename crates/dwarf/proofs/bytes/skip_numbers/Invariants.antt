use Rattle.dwarf.proofs.Prelude.{◌-◌, ◌≡◌, past_number, skipped, times}
use Rattle.dwarf.proofs.bytes.skip_numbers.Given as goal

abbrev pub invariant-loop : goal.invariant-loop
invariant-loop l = times (past_number l.bytes) (l.count - l.counter) l.next ≡ skipped l.count l.bytes l.at

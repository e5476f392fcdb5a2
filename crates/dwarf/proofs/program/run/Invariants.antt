use Rattle.dwarf.proofs.Prelude.{◌-◌, ◌≡◌, length, program, rows_from, with_front}
use Rattle.dwarf.proofs.program.run.Given as goal

abbrev pub invariant-loop : goal.invariant-loop
invariant-loop l = with_front l.rows.items (rows_from l.header l.bytes (length l.bytes - l.counter) l.at l.registers) ≡ program l.bytes l.header

use Rattle.std.proofs.Common.{◌≡◌, map, take}
use Rattle.xv_record.specs.Told.{program_told, told_program}
use Rattle.terminal_session.proofs.recording.sums_of.Given as goal

abbrev pub invariant-loop-program : goal.invariant-loop-program
invariant-loop-program l = map told_program l.sums.items ≡ map program_told (take l.program-index l.programs)

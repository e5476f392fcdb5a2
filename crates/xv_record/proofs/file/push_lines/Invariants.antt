use Rattle.std.proofs.Common.{◌≡◌, ◌++◌, flat_map, take}
use Rattle.std.specs.String.{string_bytes}
use Rattle.xv_record.specs.Told.{told_program, program_text}
use Rattle.xv_record.proofs.file.push_lines.Given as goal

abbrev pub invariant-loop-program : goal.invariant-loop-program
invariant-loop-program l = string_bytes l.text ≡ string_bytes l.fn.text ++ flat_map (λ p. program_text (told_program p)) (take l.program-index l.programs)

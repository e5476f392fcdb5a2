use Rattle.std.proofs.Common.{◌≡◌, ◌-◌}
use Rattle.xk_base.specs.ProgramFile.{segments_from}
use Rattle.elf_image.proofs.iter.first_segment.Given as goal

-- no header made a segment so far
abbrev pub invariant-loop-i : goal.invariant-loop-i
invariant-loop-i l =
    segments_from l.file l.header l.i (l.header.phnum - l.i) ≡ segments_from l.file l.header l.fn.from (l.header.phnum - l.fn.from)

use Rattle.std.proofs.Common.{◌≡◌, ◌≤◌, ◌+◌, ◌*◌, ◌^◌, ◌<◌, length, None}
use Rattle.xk_base.specs.Words.{least_below}
use Rattle.xk_base.specs.ProgramFile.{is_refused, size_before}
use Rattle.elf_image.proofs.segments.Given as goal

-- no header was refused so far, and the segments so far end at `size`
abbrev pub invariant-loop-i : goal.invariant-loop-i
invariant-loop-i l = record {
  none_refused : least_below (is_refused l.file l.header) l.i ≡ None;
  ends : l.size ≡ size_before l.file l.header l.i;
  in_memory : l.size ≤ 2 ^ 38;
  in_file : 0 < l.i → l.header.phoff + 56 * l.i ≤ length l.file;
}

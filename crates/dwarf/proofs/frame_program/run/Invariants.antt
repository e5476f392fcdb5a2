use Rattle.dwarf.proofs.Prelude.{◌-◌, ◌≡◌, in_front, length}
use Rattle.dwarf.specs.Frames.{frames, frames_from}
use Rattle.dwarf.proofs.frame_program.run.Given as goal

abbrev pub invariant-loop : goal.invariant-loop
invariant-loop l = in_front l.rows.items (frames_from l.common l.bytes l.rules (length l.bytes - l.counter) l.at l.state l.kept.items)
    ≡ frames l.common l.bytes l.rules l.from l.fn.first

-- What stands where a run went back to.
use Rattle.std.specs.Prelude.{◌≡◌, ℕ, ◌<◌, ◌⊎◌, true, length}
use Rattle.gdb_packets.specs.declared.answers.StopReason.{StopReason}
use Rattle.gdb_packets.specs.declared.answers.StopReason.TheVariants.{Trap, Watch, ReadWatch, AccessWatch, Interrupt, Illegal, Segmentation, Misaligned, Begin, End}
use Rattle.gdb_target.specs.LastHit.{let_run_of}
use Rattle.gdb_target.specs.LetRun.{lets}
use Rattle.gdb_target.specs.Standing.{Starts, StandsAt}
use Rattle.gdb_target.specs.declared.played.Played.{Played}
use Rattle.gdb_target.specs.declared.reverse.Back.{Back}
use Rattle.gdb_target.specs.declared.reverse.Back.TheVariants.{StepOf, Point}
use Rattle.gdb_target.specs.declared.target.Target.{Target}

-- The run stands at an earlier place, or at its first
abbrev pub IsBefore : Played → Played → Type 0
IsBefore old new = (length new.session.events < length old.session.events) ⊎ (length new.session.events ≡ 0)

-- where a step back ends, its process is about to do an instruction; where a way back ends at a breakpoint, a process of the program that is let run stands there
abbrev pub trapped : Target → Back → ℕ → Type 0
trapped t (StepOf q) p = (p ≡ q) × Starts t.run q
trapped t (Point let_run) p = StandsAt t.run t.program t.points.breakpoints.items p × (lets let_run p ≡ true)

-- What is told of the stop of a process stands there; a way back ends for no other reason than a trap, a use of watched bytes, or its begin
abbrev pub StandsFor : Target → Back → StopReason → ℕ → Type 0
StandsFor t back Trap p = trapped t back p
StandsFor t back (Watch address) p = lets (let_run_of back) p ≡ true
StandsFor t back (ReadWatch address) p = lets (let_run_of back) p ≡ true
StandsFor t back (AccessWatch address) p = lets (let_run_of back) p ≡ true
StandsFor t back Interrupt p = ⊥
StandsFor t back Illegal p = ⊥
StandsFor t back Segmentation p = ⊥
StandsFor t back Misaligned p = ⊥
StandsFor t back Begin p = Unit {0}
StandsFor t back End p = ⊥

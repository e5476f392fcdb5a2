-- Worked cases: before which end GDB begins.
use Rattle.std.proofs.Common.{◌∙◌, false, true, is_some, sym, ap}
use Rattle.std.specs.Prelude.{IsSome}
use Rattle.std.proofs.lemmas.Bool.{false≢true}
use Rattle.gdb_target.specs.SameRun.{IsBeforeEnd, ended_with}
use Rattle.gdb_target.specs.declared.played.Played.{Played}

-- a run in which process 1 has ended isn't before its end
ended-is-not-before : (run : Played) → IsSome (ended_with run) → IsBeforeEnd run → ⊥
ended-is-not-before run ended before = false≢true (sym (ap is_some before.goes_on) ∙ ended)

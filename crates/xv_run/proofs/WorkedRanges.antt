-- Worked cases of what a command line may ask for.
use Rattle.std.proofs.Common.{◌≡◌, ◌<◌, ◌≤◌, arith}
use Rattle.std.specs.Prelude.{vec_len}
use Rattle.xv_run.specs.declared.line.Settings.{Settings}
use Rattle.xv_run.specs.Ranges.{AreInRange}

module _ (s : Settings) where
  -- the least and the greatest numbers
  least : s.frames ≡ 16 → s.rounds ≡ 0 → s.quantum ≡ 1 → s.trace ≡ 0 → vec_len s.files ≡ 1 → AreInRange s
  least frames rounds quantum trace files = record {
    frames = (omega (arith, frames), omega (arith, frames));
    rounds = omega (arith, rounds);
    quantum = (omega (arith, quantum), omega (arith, quantum));
    trace = omega (arith, trace);
    files = omega (arith, files);
  }

  greatest : s.frames ≡ 32768 → s.rounds ≡ 1000000000 → s.quantum ≡ 1000000 → s.trace ≡ 65536 → vec_len s.files ≡ 9 → AreInRange s
  greatest frames rounds quantum trace files = record {
    frames = (omega (arith, frames), omega (arith, frames));
    rounds = omega (arith, rounds);
    quantum = (omega (arith, quantum), omega (arith, quantum));
    trace = omega (arith, trace);
    files = omega (arith, files);
  }

  -- one less, one more, or no FILE
  too_few_frames : s.frames ≡ 15 → AreInRange s → ⊥
  too_few_frames is in_range = omega (arith, is, in_range.frames.0)

  too_many_frames : s.frames ≡ 32769 → AreInRange s → ⊥
  too_many_frames is in_range = omega (arith, is, in_range.frames.1)

  too_many_rounds : s.rounds ≡ 1000000001 → AreInRange s → ⊥
  too_many_rounds is in_range = omega (arith, is, in_range.rounds)

  no_quantum : s.quantum ≡ 0 → AreInRange s → ⊥
  no_quantum is in_range = omega (arith, is, in_range.quantum.0)

  too_long_a_quantum : s.quantum ≡ 1000001 → AreInRange s → ⊥
  too_long_a_quantum is in_range = omega (arith, is, in_range.quantum.1)

  too_long_a_trace : s.trace ≡ 65537 → AreInRange s → ⊥
  too_long_a_trace is in_range = omega (arith, is, in_range.trace)

  no_file : vec_len s.files ≡ 0 → AreInRange s → ⊥
  no_file is in_range = omega (arith, is, in_range.files)

-- Events that are sent one after another, and those of spans.
use Rattle.std.proofs.Common.{ℕ, List, ◌++◌, replicate, Option, ap₂, ◌∙◌}
use Rattle.kernel_spec.specs.views.State.{ProgramFile}
use Rattle.kernel_spec.specs.runs.Run.{Event, Run, Outcome}
use Rattle.xv_machine.specs.Meaning.{Meaning}
use Rattle.xv_machine.specs.Sound.{IsSoundMachine}
use Rattle.xv_machine.proofs.Joins.{events-join}
use Rattle.xv_machine.proofs.Reached.{reaches_on, reached_is_sound}
use Rattle.xv_session.specs.Names.{first_names}
use Rattle.xv_session.specs.Recorded.{IsPlayed, IsLed, GoesBy}
use Rattle.xv_session.specs.Steps.{RunsMade}
use Rattle.xv_session.specs.declared.running.Running.{Running}
use Rattle.xv_session.proofs.NamesGo.{names-join}

-- ---- a machine that goes on

-- what a machine is led to, without the names
pub led-played : (frames trace : ℕ) (programs : List ProgramFile) (xs : List Event) (r : Running) → IsLed frames trace programs xs r → IsPlayed frames trace programs xs r.machine
led-played frames trace programs xs r (list, those, reached, named) = (list, those, reached)

pub led-on : (frames trace : ℕ) (programs : List ProgramFile) (xs ys : List Event) (r s : Running) → IsLed frames trace programs xs r → GoesBy ys r s → IsLed frames trace programs (xs ++ ys) s
led-on frames trace programs xs ys r s (list, those, reached, (booted, is, named)) more = (
  list ++ more.list,
  events-join list more.list ∙ ap₂ (λ u v. u ++ v) those more.those,
  reaches_on frames trace programs list more.list r.machine s.machine reached more.goes,
  (booted, is, names-join list more.list booted r.machine.world s.machine.world (first_names programs) r.names s.names named more.named),
)

pub played-sound : (frames trace : ℕ) (programs : List ProgramFile) (xs : List Event) (m : Meaning) → IsPlayed frames trace programs xs m → IsSoundMachine m
played-sound frames trace programs xs m (list, those, reached) = (reached_is_sound frames trace programs list m reached).0

pub led-sound : (frames trace : ℕ) (programs : List ProgramFile) (xs : List Event) (r : Running) → IsLed frames trace programs xs r → IsSoundMachine r.machine
led-sound frames trace programs xs r led = played-sound frames trace programs xs r.machine (led-played frames trace programs xs r led)

-- Runs that a machine was sent at once
pub goes-by-runs : (most sent : ℕ) (last : Option Outcome) (a b : Running) → RunsMade most sent last a b → GoesBy (replicate sent Run) a b
goes-by-runs most sent last a b made = record { list = made.list; goes = made.goes; named = made.named; those = made.those }

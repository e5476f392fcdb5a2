-- What is known of kills and of refused growths, by what a session has done since its boot: stretch after stretch of Runs, and other events between them.
use Rattle.std.specs.Prelude.{◌≡◌, ◌≢◌, ◌⊎◌, ℕ, zero, suc, ◌-◌, ◌^◌, ℤ, List, [], Option, None, Some}
use Rattle.rv64i_core.specs.Registers.{Registers, add}
use Rattle.kernel_spec.specs.runs.Run.{Event, Run, Outcome, Step_of}
use Rattle.kernel_spec.specs.steps.Own.{Answer, Stepped, Called, Blocked, Exited, Faulted}
use Rattle.kcall_core.specs.Observers.{registers_of}
use Rattle.xv_session.specs.Answers.{RunsSent, Sent}
use Rattle.xv_session.specs.Names.{place_in}
use Rattle.xv_session.specs.Recorded.{Recorded}
use Rattle.xv_session.specs.declared.names.Named.{Named}
use Rattle.reported_run.specs.Ends.{kills_after, refused_after, other_kills, other_calls}
use Rattle.reported_run.specs.declared.ends.CallMade.{CallMade}
use Rattle.reported_run.specs.declared.ends.Ends.{Ends}
use Rattle.reported_run.specs.declared.ends.Kill.{Kill}

-- the kills of processes that are still there, and the last growth that each process was refused
pub record Known : Type 0 where
  pub kills : List Kill
  pub refused : List CallMade

abbrev pub nothing_known : Known
nothing_known = record { kills = []; refused = [] }

abbrev pub known_of : Ends → Known
known_of ends = record { kills = ends.kills.items; refused = ends.refused.items }

-- ---- what is learned of one step

-- a call that process p has made by the ECALL in the four bytes before its pc; it ran the program of this place
abbrev pub call_by : (p : ℕ) → (place : Option ℕ) → (number : ℤ) → Registers → CallMade
call_by p place number regs = record { pid = p; program = place; number = number; at = add regs.pc (2 ^ 64 - 4) }

abbrev pub with_call : (after : Recorded) → (p : ℕ) → (place : Option ℕ) → (number value : ℤ) → Option Registers → Known → Known
with_call after p place number value None known = known
with_call after p place number value (Some regs) known = record {
  kills = kills_after after (call_by p place number regs) value known.kills;
  refused = refused_after (call_by p place number regs) value known.refused;
}

-- what is known of other processes than p
abbrev pub forgotten : (p : ℕ) → Known → Known
forgotten p known = record { kills = other_kills p known.kills; refused = other_calls p known.refused }

-- A call that is done may be told later. Of a process that is gone nothing will be told any more
abbrev pub learned_of : (after : Recorded) → (p : ℕ) → (place : Option ℕ) → Answer → Known → Known
learned_of after p place Stepped known = known
learned_of after p place (Called number value) known = with_call after p place number value (registers_of after.machine.world.state p) known
learned_of after p place (Blocked number) known = known
learned_of after p place (Exited status) known = forgotten p known
learned_of after p place (Faulted cause) known = forgotten p known

abbrev pub learned_by : (after : Recorded) → (place : Option ℕ) → Outcome → Known → Known
learned_by after place (Step_of p answer) known = learned_of after p place answer known
learned_by after place _ known = known

-- what is known once Runs led to this session, of the last of which this came, if it is no done instruction; before them a process ran with the program of this place
abbrev pub learned : (after : Recorded) → (place : Option ℕ) → Option Outcome → Known → Known
learned after place None known = known
learned after place (Some o) known = learned_by after place o known

-- ---- since the boot

-- the program of a process, if there is one
abbrev pub place_of : Option ℕ → List Named → Option ℕ
place_of None names = None
place_of (Some p) names = place_in p names

-- that of the process that runs
abbrev pub runner_place : Recorded → Option ℕ
runner_place s = place_of s.machine.world.turns.current s.names

-- Runs were sent, and what came of the last is learned
abbrev pub LearnsByRuns : (old new : Recorded) → (before after : Known) → Type 0
LearnsByRuns old new before after =
    (most : ℕ) × (sent : ℕ) × (last : Option Outcome) × RunsSent most sent last old new × (after ≡ learned new (runner_place old) last before)

-- Another event was sent, of which nothing is learned
abbrev pub LearnsByEvent : (old new : Recorded) → (before after : Known) → Type 0
LearnsByEvent old new before after = (e : Event) × (o : Outcome) × (e ≢ Run) × Sent old e o new × (after ≡ before)

pub record Learns (old new : Recorded) (before after : Known) : Type 0 where
  pub way : LearnsByRuns old new before after ⊎ LearnsByEvent old new before after

-- by so many such ways, one after another, from a session on of which nothing is known
abbrev pub AreLearned : ℕ → (booted new : Recorded) → Known → Type 0
AreLearned zero booted new known = (new ≡ booted) × (known ≡ nothing_known)
AreLearned (suc n) booted new known = (mid : Recorded) × (before : Known) × AreLearned n booted mid before × Learns mid new before known

-- Just this is known of a session, by all that it has done since its boot
pub record IsKnown (s : Recorded) (known : Known) : Type 0 where
  pub booted : Recorded
  pub fresh : booted.events ≡ []
  pub ways : ℕ
  pub are_learned : AreLearned ways booted s known

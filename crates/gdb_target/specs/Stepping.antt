-- Steps that GDB makes by breakpoints, of a process of another program than the one that it knows.
use Rattle.std.specs.Prelude.{ℕ, Bool, false, not, ◌==◌, ◌&&◌, ◌||◌, if◌then◌else◌, List, Option, None, Some}
use Rattle.std.specs.List.{list_any}
use Rattle.xv_report.specs.Jumps.{jump_of}
use Rattle.xv_session.specs.Looking.{next_step_of}
use Rattle.xv_session.specs.Names.{place_in}
use Rattle.xv_session.specs.declared.looking.NextStep.{NextStep}
use Rattle.gdb_target.specs.Gone.{address_after}
use Rattle.gdb_target.specs.LetRun.{teller}
use Rattle.gdb_target.specs.Standing.{is_place}
use Rattle.gdb_target.specs.Told.{state_of}
use Rattle.gdb_target.specs.declared.target.Target.{Target}
use Rattle.gdb_target.specs.declared.target.Until.{Until}
use Rattle.gdb_target.specs.declared.target.Until.TheVariants.{Point, StepOf, AnyStep}
use Rattle.gdb_target.specs.declared.target.Way.{Way}

-- the address is one of these, if it is one
abbrev pub is_one : List ℕ → Option ℕ → Bool
is_one addresses None = false
is_one addresses (Some address) = list_any (λ a. a == address) addresses

-- the instruction of the step may lead to one of these addresses: it stands before it, or jumps there
abbrev pub leads_to_one : List ℕ → NextStep → Bool
leads_to_one addresses step = list_any (λ a. a == address_after step.regs.pc) addresses || is_one addresses (jump_of step.regs step.word)

abbrev pub step_leads : List ℕ → Option NextStep → Bool
step_leads addresses None = false
step_leads addresses (Some step) = leads_to_one addresses step

-- a breakpoint stands where the next instruction of process p may lead
abbrev pub may_lead : Target → (p : ℕ) → Bool
may_lead t p = step_leads t.points.breakpoints.items (next_step_of (state_of t) p)

-- GDB may step process p by breakpoints: one stands where its next instruction may lead, and p runs another program than the one that GDB knows, so that no breakpoint stops it
abbrev pub is_stepped : Target → (p : ℕ) → Bool
is_stepped t p = not (is_place t.program (place_in p t.run.session.names)) && may_lead t p

abbrev pub point_or_step : Target → (p : ℕ) → Until
point_or_step t p = if is_stepped t p then StepOf p else Point

abbrev pub until_by : Target → (p : ℕ) → Until → Until
until_by t p Point = point_or_step t p
until_by t p (StepOf q) = StepOf q
until_by t p AnyStep = AnyStep

-- a way up to a point ends by a step of the process that is let run alone, or else of the one that is looked at, if GDB may step that so
abbrev pub as_stepped : Target → Way → Way
as_stepped t way = record { until = until_by t (teller way.let_run t.looked_at) way.until; let_run = way.let_run }

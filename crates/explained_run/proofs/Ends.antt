-- How a run ends that is told.
use Rattle.std.proofs.Common.{◌≡◌, ◌∙◌, ℕ, Bool, true, List, [], ◌++◌, Option, None, Some, Result, Ok, Err, OnOk, IfOk, IfErr, ap, subst, sym, length, take, drop, append-nil, take-append-drop}
use Rattle.std.proofs.Math.Seq.{take-append_seam}
use Rattle.std.specs.Prelude.{OnErr}
use Rattle.std.specs.Io.{StartsWith}
use Rattle.std.specs.Io.KnownBytes.{append_known}
use Rattle.program_files.specs.Statuses.{Devices, status_of}
use Rattle.run_work.specs.Runs.{EndsSo, Says}
use Rattle.run_work.proofs.Ended.{ended-driven, ended-over}
use Rattle.xv_machine.specs.declared.driving.DriveEnd.{DriveEnd}
use Rattle.xv_machine.specs.declared.driving.DriveError.{DriveError}
use Rattle.xv_machine.specs.declared.driving.RunPlan.{RunPlan}
use Rattle.xv_machine.specs.declared.machine.Config.{Config}
use Rattle.xv_machine.specs.Devices.{OneFailed}
use Rattle.xv_machine.specs.Drives.{Done, IsEndOf, OnRead, OnWrite, StoppedByPlayer, StoppedByRead, StoppedByWrite}
use Rattle.xv_machine.specs.Meaning.{Meaning}
use Rattle.xv_machine.specs.declared.devices.DeviceFault.{DeviceFault}
use Rattle.xv_machine.specs.Stretches.{BrokeOff, Played, PlayedFirst}
use Rattle.kernel_spec.specs.runs.First.{first}
use Rattle.kernel_spec.specs.runs.Run.{Event}
use Rattle.kernel_spec.specs.views.State.{ProgramFile}
use Rattle.recorded_runs.specs.Replays as replays
use Rattle.recorded_runs.specs.Replays.{SaysReplay, Screen, TellsReplay}
use Rattle.recorded_runs.specs.declared.ending.RecordEnd.{RecordEnd}
use Rattle.recorded_runs.proofs.Ends.{tells-end, tells-stopped}
use Rattle.explained_run.specs.Handed.{Holds}
use Rattle.explained_run.specs.Handing.{SaysReplayTold, SaysTold}
use Rattle.explained_run.specs.declared.choice.Choice.{Choice}

-- the exit status, by how the rounds ended
pub ends-so : {S : Type 0} (played : Result (Result DriveEnd DriveError) S) (status : ℕ) (plan : RunPlan) (old new : Meaning) (before after : Devices)
    → IfOk played (λ end. status ≡ status_of end) → OnErr played (status ≡ 6)
    → IfOk played (λ end. OnOk end (Done plan before.source after.source old new before.sink after.sink))
    → IfOk played (λ end. IfOk end (λ e. IsEndOf e new))
    → IfOk played (λ end. IfErr end (λ e. OnRead e (StoppedByRead plan before.source after.source old new before.sink after.sink)))
    → IfOk played (λ end. IfErr end (λ e. OnRead e (OneFailed before.failed_reads after.failed_reads before.failed_writes after.failed_writes)))
    → IfOk played (λ end. IfErr end (λ e. OnWrite e (StoppedByWrite plan before.source after.source old new before.sink after.sink)))
    → IfOk played (λ end. IfErr end (λ e. OnWrite e (OneFailed before.failed_writes after.failed_writes before.failed_reads after.failed_reads)))
    → IfErr played (λ _. StoppedByPlayer plan before.source after.source old new before.sink after.sink)
    → IfErr played (λ _. (after.failed_reads ≡ before.failed_reads) × (after.failed_writes ≡ before.failed_writes))
    → EndsSo status plan old new before after
ends-so (Ok end) status plan old new before after is over done ended unread read unwritten write stopped failures =
    rw is (ended-driven plan old new before after end done ended unread read unwritten write)
ends-so (Err stop) status plan old new before after is over done ended unread read unwritten write stopped failures =
    rw over (ended-over plan old new before after (record { stopped = stopped; reads = failures.0; writes = failures.1 }))

-- and by how a record ended
pub tells-so : {S : Type 0} (played : Result (Result RecordEnd DeviceFault) S) (status : ℕ) (events : List Event) (old new : Meaning) (before after : Screen)
    → IfOk played (λ end. status ≡ replays.status_of end) → OnErr played (status ≡ 6)
    → IfOk played (λ end. OnOk end (Played events old new before.sink after.sink))
    → IfOk played (λ end. IfOk end (λ e. replays.IsEndOf e new))
    → IfOk played (λ end. OnErr end (BrokeOff events old new before.sink after.sink))
    → IfOk played (λ end. replays.CountsFailure end before.failed_writes after.failed_writes)
    → IfErr played (λ _. PlayedFirst events old new before.sink after.sink)
    → IfErr played (λ _. after.failed_writes ≡ before.failed_writes)
    → TellsReplay status events old new before after
tells-so (Ok end) status events old new before after is over done ended broke failures first none =
    rw is (tells-end events old new before after end done ended broke failures)
tells-so (Err stop) status events old new before after is over done ended broke failures first none =
    rw over (tells-stopped events old new before after first none)

-- what is said of a run that is told is said of it
pub run-said : (choice : Choice) (status : ℕ) (config : Config) (plan : RunPlan) (programs : List ProgramFile) (before after : Devices) (handed : Option (List ℕ))
    → SaysTold choice status config plan programs before after handed → Says status config plan programs before after
run-said choice status config plan programs before after handed says = λ other. let (booted, ended, boots, (ends, told)) = says other in (booted, ended, boots, ends)

pub replay-said : (choice : Choice) (status frames trace : ℕ) (programs : List ProgramFile) (events : List Event) (before after : Screen) (handed : Option (List ℕ))
    → SaysReplayTold choice status frames trace programs events before after handed → SaysReplay status frames trace programs events before after
replay-said choice status frames trace programs events before after handed says = λ other. let (booted, ended, boots, (ends, told)) = says other in (booted, ended, boots, ends)

-- ---- a text that grows

pub starts-more : (old new more : List ℕ) → new ≡ old ++ more → StartsWith new old
starts-more old new more is = ap (take (length old)) is ∙ take-append_seam old more

pub starts-self : (text : List ℕ) → StartsWith text text
starts-self text = starts-more text text [] (sym (append-nil text))

-- what it had, and the rest
pub starts-rest : (old new : List ℕ) → StartsWith new old → old ++ drop (length old) new ≡ new
starts-rest old new starts = ap (λ (front : List ℕ). front ++ drop (length old) new) (sym starts) ∙ take-append-drop (length old) new

-- ---- lines that are handed on

-- more lines after those that were handed on before
pub holds-more : (handed after : Option (List ℕ)) (text more : List ℕ) → Holds handed text → after ≡ append_known handed more → Holds after (text ++ more)
holds-more None None text more held is = tt
holds-more None (Some xs) text more held is = cc
holds-more (Some held) (Some xs) text more is e = let same : xs ≡ held ++ more = cc in same ∙ ap (λ (t : List ℕ). t ++ more) is
holds-more (Some held) None text more is e = cc

-- the same text, after an event of which nothing is told
pub handed-same : (known : Option (List ℕ)) (was is : Bool) (old new : List ℕ) → is ≡ was → new ≡ old → (was ≡ true → Holds known old) → is ≡ true → Holds known new
handed-same known was is old new same text held now = subst (λ (t : List ℕ). Holds known t) (sym text) (held (sym same ∙ now))

-- and after Runs, whose lines were handed on
pub handed-more : (known after : Option (List ℕ)) (was is : Bool) (old new : List ℕ) → (is ≡ true → (was ≡ true) × StartsWith new old)
    → after ≡ append_known known (drop (length old) new) → (was ≡ true → Holds known old) → is ≡ true → Holds after new
handed-more known after was is old new grows handed held now =
    let g = grows now in
    subst (λ (t : List ℕ). Holds after t) (starts-rest old new g.1) (holds-more known after old (drop (length old) new) (held g.0) handed)

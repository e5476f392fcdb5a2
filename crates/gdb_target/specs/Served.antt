-- What is done and sent for a packet that moves the machine.
use Rattle.std.specs.Prelude.{◌≡◌, ◌⊎◌, ℕ, ℤ, zero, suc, Bool, true, false, ◌≤◌, ◌==◌, if◌then◌else◌, List, [], ◌∷◌, ◌++◌, length, flat_map, codes, decimal, slice_index, Option, None, Some}
use Rattle.std.specs.List.{concat}
use Rattle.std.specs.Int.{w32, to_le_bytes, cast_unsigned}
use Rattle.std.specs.Io.KnownBytes.{Appends}
use Rattle.hex.specs.Hex.{encode_lower}
use Rattle.gdb_packets.specs.Answers.{exited, refusal}
use Rattle.gdb_packets.specs.Commands.{asked}
use Rattle.gdb_packets.specs.Packets.{packet}
use Rattle.gdb_packets.specs.declared.answers.StopReason.{StopReason}
use Rattle.gdb_packets.specs.declared.answers.StopReason.TheVariants.{Interrupt, Trap}
use Rattle.gdb_packets.specs.declared.command.Command.{Command}
use Rattle.gdb_packets.specs.declared.command.Command.TheVariants as on
use Rattle.gdb_packets.specs.declared.command.Thread.TheVariants.{Any}
use Rattle.gdb_packets.specs.declared.reader.Piece.{Piece}
use Rattle.gdb_packets.specs.declared.reader.Piece.TheVariants as pieces
use Rattle.gdb_packets.specs.declared.reader.Piece.TheVariants.{Ack, Nak, Packet, Damaged}
use Rattle.gdb_target.specs.Choices.{StopsAt, choices}
use Rattle.gdb_target.specs.Chosen.{IsStepped, IsWay, chosen_to_run}
use Rattle.gdb_target.specs.Found.{StandsFor}
use Rattle.gdb_target.specs.Forth.{GoesBy, end_of}
use Rattle.gdb_target.specs.Gone.{IsStepOver, gone_told}
use Rattle.gdb_target.specs.LastHit.{GoesBackToLast}
use Rattle.gdb_target.specs.LetRun.{lets}
use Rattle.gdb_target.specs.SameRun.{beginning}
use Rattle.gdb_target.specs.Sent.{IsAnswered, Sends, acknowledgement, stop_told}
use Rattle.gdb_target.specs.declared.let_run.LetRun.{LetRun}
use Rattle.gdb_target.specs.declared.reverse.Back.{Back}
use Rattle.gdb_target.specs.declared.reverse.Back.TheVariants.{StepOf, Point}
use Rattle.gdb_target.specs.declared.target.Pause.{Pause}
use Rattle.gdb_target.specs.declared.target.Pause.TheVariants.{Shows, Stopped, Gone, Ended}
use Rattle.gdb_target.specs.declared.target.Stopped as stops
use Rattle.gdb_target.specs.declared.target.Target.{Target}
use Rattle.gdb_target.specs.declared.target.Way.{Way}

-- ---- back

-- The run went back to what was looked for; that stop is the last one from now on, and is sent
pub record IsReversed (back : Back) (old new : Target) (before after : Option (List ℕ)) : Type 0 where
  pub to : Target
  pub reason : StopReason
  pub pid : ℕ
  pub last : GoesBackToLast back old to (record { reason = reason; pid = pid })
  pub stands : StandsFor to back reason pid
  pub stops : StopsAt to reason pid new
  pub sent : Sends before after (stop_told new)

-- a process that doesn't live is refused, and nothing changes
abbrev pub IsRefused : (old new : Target) (before after : Option (List ℕ)) → Type 0
IsRefused old new before after = (new ≡ old) × Sends before after (refusal 3)

abbrev pub ReversesStep : Option ℕ → (old new : Target) (before after : Option (List ℕ)) → Type 0
ReversesStep None old new before after = IsRefused old new before after
ReversesStep (Some p) old new before after = IsReversed (StepOf p) old new before after

-- the step back is of the process that was chosen for steps
abbrev pub IsStepBack : (old new : Target) (before after : Option (List ℕ)) → Type 0
IsStepBack old new before after = (p : Option ℕ) × IsStepped old Any p × ReversesStep p old new before after

abbrev pub ReversesPoint : Option LetRun → (old new : Target) (before after : Option (List ℕ)) → Type 0
ReversesPoint None old new before after = IsRefused old new before after
ReversesPoint (Some let_run) old new before after = IsReversed (Point let_run) old new before after

-- the way back to a point is of whom GDB let run by its last choice
abbrev pub IsContinuedBack : (old new : Target) (before after : Option (List ℕ)) → Type 0
IsContinuedBack old new before after = (let_run : Option LetRun) × (let_run ≡ chosen_to_run old) × ReversesPoint let_run old new before after

-- ---- anew

-- The run is at its boot again, before its first event; that stop is the last one from now on, and is sent
pub record IsRestarted (old new : Target) (before after : Option (List ℕ)) : Type 0 where
  pub to : Target
  pub boot : length to.run.session.events ≡ 0
  pub same : beginning to.run ≡ beginning old.run
  pub chosen : choices to ≡ choices old
  pub stops : StopsAt to Trap 1 new
  pub sent : Sends before after (stop_told new)

-- ---- what the console shows

-- the packet that tells it, if there is any
abbrev pub shown_told : List ℕ → List ℕ
shown_told bytes = if length bytes == 0 then [] else packet (79 ∷ encode_lower bytes)

-- nothing but what the console shows was sent
pub record ShowsAlone (before after : Option (List ℕ)) : Type 0 where
  pub texts : List (List ℕ)
  pub sent : Appends before after (flat_map shown_told texts)

-- the bytes are told, and no more
abbrev pub ButTold : (old new : Target) → Type 0
ButTold old new = new ≡ record old { shown = new.shown }

-- ---- forth

-- The machine goes on often, each time up to where the console shows bytes, which are told
abbrev pub GoesOften : Way → (often : ℕ) → (old new : Target) → Type 0
GoesOften way zero old new = new ≡ old
GoesOften way (suc n) old new = (mid : Target) × (to : Target) × GoesOften way n old mid × GoesBy way mid (Some Shows) to × ButTold to new

-- It stops by itself only at the place after which the command sends no event
abbrev pub IsSpent : Option Pause → (end : ℕ) → Target → Type 0
IsSpent None end t = end ≤ length t.run.session.events
IsSpent (Some Shows) end t = ⊥
IsSpent (Some (Stopped s)) end t = Unit {0}
IsSpent (Some Gone) end t = Unit {0}
IsSpent (Some (Ended status)) end t = Unit {0}

-- The machine goes on up to this pause, or until the command has sent as many events as it may. What the console shows meanwhile is sent, and nothing else
pub record Resumes (way : Way) (old : Target) (pause : Option Pause) (new : Target) (before after : Option (List ℕ)) : Type 0 where
  pub often : ℕ
  pub last : Target
  pub shown : GoesOften way often old last
  pub goes : GoesBy way last pause new
  pub spent : IsSpent pause (end_of old) new
  pub alone : ShowsAlone before after

-- the low byte of a status
abbrev pub low_byte : ℤ → ℕ
low_byte status = slice_index (to_le_bytes w32 (cast_unsigned w32 status)) 0

-- the note that so many events are over
abbrev pub over_note : (most : ℕ) → List ℕ
over_note most = concat (codes "xv_gdb: " ∷ decimal most ∷ codes " events are over; it can go on\n" ∷ [])

-- As many events were sent as may be: a note says so, and an interrupt is told of whom GDB let run
pub record IsOver (let_run : LetRun) (old new : Target) (before after : Option (List ℕ)) : Type 0 where
  pub pid : ℕ
  pub of : lets let_run pid ≡ true
  pub stops : StopsAt old Interrupt pid new
  pub sent : Appends before after (packet (79 ∷ encode_lower (over_note old.most)) ++ packet (stop_told new))

-- Nobody is let run any more. That is told, or that the step which was waited for came to a breakpoint; the last stop is from now on of a process that lives, if any does
pub record IsGoneTold (let_run : LetRun) (old new : Target) (before after : Option (List ℕ)) : Type 0 where
  pub address : Option ℕ
  pub over : IsStepOver let_run old address
  pub pid : ℕ
  pub stops : StopsAt old Trap pid new
  pub sent : Sends before after (gone_told let_run address)

-- What is sent of a pause: the status of process 1; that the process is gone that was let run alone; or the stop, which is the last one from now on
abbrev pub IsPauseTold : LetRun → Option Pause → (old new : Target) (before after : Option (List ℕ)) → Type 0
IsPauseTold let_run (Some (Ended status)) old new before after = (new ≡ old) × Sends before after (exited (low_byte status))
IsPauseTold let_run (Some Gone) old new before after = IsGoneTold let_run old new before after
IsPauseTold let_run (Some (Stopped s)) old new before after = StopsAt old s.reason s.pid new × Sends before after (stop_told new)
IsPauseTold let_run (Some Shows) old new before after = IsOver let_run old new before after
IsPauseTold let_run None old new before after = IsOver let_run old new before after

-- An interrupt came before the command: it stops at once, and whom GDB lets run is told of it
pub record IsInterrupted (let_run : LetRun) (old : Target) (pause : Option Pause) (new : Target) (before after : Option (List ℕ)) : Type 0 where
  pub came : old.interrupted ≡ true
  pub stopped : stops.Stopped
  pub reason : stopped.reason ≡ Interrupt
  pub of : lets let_run stopped.pid ≡ true
  pub pause_is : pause ≡ Some (Stopped stopped)
  pub taken : new ≡ record old { interrupted = false }
  pub nothing : after ≡ before

-- what was told before it happens may happen now
abbrev pub ready : Target → Target
ready t = record t { interrupted = false; told = None }

abbrev pub Pauses : Way → (old : Target) → Option Pause → (new : Target) → (before after : Option (List ℕ)) → Type 0
Pauses way old pause new before after = IsInterrupted way.let_run old pause new before after ⊎ ((old.interrupted ≡ false) × Resumes way (ready old) pause new before after)

-- The machine goes on up to a pause; then what the console shows is told, if anything is, and the pause
pub record GoesAndTells (way : Way) (old new : Target) (before after : Option (List ℕ)) : Type 0 where
  pub pause : Option Pause
  pub there : Target
  pub sent : Option (List ℕ)
  pub pauses : Pauses way old pause there before sent
  pub shown : Target
  pub shown_is : ButTold there shown
  pub told : Option (List ℕ)
  pub shows : Appends sent told (shown_told there.shown.items)
  pub tells : IsPauseTold way.let_run pause shown new told after

abbrev pub ResumesBy : Option Way → (old new : Target) (before after : Option (List ℕ)) → Type 0
ResumesBy None old new before after = IsRefused old new before after
ResumesBy (Some way) old new before after = GoesAndTells way old new before after

-- ---- packets

-- What a command does, and what is sent for it
abbrev pub Performs : Command → (old new : Target) (before after : Option (List ℕ)) → Type 0
Performs (on.Resume how thread) old new before after = (way : Option Way) × IsWay old how thread way × ResumesBy way old new before after
Performs on.ReverseContinue old new before after = IsContinuedBack old new before after
Performs on.ReverseStep old new before after = IsStepBack old new before after
Performs on.Restart old new before after = IsRestarted old new before after
Performs on.Kill old new before after = (new ≡ old) × (after ≡ before)
Performs command old new before after = IsAnswered command old new before after

-- a packet that is damaged is to be sent again, or refused if packets aren't acknowledged
abbrev pub damaged_told : (acks : Bool) → List ℕ
damaged_told true = acknowledgement true false
damaged_told false = packet (refusal 22)

-- What is done and sent for what GDB sent. A packet that came whole is acknowledged, if packets are, and then its command is performed. `kept` is what was sent last
abbrev pub Takes : Piece → (acks : Bool) → (kept payload : List ℕ) → (old new : Target) → (before after : Option (List ℕ)) → Type 0
Takes Ack acks kept payload old new before after = (new ≡ old) × (after ≡ before)
Takes Nak acks kept payload old new before after = (new ≡ old) × Appends before after kept
Takes pieces.Interrupt acks kept payload old new before after = (new ≡ record old { interrupted = true }) × (after ≡ before)
Takes Damaged acks kept payload old new before after = (new ≡ old) × Appends before after (damaged_told acks)
Takes Packet acks kept payload old new before after =
    (told : Option (List ℕ)) × Appends before told (acknowledgement acks true) × Performs (asked payload) old new told after

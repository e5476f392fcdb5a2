-- The exit status of a session.
use Rattle.std.specs.Prelude.{◌≡◌, ℕ, ℤ, Option, None, Some}
use Rattle.program_files.specs.Statuses.{exit_status}
use Rattle.xv_session.specs.Recorded.{Recorded}
use Rattle.xv_debug.specs.declared.debugger.Next.{Next}
use Rattle.xv_debug.specs.declared.debugger.Next.TheVariants as behind
use Rattle.xv_live.specs.Resting.{NothingHappens}
use Rattle.xv_live.specs.declared.pauses.Pause.{Pause}
use Rattle.xv_live.specs.declared.pauses.Pause.TheVariants as pauses
use Rattle.terminal_session.specs.declared.ending.End.{End}
use Rattle.terminal_session.specs.declared.ending.End.TheVariants as ends

-- the exit status of a session that ended so
abbrev pub end_status : End → ℕ
end_status (ends.Halted status) = exit_status status
end_status ends.Asked = 4
end_status ends.NoKeys = 4
end_status ends.Played = 4

-- A session is said to have ended by the end of process 1 only if it did, with this status; since that was asked for, or since its record is over, only if process 1 isn't gone; and since no key will come only if nothing happens without one
abbrev pub IsEndOf : Recorded → End → Type 0
IsEndOf s (ends.Halted status) = s.machine.world.turns.halted ≡ Some status
IsEndOf s ends.Asked = s.machine.world.turns.halted ≡ None
IsEndOf s ends.NoKeys = NothingHappens s.machine.world
IsEndOf s ends.Played = s.machine.world.turns.halted ≡ None

-- the end that was asked for: that of process 1, if it is gone
abbrev pub asked_end : (halted : Option ℤ) → End
asked_end None = ends.Asked
asked_end (Some status) = ends.Halted status

-- the end after a prompt; none if the machine is to go on
abbrev pub end_behind_prompt : Next → (halted : Option ℤ) → Option End
end_behind_prompt behind.Ends halted = Some (asked_end halted)
end_behind_prompt behind.Continues halted = None
end_behind_prompt behind.Stays halted = None

-- the end that some line of the prompt leads to, or none
abbrev pub IsEndBehindPrompt : (halted : Option ℤ) → Option End → Type 0
IsEndBehindPrompt halted e = (next : Next) × (e ≡ end_behind_prompt next halted)

-- the end after a pause; the machine goes on after none but the prompt
abbrev pub IsEndBehind : Pause → (halted : Option ℤ) → Option End → Type 0
IsEndBehind (pauses.Halted status) halted e = e ≡ Some (ends.Halted status)
IsEndBehind pauses.Debugger halted e = IsEndBehindPrompt halted e
IsEndBehind pauses.End halted e = e ≡ Some (asked_end halted)
IsEndBehind pauses.NoKeys halted e = e ≡ Some ends.NoKeys

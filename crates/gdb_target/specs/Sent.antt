-- What is sent to GDB.
use Rattle.std.specs.Prelude.{◌≡◌, ℕ, Bool, true, false, List, [], codes, Option}
use Rattle.std.specs.Io.KnownBytes.{Appends}
use Rattle.gdb_packets.specs.Packets.{packet}
use Rattle.gdb_packets.specs.Answers.{stop_reply}
use Rattle.gdb_packets.specs.declared.command.Command.{Command}
use Rattle.gdb_target.specs.Chosen.{Chooses}
use Rattle.gdb_target.specs.Told.{IsTold}
use Rattle.gdb_target.specs.declared.target.Target.{Target}

-- the packet of this payload was written, and nothing else
abbrev pub Sends : (before after : Option (List ℕ)) → (payload : List ℕ) → Type 0
Sends before after payload = Appends before after (packet payload)

-- what tells GDB whether its packet came whole: nothing where packets aren't acknowledged
abbrev pub acknowledgement : (acks whole : Bool) → List ℕ
acknowledgement false whole = []
acknowledgement true true = codes "+"
acknowledgement true false = codes "-"

-- A command after which the machine is where it was: what it is told is sent, and nothing else; and what GDB has chosen is as the command wants it
pub record IsAnswered (command : Command) (old new : Target) (before after : Option (List ℕ)) : Type 0 where
  pub text : List ℕ
  pub told : IsTold old command text
  pub chosen : Chooses old command new text
  pub run : new.run ≡ old.run
  pub sent : Sends before after text

-- the payload that tells of the last stop
abbrev pub stop_told : Target → List ℕ
stop_told t = stop_reply (record { reason = t.stopped.reason; thread = t.stopped.pid })

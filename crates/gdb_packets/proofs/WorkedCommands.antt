-- Worked cases: whom vCont, c and s let run, at what points it stops, and what monitor asks for.
use Rattle.std.proofs.Common.{◌≡◌, refl}
use Rattle.std.specs.Prelude.{codes}
use Rattle.gdb_packets.specs.Commands.{asked}
use Rattle.gdb_packets.specs.declared.command.Command.TheVariants as on
use Rattle.gdb_packets.specs.declared.command.Point.TheVariants.{Watchpoint, ReadWatchpoint, AccessWatchpoint}
use Rattle.gdb_packets.specs.declared.command.Resume.TheVariants.{Continue, Step}
use Rattle.gdb_packets.specs.declared.command.Thread.TheVariants.{All, Any, One}
use Rattle.gdb_packets.specs.declared.query.View.TheVariants.{Pages, Why, Help}

all_go_on : asked (codes "vCont;c") ≡ on.Resume Continue All
all_go_on = refl

one_alone_goes_on : asked (codes "vCont;c:4") ≡ on.Resume Continue (One 4)
one_alone_goes_on = refl

one_alone_steps : asked (codes "vCont;s:1a") ≡ on.Resume (Step (One 26)) (One 26)
one_alone_steps = refl

-- the others go on by the action that names no thread
one_steps_and_all_go_on : asked (codes "vCont;s:4;c") ≡ on.Resume (Step (One 4)) All
one_steps_and_all_go_on = refl

as_was_chosen : asked (codes "c") ≡ on.Resume Continue Any
as_was_chosen = refl

a_step_as_was_chosen : asked (codes "s") ≡ on.Resume (Step Any) Any
a_step_as_was_chosen = refl

watched_for_changes : asked (codes "Z2,1000,8") ≡ on.Insert Watchpoint 0x1000 8
watched_for_changes = refl

watched_for_reads : asked (codes "Z3,1000,8") ≡ on.Insert ReadWatchpoint 0x1000 8
watched_for_reads = refl

watched_for_both : asked (codes "Z4,1008,4") ≡ on.Insert AccessWatchpoint 0x1008 4
watched_for_both = refl

no_more_for_reads : asked (codes "z3,1000,8") ≡ on.Remove ReadWatchpoint 0x1000 8
no_more_for_reads = refl

no_other_kind : asked (codes "Z5,1000,8") ≡ on.Unknown
no_other_kind = refl

monitor_pages : asked (codes "qRcmd,7061676573") ≡ on.Monitor Pages
monitor_pages = refl

monitor_why : asked (codes "qRcmd,776879") ≡ on.Monitor Why
monitor_why = refl

monitor_with_another_word_is_help : asked (codes "qRcmd,7061676") ≡ on.Monitor Help
monitor_with_another_word_is_help = refl

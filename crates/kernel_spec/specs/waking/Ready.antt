-- Whether a process that waits could go on (the xv6 book, "Sleep and wakeup").
use Rattle.std.specs.Prelude.{Bool, true, not, ◌||◌, Option, None, Some, is_some}
use Rattle.proc_table.specs.declared.process.Call.{Call}
use Rattle.kernel_spec.specs.views.Words.{c_int}
use Rattle.kernel_spec.specs.views.PipeEnds.{has_bytes, has_room}
use Rattle.kernel_spec.specs.rows.Terminal.{has_committed, has_room_to_send}
use Rattle.kernel_spec.specs.steps.Ticks.{ticks_since, has_passed}
use Rattle.kernel_spec.specs.views.View.{View, Descriptor, Shown, Shown_terminal, Shown_file, Shown_pipe, in_use}
use Rattle.kernel_spec.specs.rows.Calls.{Row, Wait, Read, Write, Sleep, row_of, least_zombie, has_child}

-- a read of it may go on
abbrev pub can_read : View → Shown → Bool
can_read v Shown_terminal = has_committed v.console
can_read v (Shown_file program offset) = true
can_read v (Shown_pipe name end pipe) = has_bytes pipe

-- a write to it may go on
abbrev pub can_write : View → Shown → Bool
can_write v Shown_terminal = has_room_to_send v.console
can_write v (Shown_file program offset) = true
can_write v (Shown_pipe name end pipe) = has_room pipe

abbrev pub on_shown : (Shown → Bool) → Option Descriptor → Bool
on_shown test None = true
on_shown test (Some d) = test d.shown

abbrev pub row_ready : View → Call → Option Row → Bool
row_ready v c (Some Wait) = is_some (least_zombie v) || not (has_child v)
row_ready v c (Some Read) = on_shown (can_read v) (in_use v (c_int c.a0))
row_ready v c (Some Write) = on_shown (can_write v) (in_use v (c_int c.a0))
row_ready v c (Some Sleep) = has_passed (ticks_since v.clock c.clock) (c_int c.a0)
row_ready v c _ = true

abbrev pub call_ready : View → Option Call → Bool
call_ready v None = true
call_ready v (Some c) = row_ready v c (row_of c.number)

-- its kill mark is set, or no call is in progress, or the call's condition holds
unfoldable pub ready : View → Bool
ready v = v.killed || call_ready v v.call

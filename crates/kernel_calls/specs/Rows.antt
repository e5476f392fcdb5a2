-- Which row of the kernel's own table each call goes by.
use Rattle.kernel_spec.specs.rows.Calls.{Row}
use Rattle.kernel_spec.specs.rows.Calls as rows
use Rattle.kernel_calls.specs.declared.call.KernelCall.{KernelCall}
use Rattle.kernel_calls.specs.declared.call.KernelCall.TheVariants.{Fork, Exit, Wait, Pipe, Read, Kill, Exec, Dup, Getpid, Sbrk, Sleep, Uptime, Open, Write, Close, Sbrklazy}

-- the row of a call
abbrev pub row_for : KernelCall → Row
row_for Fork = rows.Fork
row_for Exit = rows.Exit
row_for Wait = rows.Wait
row_for Pipe = rows.Pipe_row
row_for Read = rows.Read
row_for Kill = rows.Kill
row_for Exec = rows.Exec
row_for Dup = rows.Dup
row_for Getpid = rows.Getpid
row_for Sbrk = rows.Sbrk
row_for Sleep = rows.Sleep
row_for Uptime = rows.Uptime
row_for Open = rows.Open
row_for Write = rows.Write
row_for Close = rows.Close
row_for Sbrklazy = rows.Sbrklazy

-- the call of a row
abbrev pub call_by : Row → KernelCall
call_by rows.Fork = Fork
call_by rows.Exit = Exit
call_by rows.Wait = Wait
call_by rows.Pipe_row = Pipe
call_by rows.Read = Read
call_by rows.Kill = Kill
call_by rows.Exec = Exec
call_by rows.Dup = Dup
call_by rows.Getpid = Getpid
call_by rows.Sbrk = Sbrk
call_by rows.Sleep = Sleep
call_by rows.Uptime = Uptime
call_by rows.Open = Open
call_by rows.Write = Write
call_by rows.Close = Close
call_by rows.Sbrklazy = Sbrklazy

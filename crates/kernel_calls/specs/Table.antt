-- The table of the kernel calls. Numbers and names are those of xv6's syscall.h, arguments those of the xv6 book's prototypes ("Operating system interfaces"); sbrklazy is this project's own.
use Rattle.std.specs.Prelude.{ℕ, List, [], ◌∷◌, Option, None, ℤ, pos, negsuc, nat_eq, find, bytes_eq, codes}
use Rattle.kernel_calls.specs.declared.argument.Argument.{Argument}
use Rattle.kernel_calls.specs.declared.argument.Argument.TheVariants.{ExitStatus, ChildStatus, Ends, Descriptor, Buffer, Count, Pid, File, Words, Flags}
use Rattle.kernel_calls.specs.declared.call.KernelCall.{KernelCall}
use Rattle.kernel_calls.specs.declared.call.KernelCall.TheVariants.{Fork, Exit, Wait, Pipe, Read, Kill, Exec, Dup, Getpid, Sbrk, Sleep, Uptime, Open, Write, Close, Sbrklazy}

-- what the table has of a call
pub record Entry : Type 0 where
  pub number : ℕ
  pub name : List ℕ
  pub arguments : List Argument

abbrev pub entry : ℕ → List ℕ → List Argument → Entry
entry number name arguments = record { number = number; name = name; arguments = arguments }

-- number, name, arguments
abbrev pub entry_of : KernelCall → Entry
entry_of Fork = entry 1 (codes "fork") []
entry_of Exit = entry 2 (codes "exit") (ExitStatus ∷ [])
entry_of Wait = entry 3 (codes "wait") (ChildStatus ∷ [])
entry_of Pipe = entry 4 (codes "pipe") (Ends ∷ [])
entry_of Read = entry 5 (codes "read") (Descriptor ∷ Buffer ∷ Count ∷ [])
entry_of Kill = entry 6 (codes "kill") (Pid ∷ [])
entry_of Exec = entry 7 (codes "exec") (File ∷ Words ∷ [])
entry_of Dup = entry 10 (codes "dup") (Descriptor ∷ [])
entry_of Getpid = entry 11 (codes "getpid") []
entry_of Sbrk = entry 12 (codes "sbrk") (Count ∷ [])
entry_of Sleep = entry 13 (codes "sleep") (Count ∷ [])
entry_of Uptime = entry 14 (codes "uptime") []
entry_of Open = entry 15 (codes "open") (File ∷ Flags ∷ [])
entry_of Write = entry 16 (codes "write") (Descriptor ∷ Buffer ∷ Count ∷ [])
entry_of Close = entry 21 (codes "close") (Descriptor ∷ [])
entry_of Sbrklazy = entry 22 (codes "sbrklazy") (Count ∷ [])

-- all calls, in the order of their numbers
abbrev pub calls : List KernelCall
calls = Fork ∷ Exit ∷ Wait ∷ Pipe ∷ Read ∷ Kill ∷ Exec ∷ Dup ∷ Getpid ∷ Sbrk ∷ Sleep ∷ Uptime ∷ Open ∷ Write ∷ Close ∷ Sbrklazy ∷ []

-- the call of a number
unfoldable pub call_at : ℤ → Option KernelCall
call_at (pos n) = find (λ call. nat_eq (entry_of call).number n) calls
call_at (negsuc k) = None

-- the call of a name
unfoldable pub call_named : List ℕ → Option KernelCall
call_named name = find (λ call. bytes_eq (entry_of call).name name) calls

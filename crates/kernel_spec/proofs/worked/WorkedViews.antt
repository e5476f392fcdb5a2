-- What the worked cases share: a process in a call, what it may have its descriptors on, and what is asked of its next view.
use Rattle.kernel_spec.proofs.Prelude.{[], ℕ, ◌-◌, ◌^◌, ◌∷◌, A0, Bool, Call, Child, cond, Console, Descriptor, Descriptors, empty_console, false, fresh, Image, List, nat_eq, no_pages, None, Option}
use Rattle.kernel_spec.proofs.Prelude.{option_map, Pipe, pos, Reading, reg, Shown_file, Shown_pipe, Shown_terminal, Some, true, View, Writing}

-- ---- calls and views

-- a call that has just begun
abbrev pub call : ℕ → ℕ → ℕ → ℕ → Call
call number a0 a1 a2 = record { number = pos number; a0 = a0; a1 = a1; a2 = a2; moved = 0; clock = 0 }

-- a number below 0 in a register
abbrev pub minus : ℕ → ℕ
minus n = 2 ^ 64 - n

-- process 1 alone, in this call, with 9 frames free
unfoldable pub in_call : Image → Call → View
in_call image c = record {
  pid = 1;
  regs = fresh 0;
  image = image;
  call = Some c;
  killed = false;
  descriptors = λ d. None;
  children = λ q. None;
  console = empty_console;
  pids = 1 ∷ [];
  clock = 0;
  next_pid = 2;
  free = 9;
  programs = [];
}

-- descriptor 0 is on the read end of a pipe, and 1 on its write end
abbrev pub ends_of : Pipe → Descriptors
ends_of x = λ d. cond (nat_eq d 0) (Some (record { file = 0; read = true; write = false; shown = Shown_pipe 0 Reading x }))
    (cond (nat_eq d 1) (Some (record { file = 1; read = false; write = true; shown = Shown_pipe 0 Writing x })) None)

-- ---- what is asked of the next view; none is there where the process is gone

unfoldable pub a0_after : Option View → ℕ
a0_after None = 0
a0_after (Some v) = reg v.regs A0

unfoldable pub is_marked : Option View → Bool
is_marked None = false
is_marked (Some v) = v.killed

unfoldable pub pids_of : Option View → List ℕ
pids_of None = []
pids_of (Some v) = v.pids

unfoldable pub free_of : Option View → ℕ
free_of None = 0
free_of (Some v) = v.free

unfoldable pub moved_of : Option View → Option ℕ
moved_of None = None
moved_of (Some v) = option_map (λ (c : Call). c.moved) v.call

unfoldable pub at_place : Option View → ℕ → Option Descriptor
at_place None d = None
at_place (Some v) d = v.descriptors d

unfoldable pub writers_of : Option Descriptor → ℕ
writers_of None = 0
writers_of (Some d) = elim d.shown [ Shown_terminal ↦ 0 | Shown_file program offset ↦ 0 | Shown_pipe name end pipe ↦ pipe.writers ]

unfoldable pub readers_of : Option Descriptor → ℕ
readers_of None = 0
readers_of (Some d) = elim d.shown [ Shown_terminal ↦ 0 | Shown_file program offset ↦ 0 | Shown_pipe name end pipe ↦ pipe.readers ]

unfoldable pub image_of : Option View → Image
image_of None = no_pages
image_of (Some v) = v.image

unfoldable pub console_of : Option View → Console
console_of None = empty_console
console_of (Some v) = v.console

unfoldable pub child_at : Option View → ℕ → Option Child
child_at None q = None
child_at (Some v) q = v.children q

unfoldable pub pid_of : Option View → ℕ
pid_of None = 0
pid_of (Some v) = v.pid

unfoldable pub next_pid_of : Option View → ℕ
next_pid_of None = 0
next_pid_of (Some v) = v.next_pid

unfoldable pub reg_of : ℕ → Option View → ℕ
reg_of r None = 0
reg_of r (Some v) = reg v.regs r

unfoldable pub pc_of : Option View → ℕ
pc_of None = 0
pc_of (Some v) = v.regs.pc

unfoldable pub call_of : Option View → Option Call
call_of None = None
call_of (Some v) = v.call

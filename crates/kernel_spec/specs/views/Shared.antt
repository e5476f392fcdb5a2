-- What is shared of a view: the part that others' events may change.
use Rattle.std.specs.Prelude.{◌≡◌, ℕ, Bool, List, Option, None, Some}
use Rattle.pipe_core.specs.Pipe.{Pipe}
use Rattle.console_core.specs.Lists.{Console}
use Rattle.kernel_spec.specs.views.Processes.{Child}
use Rattle.kernel_spec.specs.views.View.{View, Descriptor, Shown, Shown_terminal, Shown_file, Shown_pipe, or_gone}

-- of a descriptor: the offset of its file, or the bytes and counts of its pipe
pub data Part : Type 0 where
  Nothing_shared : Part
  Offset : ℕ → Part
  Content : Pipe → Part

abbrev pub shared_part : Option Descriptor → Part
shared_part None = Nothing_shared
shared_part (Some d) = of_shown d.shown
  where
    of_shown : Shown → Part
    of_shown Shown_terminal = Nothing_shared
    of_shown (Shown_file program offset) = Offset offset
    of_shown (Shown_pipe name end pipe) = Content pipe

pub record Shared : Type 0 where
  pub console : Console
  pub clock : ℕ
  pub pids : List ℕ
  pub next_pid : ℕ
  pub free : ℕ
  pub children : ℕ → Option Child
  pub killed : Bool
  pub parts : ℕ → Part

abbrev pub shared : View → Shared
shared v = record {
  console = v.console;
  clock = v.clock;
  pids = v.pids;
  next_pid = v.next_pid;
  free = v.free;
  children = v.children;
  killed = v.killed;
  parts = λ d. shared_part (v.descriptors d);
}

-- ---- the rest of a view

-- what of a view only the process's own steps change
abbrev pub SameRest : View → View → Type 0
SameRest v w = (v.pid ≡ w.pid) × (v.regs ≡ w.regs) × (v.image ≡ w.image) × (v.call ≡ w.call) × (v.programs ≡ w.programs)

-- a descriptor without what is shared: a file's offset, a pipe's bytes and counts
abbrev pub bare_shown : Shown → Shown
bare_shown Shown_terminal = Shown_terminal
bare_shown (Shown_file program offset) = Shown_file program 0
bare_shown (Shown_pipe name end pipe) = Shown_pipe name end (or_gone None)

abbrev pub bare : Option Descriptor → Option Descriptor
bare None = None
bare (Some d) = Some (record d { shown = bare_shown d.shown })

-- the same descriptors, but for what is shared
abbrev pub SameDescriptors : View → View → Type 0
SameDescriptors v w = (d : ℕ) → bare (v.descriptors d) ≡ bare (w.descriptors d)

-- What another process sees of a step that isn't its own (the xv6 book, "Process overview": processes are kept apart).
-- A line `x ← o` of a `do`: x is what o has; if o has nothing, there is nothing (`◌>>=◌` of Words).
use Rattle.std.specs.Prelude.{◌≡◌, ◌≢◌, ℕ, ℤ, Bool, false, if◌then◌else◌, ◌||◌, Option, None, Some, unwrap_or, nat_eq}
use Rattle.std.specs.Option.{option_or}
use Rattle.std.specs.FinMap.{get}
use Rattle.xk_base.specs.declared.limits.TheConstants.{NOFILE}
use Rattle.xk_base.specs.Words.{least_below}
use Rattle.pipe_core.specs.Pipe.{Pipe}
use Rattle.file_table.specs.declared.open_file.Target.{Target}
use Rattle.file_table.specs.declared.open_file.Target.TheVariants.{Pipe as Pipe_end}
use Rattle.kernel_spec.specs.views.Words.{◌>>=◌, is_this}
use Rattle.kernel_spec.specs.views.Processes.{Child, Status}
use Rattle.kernel_spec.specs.views.State.{State, live}
use Rattle.kernel_spec.specs.views.View.{View, Descriptors, Descriptor, Shown, Shown_terminal, Shown_file, Shown_pipe, view}
use Rattle.kernel_spec.specs.steps.Own.{Own, gone_with}

-- ---- which open file and which pipe a descriptor is on, by the kernel's own numbers

-- the open file that descriptor d of process p names
abbrev pub file_at : State → (p d : ℕ) → Option ℕ
file_at s p d = do
  l ← live s p
  get l.descriptors d

abbrev pub pipe_of_target : Target → Option ℕ
pipe_of_target (Pipe_end pipe end) = Some pipe
pipe_of_target _ = None

-- the pipe that descriptor d of process p is on
abbrev pub pipe_at : State → (p d : ℕ) → Option ℕ
pipe_at s p d = do
  file ← file_at s p d
  f ← get s.files file
  pipe_of_target f.target

-- both are there and are the same
abbrev pub is_same : Option ℕ → Option ℕ → Bool
is_same None k = false
is_same (Some n) k = is_this n k

-- p's least descriptor on the open file, and on the pipe, that q's descriptor d is on
abbrev pub meets_on_file : State → (p q d : ℕ) → Option ℕ
meets_on_file s p q d = least_below (λ e. is_same (file_at s q d) (file_at s p e)) NOFILE

abbrev pub meets_on_pipe : State → (p q d : ℕ) → Option ℕ
meets_on_pipe s p q d = least_below (λ e. is_same (pipe_at s q d) (pipe_at s p e)) NOFILE

-- ---- descriptors

-- the offset, if a program's file is shown; the pipe, if a pipe is
abbrev pub offset_in : Shown → Option ℕ
offset_in (Shown_file program offset) = Some offset
offset_in _ = None

abbrev pub pipe_in : Shown → Option Pipe
pipe_in (Shown_pipe name end pipe) = Some pipe
pipe_in _ = None

-- what a descriptor shows after a step that left `on_file` on the same open file and `on_pipe` on the same pipe: their offset and their pipe; if there is none, what it showed
abbrev pub seen_shown : (on_file on_pipe : Option Descriptor) → Shown → Shown
seen_shown on_file on_pipe Shown_terminal = Shown_terminal
seen_shown on_file on_pipe (Shown_file program offset) = Shown_file program (unwrap_or (do left ← on_file; offset_in left.shown) offset)
seen_shown on_file on_pipe (Shown_pipe name end pipe) = Shown_pipe name end (unwrap_or (do left ← on_pipe; pipe_in left.shown) pipe)

-- q's descriptors, which were t, after a step of p that left p's as `left`
abbrev pub seen_table : State → (p q : ℕ) → (left t : Descriptors) → Descriptors
seen_table s p q left t = λ d. do
  descriptor ← t d
  let on_file : Option Descriptor = do e ← meets_on_file s p q d; left e
  let on_pipe : Option Descriptor = do e ← meets_on_pipe s p q d; left e
  Some (record descriptor { shown = seen_shown on_file on_pipe descriptor.shown })

-- ---- children

-- the children of the process of w after a step of that of v, which may be gone with a status: then its parent has the status, and pid 1 its children
abbrev pub seen_children : (gone : Option ℤ) → (v w : View) → ℕ → Option Child
seen_children None v w = w.children
seen_children (Some status) v w =
    λ c. option_or (if nat_eq c v.pid then (do _ ← w.children c; Some (Status status)) else w.children c) (if nat_eq w.pid 1 then v.children c else None)

-- ---- the view

-- What the process of view w sees after a step o of the process of view v, in the state s before the step. It has its own
-- registers, image, call in progress and descriptors still, and its kill mark is set if the step marked it
unfoldable pub seen : State → View → Own → View → View
seen s v o w = record w {
  console = o.left.console;
  pids = o.left.pids;
  next_pid = o.left.next_pid;
  free = o.left.free;
  descriptors = seen_table s v.pid w.pid o.left.descriptors w.descriptors;
  children = seen_children (gone_with o.answer) v w;
  killed = w.killed || is_this w.pid o.marked;
}

-- Each other live process stays live, and sees of the step only that
abbrev pub Quiet : State → View → Own → State → Type 0
Quiet s v o t = (q : ℕ) (w : View) → q ≢ v.pid → view s q ≡ Some w → view t q ≡ Some (seen s v o w)

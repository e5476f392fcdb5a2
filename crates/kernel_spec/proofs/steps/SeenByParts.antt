-- What a descriptor is on, and what another process sees of a step, taken apart: a word for each part of `file_at`, `pipe_at` and `seen`, for lemmas to speak of.
use Rattle.kernel_spec.proofs.Prelude.{ℕ, Child, Descriptor, Descriptors, get, Live, None, offset_in, OpenFile, Option, Pipe, pipe_in, pipe_of_target, seen_shown, show, Shown, Some, State, unwrap_or}
use Rattle.kernel_spec.specs.views.Words.{◌>>=◌}

-- the descriptor on an open file, and on what a process names
abbrev pub descriptor_on : State → ℕ → Option OpenFile → Option Descriptor
descriptor_on s file None = None
descriptor_on s file (Some f) = Some (record { file = file; read = f.read; write = f.write; shown = show s f.target })

abbrev pub descriptor_at : State → Option ℕ → Option Descriptor
descriptor_at s None = None
descriptor_at s (Some file) = descriptor_on s file (get s.files file)

abbrev pub file_of : Option Live → ℕ → Option ℕ
file_of o d = do l ← o; get l.descriptors d

abbrev pub pipe_of_open : Option OpenFile → Option ℕ
pipe_of_open None = None
pipe_of_open (Some f) = pipe_of_target f.target

abbrev pub pipe_of_file : State → Option ℕ → Option ℕ
pipe_of_file s None = None
pipe_of_file s (Some file) = pipe_of_open (get s.files file)

-- p's descriptor as the step left it
abbrev pub left_at : Descriptors → Option ℕ → Option Descriptor
left_at t None = None
left_at t (Some e) = t e

-- the offset, and the pipe, that is shown or left; another where there is none
abbrev pub shown_offset : ℕ → Shown → ℕ
shown_offset offset x = unwrap_or (offset_in x) offset

abbrev pub offset_left : ℕ → Option Descriptor → ℕ
offset_left offset o = unwrap_or (do left ← o; offset_in left.shown) offset

abbrev pub shown_pipe : Pipe → Shown → Pipe
shown_pipe pipe x = unwrap_or (pipe_in x) pipe

abbrev pub pipe_left : Pipe → Option Descriptor → Pipe
pipe_left pipe o = unwrap_or (do left ← o; pipe_in left.shown) pipe

abbrev pub seen_descriptor : (file_met pipe_met : Option Descriptor) → Option Descriptor → Option Descriptor
seen_descriptor f p None = None
seen_descriptor f p (Some d) = Some (record d { shown = seen_shown f p d.shown })

abbrev pub same_child : Option Child → Child → Option Child
same_child o c = do _ ← o; Some c

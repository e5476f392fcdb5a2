-- Changes of a process's table of descriptors (the xv6 book, "I/O and file descriptors").
use Rattle.std.specs.Prelude.{ℕ, ◌+◌, Bool, true, false, if◌then◌else◌, ◌&&◌, Option, None, Some, nat_eq, nat_lt, is_none, option_map}
use Rattle.xk_base.specs.declared.limits.TheConstants.{NOFILE}
use Rattle.xk_base.specs.Words.{least_below, count_below}
use Rattle.pipe_core.specs.Pipe.{Pipe}
use Rattle.file_table.specs.declared.open_file.End.{End}
use Rattle.file_table.specs.declared.open_file.End.TheVariants.{Reading, Writing}
use Rattle.kernel_spec.specs.views.Words.{with_value}
use Rattle.kernel_spec.specs.views.PipeEnds.{joined, parted, is_given_up}
use Rattle.kernel_spec.specs.views.View.{Descriptors, Descriptor, Shown, Shown_file, Shown_pipe, named}

-- the lowest free descriptor
abbrev pub lowest_free : Descriptors → Option ℕ
lowest_free t = least_below (λ d. is_none (t d)) NOFILE

-- the lowest free descriptor above one
abbrev pub lowest_free_above : Descriptors → ℕ → Option ℕ
lowest_free_above t low = least_below (λ d. nat_lt low d && is_none (t d)) NOFILE

-- ---- the table with another descriptor at number k. Names are chosen anew

-- with d there
abbrev pub with_descriptor : ℕ → Descriptor → Descriptors → Descriptors
with_descriptor k d t = named (with_value t k (Some d))

-- on what number j is on
abbrev pub with_copy : ℕ → ℕ → Descriptors → Descriptors
with_copy k j t = named (with_value t k (t j))

-- with nothing there
abbrev pub without_descriptor : ℕ → Descriptors → Descriptors
without_descriptor k t = named (with_value t k None)

-- ---- every pipe changed by f, which is told its name

abbrev pub change_shown : (ℕ → Pipe → Pipe) → Shown → Shown
change_shown f (Shown_pipe name end pipe) = Shown_pipe name end (f name pipe)
change_shown f shown = shown

abbrev pub changed : (ℕ → Pipe → Pipe) → Option Descriptor → Option Descriptor
changed f o = option_map (λ (d : Descriptor). record d { shown = change_shown f d.shown }) o

abbrev pub change_pipes : (ℕ → Pipe → Pipe) → Descriptors → Descriptors
change_pipes f t = λ d. changed f (t d)

-- the pipe of this name is now this
abbrev pub change_pipe : ℕ → Pipe → Descriptors → Descriptors
change_pipe name x t = change_pipes (λ n pipe. if nat_eq n name then x else pipe) t

-- ---- the offset of one open file, n bytes on

abbrev pub advance_shown : ℕ → Shown → Shown
advance_shown n (Shown_file program offset) = Shown_file program (offset + n)
advance_shown n shown = shown

abbrev pub advanced : ℕ → ℕ → Option Descriptor → Option Descriptor
advanced file n None = None
advanced file n (Some d) = if nat_eq d.file file then Some (record d { shown = advance_shown n d.shown }) else Some d

abbrev pub advance : ℕ → ℕ → Descriptors → Descriptors
advance file n t = λ d. advanced file n (t d)

-- ---- the counts of the end that a descriptor is on

-- one descriptor more
abbrev pub one_more_on : Shown → Descriptors → Descriptors
one_more_on (Shown_pipe name end pipe) t = change_pipe name (joined pipe end 1) t
one_more_on _ t = t

-- one descriptor fewer
abbrev pub one_less_on : Shown → Descriptors → Descriptors
one_less_on (Shown_pipe name end pipe) t = change_pipe name (parted pipe end 1) t
one_less_on _ t = t

-- ---- how many descriptors of the table are on each end of a pipe

abbrev pub is_end : End → End → Bool
is_end Reading Reading = true
is_end Writing Writing = true
is_end _ _ = false

abbrev pub shown_on_end : ℕ → End → Shown → Bool
shown_on_end name end (Shown_pipe n e pipe) = nat_eq n name && is_end end e
shown_on_end name end _ = false

abbrev pub on_end : ℕ → End → Option Descriptor → Bool
on_end name end None = false
on_end name end (Some d) = shown_on_end name end d.shown

abbrev pub ends : Descriptors → ℕ → End → ℕ
ends t name end = count_below (λ d. on_end name end (t d)) NOFILE

-- each pipe has as many descriptors more as the table has on it: a second process has the same table
abbrev pub doubled : Descriptors → Descriptors
doubled t = change_pipes (λ name pipe. joined (joined pipe Reading (ends t name Reading)) Writing (ends t name Writing)) t

-- each pipe has as many fewer
abbrev pub all_closed : Descriptors → Descriptors
all_closed t = change_pipes (λ name pipe. parted (parted pipe Reading (ends t name Reading)) Writing (ends t name Writing)) t

-- ---- pipes that no descriptor is on any more

abbrev pub shown_is_given_up : ℕ → Shown → Bool
shown_is_given_up d (Shown_pipe name end pipe) = nat_eq name d && is_given_up pipe
shown_is_given_up d _ = false

-- the descriptor whose number names its pipe, where the pipe is given up
abbrev pub names_given_up : ℕ → Option Descriptor → Bool
names_given_up d None = false
names_given_up d (Some x) = shown_is_given_up d x.shown

-- how many pipes of the table are given up
abbrev pub pipes_given_up : Descriptors → ℕ
pipes_given_up t = count_below (λ d. names_given_up d (t d)) NOFILE

-- A view is what is shared of it together with the rest.
use Rattle.kernel_spec.proofs.Prelude.{[], ℕ, ◌∙◌, ◌≡◌, bare, Bool, Content, Descriptor, empty_console, false, None, Offset, Option, Part, refl, Shared, shared, shared_part, Shown, Shown_file}
use Rattle.kernel_spec.proofs.Prelude.{Shown_pipe, Shown_terminal, Some, sym, View}

-- what of a view is its own
abbrev pub rest : View → View
rest v = record v {
  console = empty_console;
  clock = 0;
  pids = [];
  next_pid = 0;
  free = 0;
  children = λ q. None;
  killed = false;
  descriptors = λ d. bare (v.descriptors d);
}

abbrev pub filled_shown : Shown → Part → Shown
filled_shown (Shown_file program n) (Offset offset) = Shown_file program offset
filled_shown (Shown_pipe name end p) (Content pipe) = Shown_pipe name end pipe
filled_shown x part = x

abbrev pub filled : Option Descriptor → Part → Option Descriptor
filled None part = None
filled (Some d) part = Some (record d { shown = filled_shown d.shown part })

abbrev pub together : View → Shared → View
together v s = record v {
  console = s.console;
  clock = s.clock;
  pids = s.pids;
  next_pid = s.next_pid;
  free = s.free;
  children = s.children;
  killed = s.killed;
  descriptors = λ d. filled (v.descriptors d) (s.parts d);
}

filled_bare_shown : (file : ℕ) (read write : Bool) (x : Shown)
    → filled (bare (Some (record { file = file; read = read; write = write; shown = x })))
    (shared_part (Some (record { file = file; read = read; write = write; shown = x }))) ≡ Some (record { file = file; read = read; write = write; shown = x })
filled_bare_shown file read write Shown_terminal = refl
filled_bare_shown file read write (Shown_file program offset) = refl
filled_bare_shown file read write (Shown_pipe name end pipe) = refl

filled_bare : (d : Option Descriptor) → filled (bare d) (shared_part d) ≡ d
filled_bare None = refl
filled_bare (Some d) = filled_bare_shown d.file d.read d.write d.shown

pub together_again : (v : View) → together (rest v) (shared v) ≡ v
together_again v = λ i. record v { descriptors = λ d. filled_bare (v.descriptors d) i }

-- two views with the same rest and the same shared part are one
pub same_view : (v w : View) → rest v ≡ rest w → shared v ≡ shared w → v ≡ w
same_view v w r s = sym (together_again v) ∙ (λ i. together (r i) (s i)) ∙ together_again w

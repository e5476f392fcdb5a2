-- Worked cases of what a step leaves of open files and of all that is shared, of other processes' events, of memory by exec, and of runs from boot.
use Rattle.kernel_spec.proofs.Prelude.{[], ℕ, ◌*◌, ◌+◌, ◌∙◌, ◌∷◌, ◌≡◌, ◌≢◌, ap, ARG_BYTES, BadConfig, Bool, BootError, Call, call_in, Called, Console, Course, Descriptor, Descriptors, End, Err, Event}
use Rattle.kernel_spec.proofs.Prelude.{Exec, ExecError, file_at, FilesAfter, first, get, Happens, HasExeced, Holds, Image, inl, inr, IsFromBoot, IsLeft, IsNewPipe, IsOfItsOwn, IsPut, IsStepOf}
use Rattle.kernel_spec.proofs.Prelude.{IsStored, Key, keys, Left, List, Loaded, loaded, MatchOption, MAXARG, MAXPATH, Moment, negsuc, no_slashes, None, Ok, Option, Others, Outcome, Own, Page, Pipe}
use Rattle.kernel_spec.proofs.Prelude.{pipe_at, pos, program_named, ProgramFile, Read, refl, Registers, Result, row_of, Run, same_Some, SameRest, Shown, Shown_pipe, slice_index, Some, State, subst}
use Rattle.kernel_spec.proofs.Prelude.{sym, text_at, texts_at, Tick, Ticked, true, Typed, View, view, WasPut, World}
use Rattle.kernel_spec.proofs.worked.RowsOfRuns.{none_behind}

-- ---- open files and pipes after a step of process 1

module _ (s t : State) (o : Own) (after : FilesAfter s 1 o t) where
  -- a descriptor that stays in use, of any process, is on no other open file and no other pipe
  not_another_file : file_at s 2 0 ≡ Some 5 → file_at t 2 0 ≡ Some 6 → ⊥
  not_another_file before now = let same : ◌≡◌ {A = ℕ} 5 6 = after.same_file 2 0 5 6 before now in let no : ⊥ = cc in no

  not_another_file_of_its_own : file_at s 1 3 ≡ Some 5 → file_at t 1 3 ≡ Some 6 → ⊥
  not_another_file_of_its_own before now = let same : ◌≡◌ {A = ℕ} 5 6 = after.same_file 1 3 5 6 before now in let no : ⊥ = cc in no

  not_another_pipe : pipe_at s 2 0 ≡ Some 5 → pipe_at t 2 0 ≡ Some 6 → ⊥
  not_another_pipe before now = let same : ◌≡◌ {A = ℕ} 5 6 = after.same_pipe 2 0 5 6 before now in let no : ⊥ = cc in no

  -- an open file and a pipe that process 1 comes to are on none of the others
  no_file_of_another : ((k : ℕ) → file_at s 1 k ≢ Some 5) → file_at t 1 0 ≡ Some 5 → file_at t 2 0 ≡ Some 5 → ⊥
  no_file_of_another new mine its = let same : ◌≡◌ {A = ℕ} 2 1 = after.new_file 2 0 0 5 mine new its in let no : ⊥ = cc in no

  no_pipe_of_another : ((k : ℕ) → pipe_at s 1 k ≢ Some 5) → pipe_at t 1 0 ≡ Some 5 → pipe_at t 2 0 ≡ Some 5 → ⊥
  no_pipe_of_another new mine its = let same : ◌≡◌ {A = ℕ} 2 1 = after.new_pipe 2 0 0 5 mine new its in let no : ⊥ = cc in no

  -- a newborn's descriptors are on the open files that process 1's were on
  no_file_of_its_own : (c : View) → o.child ≡ Some c → file_at s 1 0 ≡ Some 5 → file_at t c.pid 0 ≡ Some 6 → ⊥
  no_file_of_its_own c made mine its =
      let same : file_at t c.pid 0 ≡ file_at s 1 0 = subst (λ (x : Option View). MatchOption x (Unit {0}) (λ c. (d : ℕ) → file_at t c.pid d ≡ file_at s 1 d)) made after.newborn 0 in
      let both : ◌≡◌ {A = Option ℕ} (Some 5) (Some 6) = sym mine ∙ sym same ∙ its in
      let no : ⊥ = cc in no

-- if nothing changes it is so
files_stay : (s : State) (o : Own) → o.child ≡ None → FilesAfter s 1 o s
files_stay s o none = record {
  same_file = λ q d f g a b. same_Some f g (sym a ∙ b);
  same_pipe = λ q d f g a b. same_Some f g (sym a ∙ b);
  newborn = subst (λ (x : Option View). MatchOption x (Unit {0}) (λ c. (d : ℕ) → file_at s c.pid d ≡ file_at s 1 d)) (sym none) tt;
  new_file = λ q d e f mine new its. absurd (new d mine);
  new_pipe = λ q d e f mine new its. absurd (new d mine);
}

-- ---- what a step leaves to all

-- the state has the console, the pids, the next pid and the free frames that are left, and the clock and programs that it had
left_is : (left : Left) (s t : State) → IsLeft left s t
    → (t.console ≡ left.console) × (keys t.processes ≡ left.pids) × (t.next_pid ≡ left.next_pid) × (t.free ≡ left.free) × (t.clock ≡ s.clock) × (t.programs ≡ s.programs)
left_is left s t h = (h.console, h.pids, h.next_pid, h.free, h.clock, h.programs)

nothing_left : (s : State) (t : Descriptors) → IsLeft (record { console = s.console; pids = keys s.processes; next_pid = s.next_pid; free = s.free; descriptors = t }) s s
nothing_left s t = record { console = refl; pids = refl; next_pid = refl; free = refl; clock = refl; programs = refl }

-- ---- events that are no step of process 2

module _ (w a b : World) (tick : Happens w Tick Ticked a) (key : Happens a (Key 97) (Typed (97 ∷ [])) b) where
  outside : (v : World) (e : Event) → (e ≡ Run → ⊥) → ¬ IsStepOf 2 v e
  outside v e apart is = apart is.0

  others_none : Others 2 w [] w
  others_none = refl

  others_two : Others 2 w ((Tick, Ticked) ∷ (Key 97, Typed (97 ∷ [])) ∷ []) b
  others_two = (a, tick, outside w Tick (λ e. let no : ⊥ = cc in no), (b, key, outside a (Key 97) (λ e. let no : ⊥ = cc in no), refl))

  -- without a step there is no moment
  course_none : Course 2 w []
  course_none = (
    (Tick, Ticked) ∷ (Key 97, Typed (97 ∷ [])) ∷ [],
    b,
    (a, tick, inl (outside w Tick (λ e. let no : ⊥ = cc in no), (b, key, inl (outside a (Key 97) (λ e. let no : ⊥ = cc in no), (refl, refl))))),
  )

-- a step of process 3 is another's, and one of 2 isn't
module _ (w t : World) (o : Outcome) (step : Happens w Run o t) (going : w.turns.halted ≡ None) where
  others_step : w.turns.current ≡ Some 3 → Others 2 w ((Run, o) ∷ []) t
  others_step runs = (t, step, (λ is. let both : ◌≡◌ {A = ℕ} 3 2 = same_Some 3 2 (sym runs ∙ is.2) in let no : ⊥ = cc in no), refl)

  no_others_step : w.turns.current ≡ Some 2 → Others 2 w ((Run, o) ∷ []) t → ⊥
  no_others_step runs is = is.2 (refl, going, runs)

  -- nor does a world follow from nothing
  not_elsewhere : Others 2 w [] t → t.state.clock ≢ w.state.clock → ⊥
  not_elsewhere is other = other (ap (λ (x : World). x.state.clock) is)

  -- one step is one moment, from the view before it to the view behind it
  module _ (v n : View) (before : view w.state 2 ≡ Some v) (after : view t.state 2 ≡ Some n) (runs : w.turns.current ≡ Some 2) where
    one_step : Course 2 w (record { before = v; outcome = o; after = Some n } ∷ [])
    one_step = ((Run, o) ∷ [], t, (t, step, inr (record { before = v; outcome = o; after = Some n }, [], refl, ((refl, going, runs), before, refl, after), inl refl, (refl, refl))))

  -- behind the step with which it is gone there is none
  no_second_step : (v : View) (m : Moment) → Course 2 w (record { before = v; outcome = o; after = None } ∷ m ∷ []) → ⊥
  no_second_step v m is = none_behind is.0 w is.1 (record { before = v; outcome = o; after = None }) m refl is.2

-- ---- what only a process's own steps change

module _ (v : View) where
  rest_stays : (console : Console) (pids : List ℕ) (clock next_pid free : ℕ) → SameRest (record v { console = console; pids = pids; clock = clock; next_pid = next_pid; free = free; killed = true }) v
  rest_stays console pids clock next_pid free = (refl, refl, refl, refl, refl)

  no_other_pid : SameRest (record v { pid = 2 }) (record v { pid = 3 }) → ⊥
  no_other_pid h = let same : ◌≡◌ {A = ℕ} 2 3 = h.0 in let no : ⊥ = cc in no

  no_other_regs : (a b : Registers) → a ≢ b → SameRest (record v { regs = a }) (record v { regs = b }) → ⊥
  no_other_regs a b apart h = apart h.1

  no_other_image : (a b : Image) → a ≢ b → SameRest (record v { image = a }) (record v { image = b }) → ⊥
  no_other_image a b apart h = apart h.2

  no_other_call : (a b : Option Call) → a ≢ b → SameRest (record v { call = a }) (record v { call = b }) → ⊥
  no_other_call a b apart h = apart h.3

  no_other_programs : (a b : List ProgramFile) → a ≢ b → SameRest (record v { programs = a }) (record v { programs = b }) → ⊥
  no_other_programs a b apart h = apart h.4

-- ---- memory by exec

-- the call names a program, and its texts are there; the program is loaded with them
module _ (v : View) (o : Own) (path : List ℕ) (texts : List (List ℕ)) (p : ProgramFile) (l : Loaded) (named : text_at MAXPATH v.image (call_in v).a0 ≡ Some path)
    (there : program_named (no_slashes path) v.programs ≡ Some p) (given : texts_at MAXARG ARG_BYTES v.image (call_in v).a1 ≡ Some texts) (loads : loaded p.bytes texts ≡ Ok l) where
  execed : (call_in v).number ≡ pos 7 → o.answer ≡ Called (call_in v).number (pos l.argc) → HasExeced v o l.image
  unfolding row_of
  execed seven answer = (path, texts, p, l, ap row_of seven, named, there, given, loads, refl, answer)

  -- no other image comes of it
  one_image : (image : Image) → HasExeced v o image → image ≡ l.image
  one_image image (path_too, texts_too, p_too, l_too, row, named_too, there_too, given_too, loads_too, is, answer) =
      let same_path : path ≡ path_too = same_Some path path_too (sym named ∙ named_too) in
      let same_texts : texts ≡ texts_too = same_Some texts texts_too (sym given ∙ given_too) in
      let same_p : p ≡ p_too = same_Some p p_too (sym there ∙ ap (λ (x : List ℕ). program_named (no_slashes x) v.programs) same_path ∙ there_too) in
      let same_l : l ≡ l_too = ok_loaded l l_too (sym loads ∙ (λ i. loaded (same_p i).bytes (same_texts i)) ∙ loads_too) in
      is ∙ ap (λ (x : Loaded). x.image) (sym same_l)
    where
      ok_loaded : (a b : Loaded) → ◌≡◌ {A = Result Loaded ExecError} (Ok a) (Ok b) → a ≡ b
      ok_loaded a b e = cc

-- a read is no exec, nor is one that was refused
not_by_read : (v : View) (o : Own) (image : Image) → (call_in v).number ≡ pos 5 → HasExeced v o image → ⊥
unfolding row_of
not_by_read v o image five is = let both : Some Read ≡ Some Exec = sym (ap row_of five) ∙ is.4 in let no : ⊥ = cc in no

not_refused : (v : View) (o : Own) (image : Image) → o.answer ≡ Called (pos 7) (negsuc 0) → HasExeced v o image → ⊥
not_refused v o image refused is = let both : Called (pos 7) (negsuc 0) ≡ Called (call_in v).number (pos is.3.argc) = sym refused ∙ is.10 in let no : ⊥ = cc in no

-- ---- a byte of the process's own: the step stores it, or it stood there, or it is a 0 in a page that wasn't there

module _ (v : View) (unstored : ¬ IsStored v (2 * 4096 + 0)) where
  stood : (x : Page) → get v.image.pages 2 ≡ Some x → slice_index x.bytes 0 ≡ 7 → IsOfItsOwn v 2 0 7
  stood x is byte = inr (inl (x, is, byte))

  new_zero : get v.image.pages 2 ≡ None → IsOfItsOwn v 2 0 0
  new_zero none = inr (inr (none, refl))

  not_another_byte : (x : Page) → get v.image.pages 2 ≡ Some x → slice_index x.bytes 0 ≡ 7 → IsOfItsOwn v 2 0 8 → ⊥
  not_another_byte x is byte h = elim h [
    | inl stored ↦ unstored stored
    | inr rest ↦ elim rest [
      | inl was ↦
          let same : x ≡ was.0 = same_Some x was.0 (sym is ∙ was.1) in
          let both : ◌≡◌ {A = ℕ} 7 8 = sym byte ∙ ap (λ (p : Page). slice_index p.bytes 0) same ∙ was.2 in
          let no : ⊥ = cc in no
      | inr new ↦ let none : Some x ≡ None = sym is ∙ new.0 in let no : ⊥ = cc in no
    ]
  ]

  no_byte_in_a_new_page : get v.image.pages 2 ≡ None → IsOfItsOwn v 2 0 7 → ⊥
  no_byte_in_a_new_page none h = elim h [
    | inl stored ↦ unstored stored
    | inr rest ↦ elim rest [
      | inl was ↦ let there : Some was.0 ≡ None = sym was.1 ∙ none in let no : ⊥ = cc in no
      | inr new ↦ let both : ◌≡◌ {A = ℕ} 7 0 = new.1 in let no : ⊥ = cc in no
    ]
  ]

stored_byte : (v : View) → IsStored v (2 * 4096 + 0) → IsOfItsOwn v 2 0 9
stored_byte v stored = inl stored

-- ---- a new pipe: both its ends show it, and one that the former view was on isn't new

module _ (v n : View) (x : Pipe) (end : End) (r w : Bool) where
  abbrev on_end : Option Descriptor
  on_end = Some (record { file = 1; read = r; write = w; shown = Shown_pipe 1 end x })

  new_end : n.descriptors 1 ≡ on_end → ((e : ℕ) → v.descriptors e ≡ None) → IsNewPipe v n x
  new_end is none = (1, 1, end, ap (λ (o : Option Descriptor). shown_of o) is, λ e there. none e)
    where
      shown_of : Option Descriptor → Option Shown
      shown_of None = None
      shown_of (Some d) = Some d.shown

-- ---- runs from boot

from_boot : (frames trace : ℕ) (programs : List ProgramFile) (w : World) → first frames trace programs ≡ Ok w → IsFromBoot frames trace programs [] w
from_boot frames trace programs w boot = (w, boot, refl)

-- there is none from a boot that is refused, and none from another world
not_from_15_frames : (es : List (Event × Outcome)) (t : World) → IsFromBoot 15 0 [] es t → ⊥
unfolding first
not_from_15_frames es t is = let both : ◌≡◌ {A = Result World BootError} (Err BadConfig) (Ok is.0) = is.1 in let no : ⊥ = cc in no

not_from_another : (frames trace : ℕ) (programs : List ProgramFile) (w t : World) → first frames trace programs ≡ Ok w → t.state.clock ≢ w.state.clock → IsFromBoot frames trace programs [] t → ⊥
not_from_another frames trace programs w t boot other is =
    let same : w ≡ is.0 = ok_world w is.0 (sym boot ∙ is.1) in
    other (ap (λ (x : World). x.state.clock) is.2 ∙ ap (λ (x : World). x.state.clock) (sym same))
  where
    ok_world : (a b : World) → ◌≡◌ {A = Result World BootError} (Ok a) (Ok b) → a ≡ b
    ok_world a b e = cc

-- ---- a byte that was put there in a run

module _ (w t : World) (o : Outcome) (v : View) (see : view w.state 1 ≡ Some v) (runs : IsStepOf 1 w Run) (step : Happens w Run o t) (put : IsPut v 2 0 7) (holds : Holds t 1 2 0 7) where
  was_put : WasPut w ((Run, o) ∷ []) t 1 2 0 7
  was_put = (t, step, inl (1, (runs, (v, see, put)), (holds, refl, refl)))

-- if there is no step nothing was put
not_put_by_nothing : (w t : World) → WasPut w [] t 1 2 0 7 → ⊥
not_put_by_nothing w t h = h

not_put_by_a_tick : (w t : World) → WasPut w ((Tick, Ticked) ∷ []) t 1 2 0 7 → ⊥
not_put_by_a_tick w t h = elim h.2 [ inl made ↦ let both : Tick ≡ Run = made.1.0.0 in let no : ⊥ = cc in no | inr later ↦ later ]

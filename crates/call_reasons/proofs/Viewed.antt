-- The facts that a machine shows of a live process are those of its view.
use Rattle.std.proofs.Common.{◌≡◌, ℕ, ◌/◌, ◌%◌, ◌<◌, ◌≤◌, ◌&&◌, not, Bool, cond, false, List, Option, Some, None, refl, sym, ap, ◌∙◌}
use Rattle.std.proofs.Common.{lt-ltb, le-ltb, inl, inr}
use Rattle.std.proofs.Math.Path.{fun_ext}
use Rattle.std.proofs.lemmas.Bool.{cases_lt}
use Rattle.std.specs.Prelude.{ℤ, pos, negsuc, is_none, is_some, option_map, ◌==◌, slice_index}
use Rattle.std.specs.List.{list_any}
use Rattle.std.specs.FinMap.{get, keys}
use Rattle.std.specs.Option.{option_and_then}
use Rattle.xk_base.specs.declared.access.Access.TheVariants.{Load, Store}
use Rattle.xk_base.specs.declared.limits.TheConstants.{NOFILE}
use Rattle.xk_base.specs.Bytes.{byte_in}
use Rattle.xk_base.specs.Image.{Page}
use Rattle.xk_base.specs.Words.{count_below}
use Rattle.pipe_core.specs.Pipe.{Pipe}
use Rattle.file_table.specs.declared.open_file.OpenFile.{OpenFile}
use Rattle.file_table.specs.declared.open_file.Target.{Target}
use Rattle.file_table.specs.declared.open_file.Target.TheVariants.{Console as Terminal, Program as File, Pipe as Pipe_end}
use Rattle.proc_table.specs.declared.process.Call.{Call}
use Rattle.kernel_spec.specs.views.Processes.{Live}
use Rattle.kernel_spec.specs.views.Programs.{program_named}
use Rattle.kernel_spec.specs.views.State.{State, live}
use Rattle.kernel_spec.specs.views.Words.{◌>>=◌, or_zero}
use Rattle.kernel_spec.specs.views.View.{view_of, named, numbered, rename, show, child_of, or_gone, Descriptor}
use Rattle.kernel_spec.proofs.Common.{count_below-same}
use Rattle.kernel_spec.proofs.steps.SeenByParts.{descriptor_at, descriptor_on, file_of}
use Rattle.kernel_spec.proofs.steps.NamesAreChosenAgain.{named_at}
use Rattle.kernel_spec.proofs.turns.KeepsSlots.{listed}
use Rattle.kcall_core.specs.Observers as observers
use Rattle.kcall_core.specs.Observers.{child_at, descriptor_of, opened}
use Rattle.kcall_core.specs.ObservedPipes.{counts_of}
use Rattle.call_reasons.specs.Facts.{Facts, facts_of, file_named, opened_of}
use Rattle.call_reasons.specs.Reasons.{reason_told}
use Rattle.call_reasons.specs.Shown.{counts_no_reader, facts_in, has_child_in, is_free_in, is_pid_in, opened_in, reach_in, reason_in, shown_as}

same_facts : (f g : Facts) → f.opened ≡ g.opened → f.free_descriptors ≡ g.free_descriptors → f.reads ≡ g.reads → f.writes ≡ g.writes → f.byte ≡ g.byte → f.size ≡ g.size
    → f.has_child ≡ g.has_child → f.is_pid ≡ g.is_pid → f.is_program ≡ g.is_program → f.file ≡ g.file → f.free ≡ g.free → f ≡ g
same_facts f g a b c d k e h i m n j =
    ap (λ x. record f { opened = x }) a ∙ ap (λ x. record f { opened = g.opened; free_descriptors = x }) b
    ∙ ap (λ x. record f { opened = g.opened; free_descriptors = g.free_descriptors; reads = x }) c
    ∙ ap (λ x. record f { opened = g.opened; free_descriptors = g.free_descriptors; reads = g.reads; writes = x }) d
    ∙ ap (λ x. record g { byte = x; size = f.size; has_child = f.has_child; is_pid = f.is_pid; is_program = f.is_program; file = f.file; free = f.free }) k
    ∙ ap (λ x. record g { size = x; has_child = f.has_child; is_pid = f.is_pid; is_program = f.is_program; file = f.file; free = f.free }) e
    ∙ ap (λ x. record g { has_child = x; is_pid = f.is_pid; is_program = f.is_program; file = f.file; free = f.free }) h
    ∙ ap (λ x. record g { is_pid = x; is_program = f.is_program; file = f.file; free = f.free }) i
    ∙ ap (λ x. record g { is_program = x; file = f.file; free = f.free }) m
    ∙ ap (λ x. record g { file = x; free = f.free }) n
    ∙ ap (λ x. record g { free = x }) j

module _ (s : State) (p : ℕ) (l : Live) (lives : live s p ≡ Some l) where
  -- ---- descriptors

  unread_same : (o : Option Pipe) → counts_no_reader (option_map counts_of o) ≡ ((or_gone o).readers == 0)
  unread_same None = refl
  unread_same (Some pipe) = refl

  -- names tell nothing of what is asked
  named_same : (file : ℕ) (read write : Bool) (target : Target)
      → shown_as s (record { file = file; open_file = record { target = target; read = read; write = write } })
      ≡ opened_of (rename (numbered s l) (record { file = file; read = read; write = write; shown = show s target }))
  named_same file read write Terminal = refl
  named_same file read write (File program offset) = refl
  named_same file read write (Pipe_end pipe end) = ap (λ b. record { reads = read; writes = write; is_file = false; is_unread = b }) (unread_same (get s.pipes pipe))

  open_same : (file : ℕ) (o : Option OpenFile)
      → option_map (shown_as s) (option_map (λ (x : OpenFile). record { file = file; open_file = x }) o) ≡ option_map opened_of (option_map (rename (numbered s l)) (descriptor_on s file o))
  open_same file None = refl
  open_same file (Some x) = ap Some (named_same file x.read x.write x.target)

  place_same : (o : Option ℕ) → option_map (shown_as s) (opened s o) ≡ option_map opened_of (option_map (rename (numbered s l)) (descriptor_at s o))
  place_same None = refl
  place_same (Some file) = open_same file (get s.files file)

  abbrev numbered_by : Option ℕ → Option Descriptor
  numbered_by o = do
    file ← o
    f ← get s.files file
    Some (record { file = file; read = f.read; write = f.write; shown = show s f.target })

  by_parts : (o : Option ℕ) → numbered_by o ≡ descriptor_at s o
  by_parts None = refl
  by_parts (Some file) = by (get s.files file)
    where
      by : (x : Option OpenFile) → option_and_then (λ (f : OpenFile). Some (record { file = file; read = f.read; write = f.write; shown = show s f.target })) x ≡ descriptor_on s file x
      by None = refl
      by (Some x) = refl

  at_place : (d : ℕ) → file_of (live s p) d ≡ get l.descriptors d
  at_place d = ap (λ o. file_of o d) lives

  descriptor_same : (d : ℕ) → d < NOFILE → option_map (shown_as s) (descriptor_of s p d) ≡ option_map opened_of ((view_of s p l).descriptors d)
  unfolding view_of
  descriptor_same d below =
      ap (λ o. option_map (shown_as s) (opened s o)) (at_place d)
      ∙ place_same (get l.descriptors d)
      ∙ ap (λ o. option_map opened_of (option_map (rename (numbered s l)) o)) (sym (by_parts (get l.descriptors d)))
      ∙ sym (ap (option_map opened_of) (named_at (numbered s l) d below))

  beyond_same : (d : ℕ) → NOFILE ≤ d → option_map opened_of ((view_of s p l).descriptors d) ≡ None
  unfolding view_of named
  beyond_same d beyond = ap (λ b. option_map opened_of (cond b (option_map (rename (numbered s l)) (numbered s l d)) None)) (le-ltb d NOFILE beyond)

  opened_same : (number : ℤ) → opened_in s p number ≡ (facts_of (view_of s p l)).opened number
  opened_same (negsuc k) = refl
  opened_same (pos d) = elim (cases_lt d NOFILE) [
    | inl below ↦ ap (λ b. cond b (option_map (shown_as s) (descriptor_of s p d)) None) (lt-ltb d NOFILE below) ∙ descriptor_same d below
    | inr beyond ↦ ap (λ b. cond b (option_map (shown_as s) (descriptor_of s p d)) None) (le-ltb d NOFILE beyond) ∙ sym (beyond_same d beyond)
  ]

  none_mapped : {A B C : Type 0} (f : A → C) (g : B → C) (a : Option A) (b : Option B) → option_map f a ≡ option_map g b → is_none a ≡ is_none b
  none_mapped f g None None e = refl
  none_mapped f g None (Some b) e = let no : ⊥ = cc in absurd no
  none_mapped f g (Some a) None e = let no : ⊥ = cc in absurd no
  none_mapped f g (Some a) (Some b) e = refl

  free_same : count_below (is_free_in s p) NOFILE ≡ (facts_of (view_of s p l)).free_descriptors
  free_same = count_below-same NOFILE (is_free_in s p) (λ d. is_none ((view_of s p l).descriptors d))
      (λ d below. none_mapped (shown_as s) opened_of (descriptor_of s p d) ((view_of s p l).descriptors d) (descriptor_same d below))

  -- ---- memory and processes

  reads_same : (address count : ℕ) → reach_in Load (live s p) address count ≡ (facts_of (view_of s p l)).reads address count
  unfolding view_of
  reads_same address count = ap (λ o. reach_in Load o address count) lives

  writes_same : (address count : ℕ) → reach_in Store (live s p) address count ≡ (facts_of (view_of s p l)).writes address count
  unfolding view_of
  writes_same address count = ap (λ o. reach_in Store o address count) lives

  byte_same : (address : ℕ) → or_zero (observers.byte_at s p address) ≡ (facts_of (view_of s p l)).byte address
  unfolding view_of
  byte_same address = ap (λ o. or_zero (observers.byte_in address o)) lives ∙ by (get l.image.pages (address / 4096))
    where
      by : (o : Option Page) → or_zero (option_map (λ (page : Page). slice_index page.bytes (address % 4096)) o) ≡ byte_in o (address % 4096)
      by None = refl
      by (Some page) = refl

  size_same : (facts_in s p).size ≡ (facts_of (view_of s p l)).size
  unfolding view_of
  size_same = ap (λ o. or_zero (option_map (λ (x : Live). x.image.size) o)) lives

  child_same : has_child_in s p ≡ (facts_of (view_of s p l)).has_child
  unfolding view_of
  child_same = ap (λ o. list_any (λ q. is_some (observers.if_live o (child_of p (get s.processes q)))) (keys s.processes)) lives

  pid_same : (number : ℤ) → is_pid_in s number ≡ (facts_of (view_of s p l)).is_pid number
  unfolding view_of
  pid_same (negsuc k) = refl
  pid_same (pos n) = ap (λ b. not (n == 0) && b) (sym (listed s.processes n))

  program_same : (name : List ℕ) → is_some (program_named name s.programs) ≡ (facts_of (view_of s p l)).is_program name
  unfolding view_of
  program_same name = refl

  file_same : (name : List ℕ) → file_named name s.programs ≡ (facts_of (view_of s p l)).file name
  unfolding view_of
  file_same name = refl

  free_frames : (facts_in s p).free ≡ (facts_of (view_of s p l)).free
  unfolding view_of
  free_frames = refl

  -- ---- all of it

  facts_same : facts_in s p ≡ facts_of (view_of s p l)
  facts_same =
      same_facts (facts_in s p) (facts_of (view_of s p l)) (fun_ext opened_same) free_same (fun_ext (λ a. fun_ext (λ n. reads_same a n))) (fun_ext (λ a. fun_ext (λ n. writes_same a n)))
      (fun_ext byte_same) size_same child_same (fun_ext pid_same) (fun_ext program_same) (fun_ext file_same) free_frames

  pub told_same : (c : Call) (value : ℤ) → reason_told c (facts_in s p) value ≡ reason_in s p c value
  told_same c value =
      ap (λ (f : Facts). reason_told c f value) facts_same
      ∙ sym (ap (λ o. option_and_then (λ v. reason_told c (facts_of v) value) (option_map (view_of s p) o)) lives)

-- nothing is told of another process
pub none_told : (s : State) (p : ℕ) (c : Call) (value : ℤ) → live s p ≡ None → reason_in s p c value ≡ None
none_told s p c value dead = ap (λ o. option_and_then (λ v. reason_told c (facts_of v) value) (option_map (view_of s p) o)) dead

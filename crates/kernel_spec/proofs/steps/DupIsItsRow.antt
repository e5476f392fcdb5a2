-- Dup: it is the step that its row tells.
use Rattle.kernel_spec.proofs.Prelude.{ℕ, ◌<◌, ◌∙◌, ◌≡◌, ◌≢◌, Alive, ap, Bool, Call, Called, changed_state, cond, Descriptor, Descriptors, false, File, file_at, FinMap, fun_ext, get, goes_on, insert}
use Rattle.kernel_spec.proofs.Prelude.{Live, live, live_part, named, nat_cmp, nat_eq, NOFILE, None, numbered, one_more_on, OpenFile, Option, option_map, or_gone, Pipe, pipe_at, Pipe_end}
use Rattle.kernel_spec.proofs.Prelude.{pipe_of_target, pos, refl, rename, show, Some, State, sym, Target, Terminal, true, view_of, with_a0, with_copy, with_value, word}
use Rattle.kernel_spec.proofs.steps.SeenByParts.{file_of, pipe_of_file, pipe_of_open, offset_left, pipe_left, shown_offset, shown_pipe, descriptor_at, descriptor_on}
use Rattle.kernel_spec.proofs.steps.MapsAfterChange.{get_at, get_other}
use Rattle.kernel_spec.proofs.steps.OthersTableIsSeen.{Tells, Spares, OtherNames, open_offset, target_offset}
use Rattle.kernel_spec.proofs.steps.NamesAreChosenAgain.{named_at, named_copy}
use Rattle.kernel_spec.proofs.steps.ChangeIsSeen.{view_changed}
use Rattle.kernel_spec.proofs.rows.RowParts.{dup_at}

-- ---- a table with more descriptors tells what p's descriptors were on

module _ (s t : State) (p : ℕ) (l m : Live) (is : live s p ≡ Some l) (wider : (e g : ℕ) → get l.descriptors e ≡ Some g → get m.descriptors e ≡ Some g)
    (same_files : (g : ℕ) → OtherNames s p g → get t.files g ≡ get s.files g) (same_opened : (e g : ℕ) → get l.descriptors e ≡ Some g → get t.files g ≡ get s.files g) where
  abbrev table : Descriptors
  table = numbered t m

  file_here : (e g : ℕ) → file_at s p e ≡ Some g → get l.descriptors e ≡ Some g
  file_here e g h = sym (ap (λ (o : Option Live). file_of o e) is) ∙ h

  offset_shown : (n : ℕ) (x : Target) → shown_offset n (rename table (record { file = 0; read = true; write = true; shown = show t x })).shown ≡ target_offset n x
  offset_shown n Terminal = refl
  offset_shown n (File program offset) = refl
  offset_shown n (Pipe_end j e) = refl

  offset_on : (g n : ℕ) (o : Option OpenFile) → offset_left n (option_map (rename table) (descriptor_on t g o)) ≡ open_offset n o
  offset_on g n None = refl
  offset_on g n (Some x) = offset_shown n x.target

  pipe_shown : (j : ℕ) (x : Pipe) (y : Target) → pipe_of_target y ≡ Some j
      → shown_pipe x (rename table (record { file = 0; read = true; write = true; shown = show t y })).shown ≡ or_gone (get t.pipes j)
  pipe_shown j x Terminal e = let no : ⊥ = cc in absurd no
  pipe_shown j x (File program offset) e = let no : ⊥ = cc in absurd no
  pipe_shown j x (Pipe_end k end) e = let same : k ≡ j = cc in ap (λ (i : ℕ). or_gone (get t.pipes i)) same

  pipe_on : (g j : ℕ) (x : Pipe) (o : Option OpenFile) → pipe_of_open o ≡ Some j → pipe_left x (option_map (rename table) (descriptor_on t g o)) ≡ or_gone (get t.pipes j)
  pipe_on g j x None e = let no : ⊥ = cc in absurd no
  pipe_on g j x (Some y) e = pipe_shown j x y.target e

  pipe_case : (e j : ℕ) (x : Pipe) (o : Option ℕ) → get l.descriptors e ≡ o → pipe_of_file s o ≡ Some j
      → pipe_left x (option_map (rename table) (descriptor_at t (get m.descriptors e))) ≡ or_gone (get t.pipes j)
  pipe_case e j x None is_o h = let no : ⊥ = cc in absurd no
  pipe_case e j x (Some g) is_o h =
      ap (λ (o : Option ℕ). pipe_left x (option_map (rename table) (descriptor_at t o))) (wider e g is_o)
      ∙ pipe_on g j x (get t.files g) (ap pipe_of_open (same_opened e g is_o) ∙ h)

  pub wider_tells : Tells s t p (named table)
  wider_tells = record {
    offset = λ e g n other below h.
        ap (offset_left n) (named_at table e below ∙ ap (λ (o : Option ℕ). option_map (rename table) (descriptor_at t o)) (wider e g (file_here e g h)))
        ∙ offset_on g n (get t.files g);
    pipe = λ e j x other below h.
        ap (pipe_left x) (named_at table e below) ∙ pipe_case e j x (get l.descriptors e) refl (sym (ap (λ (o : Option Live). pipe_of_file s (file_of o e)) is) ∙ h);
  }

-- ---- dup

module _ (s : State) (p : ℕ) (old : Live) (was : get s.processes p ≡ Some (Alive old)) (c : Call) (j k f : ℕ) (below : j < NOFILE)
    (source : get old.descriptors j ≡ Some f) (unused : get old.descriptors k ≡ None) (x : Descriptor) (seen : (view_of s p old).descriptors j ≡ Some x)
    (pipes : FinMap nat_cmp Pipe) where
  abbrev pub duplicated : Live
  duplicated = record old { regs = with_a0 old.regs (word (pos k)); call = None; descriptors = insert old.descriptors k f }

  abbrev pub after : State
  after = changed_state p duplicated s.files pipes s.console s.free s

  -- the table under the kernel's own numbers, with the pipes as they are after the step
  abbrev counted : Descriptors
  counted = numbered after old

  copied_at : (d : ℕ) (b : Bool) → descriptor_at after (cond b (Some f) (get old.descriptors d)) ≡ cond b (counted j) (counted d)
  copied_at d true = ap (descriptor_at after) (sym source)
  copied_at d false = refl

  copied : numbered after duplicated ≡ with_value counted k (counted j)
  copied = fun_ext (λ d. ap (descriptor_at after) (get_at old.descriptors k f d) ∙ copied_at d (nat_eq d k))

  module _ (more : one_more_on x.shown (named (numbered s old)) ≡ named counted) where
    next_table : with_copy k j (one_more_on x.shown (named (numbered s old))) ≡ named (numbered after duplicated)
    next_table = ap (with_copy k j) more ∙ named_copy counted k j below ∙ sym (ap named copied)

    pub dup_own : dup_at c (view_of s p old) j x (Some k) ≡ goes_on (Called c.number (pos k)) (view_of after p duplicated)
    unfolding view_of
    dup_own = ap (goes_on (Called c.number (pos k))) (view_changed s p old was (with_a0 old.regs (word (pos k))) old.image None old.killed
        (insert old.descriptors k f) s.files pipes s.console s.free (with_copy k j (one_more_on x.shown (named (numbered s old)))) next_table)

  module _ (spared : (i : ℕ) → ((e : ℕ) → e < NOFILE → pipe_at s p e ≢ Some i) → get pipes i ≡ get s.pipes i) where
    apart : (d g : ℕ) → get old.descriptors d ≡ Some g → d ≢ k
    apart d g e h = let i : get old.descriptors d ≡ get old.descriptors k = ap (get old.descriptors) h in let no : ⊥ = cc in no

    pub dup_tells : Tells s after p (named (numbered after duplicated))
    dup_tells = wider_tells s after p old duplicated (ap live_part was) (λ e g h. get_other old.descriptors k f e (apart e g h) ∙ h) (λ g other. refl) (λ e g h. refl)

    pub dup_spares : Spares s after p
    dup_spares = record { file = λ g other h. refl; pipe = λ i other h. spared i h; kinds = λ g other. refl }

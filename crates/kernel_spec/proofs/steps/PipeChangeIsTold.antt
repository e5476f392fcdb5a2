-- A step that changes pipes: p's table after it, and what it tells of the pipes.
use Rattle.kernel_spec.proofs.Prelude.{ℕ, ◌<◌, ◌∙◌, ◌≡◌, ◌≢◌, ap, change_pipes, change_shown, changed, Descriptors, File, file_at, get, Live, live, named, NOFILE, None, numbered, OpenFile, Option}
use Rattle.kernel_spec.proofs.Prelude.{option_map, or_gone, Pipe, pipe_at, Pipe_end, pipe_of_target, refl, rename, rename_shown, show, Shown_pipe, Some, State, sym, Target, Terminal}
use Rattle.kernel_spec.proofs.steps.SeenByParts.{file_of, pipe_of_file, pipe_of_open, offset_left, pipe_left, shown_offset, shown_pipe, descriptor_at, descriptor_on}
use Rattle.kernel_spec.proofs.steps.OthersTableIsSeen.{OtherNames, OtherHas, Tells, Spares, open_offset, target_offset, kind}
use Rattle.kernel_spec.proofs.steps.NamesAreChosenAgain.{named_at}

-- ---- a descriptor, where its open file stays and its pipe is now f of what it was

module _ (s t : State) (f : ℕ → Pipe → Pipe) where
  abbrev pub PipeBecame : ℕ → Type 0
  PipeBecame j = or_gone (get t.pipes j) ≡ f j (or_gone (get s.pipes j))

  shown_became : (x : Target) → ((j : ℕ) → pipe_of_target x ≡ Some j → PipeBecame j) → show t x ≡ change_shown f (show s x)
  shown_became Terminal h = refl
  shown_became (File program offset) h = refl
  shown_became (Pipe_end j e) h = λ i. Shown_pipe j e (h j refl i)

  open_became : (g : ℕ) (o : Option OpenFile) → ((j : ℕ) → pipe_of_open o ≡ Some j → PipeBecame j) → descriptor_on t g o ≡ changed f (descriptor_on s g o)
  open_became g None h = refl
  open_became g (Some x) h = λ i. Some (record { file = g; read = x.read; write = x.write; shown = shown_became x.target h i })

  pub became : (o : Option ℕ) → ((g : ℕ) → o ≡ Some g → get t.files g ≡ get s.files g) → ((j : ℕ) → pipe_of_file s o ≡ Some j → PipeBecame j) → descriptor_at t o ≡ changed f (descriptor_at s o)
  became None files pipes = refl
  became (Some g) files pipes = ap (descriptor_on t g) (files g refl) ∙ open_became g (get s.files g) pipes

-- ---- what p's table tells

module _ (s t : State) (p : ℕ) (l : Live) (is : live s p ≡ Some l) (f : ℕ → Pipe → Pipe)
    (files : (g : ℕ) → OtherNames s p g → get t.files g ≡ get s.files g)
    (pipes : (e j : ℕ) → OtherHas s p j → e < NOFILE → pipe_at s p e ≡ Some j → or_gone (get t.pipes j) ≡ f j (or_gone (get s.pipes j))) where
  abbrev table : Descriptors
  table = change_pipes f (numbered s l)

  file_here : (e g : ℕ) → file_at s p e ≡ Some g → get l.descriptors e ≡ Some g
  file_here e g h = sym (ap (λ (o : Option Live). file_of o e) is) ∙ h

  offset_shown : (n : ℕ) (x : Target) → shown_offset n (rename_shown table (change_shown f (show s x))) ≡ target_offset n x
  offset_shown n Terminal = refl
  offset_shown n (File program offset) = refl
  offset_shown n (Pipe_end j e) = refl

  offset_on : (g n : ℕ) (o : Option OpenFile) → offset_left n (option_map (rename table) (changed f (descriptor_on s g o))) ≡ open_offset n o
  offset_on g n None = refl
  offset_on g n (Some x) = offset_shown n x.target

  pipe_shown : (j : ℕ) (x : Pipe) (y : Target) → pipe_of_target y ≡ Some j → shown_pipe x (rename_shown table (change_shown f (show s y))) ≡ f j (or_gone (get s.pipes j))
  pipe_shown j x Terminal e = let no : ⊥ = cc in absurd no
  pipe_shown j x (File program offset) e = let no : ⊥ = cc in absurd no
  pipe_shown j x (Pipe_end k end) e = let same : k ≡ j = cc in ap (λ (i : ℕ). f i (or_gone (get s.pipes i))) same

  pipe_on : (g j : ℕ) (x : Pipe) (o : Option OpenFile) → pipe_of_open o ≡ Some j → pipe_left x (option_map (rename table) (changed f (descriptor_on s g o))) ≡ f j (or_gone (get s.pipes j))
  pipe_on g j x None e = let no : ⊥ = cc in absurd no
  pipe_on g j x (Some y) e = pipe_shown j x y.target e

  pipe_case : (j : ℕ) (x : Pipe) (o : Option ℕ) → pipe_of_file s o ≡ Some j → pipe_left x (option_map (rename table) (changed f (descriptor_at s o))) ≡ f j (or_gone (get s.pipes j))
  pipe_case j x None h = let no : ⊥ = cc in absurd no
  pipe_case j x (Some g) h = pipe_on g j x (get s.files g) h

  -- p's table as it was, with each pipe j as f j of what it was
  pub changed_tells : Tells s t p (named table)
  changed_tells = record {
    offset = λ e g n other below h.
        ap (offset_left n) (named_at table e below ∙ ap (λ (o : Option ℕ). option_map (rename table) (changed f (descriptor_at s o))) (file_here e g h))
        ∙ offset_on g n (get s.files g) ∙ ap (open_offset n) (sym (files g other));
    pipe = λ e j x other below h.
        ap (pipe_left x) (named_at table e below) ∙ pipe_case j x (get l.descriptors e) (sym (ap (λ (o : Option Live). pipe_of_file s (file_of o e)) is) ∙ h)
        ∙ sym (pipes e j other below h);
  }

  pub changed_spares : ((j : ℕ) → OtherHas s p j → ((e : ℕ) → e < NOFILE → pipe_at s p e ≢ Some j) → get t.pipes j ≡ get s.pipes j) → Spares s t p
  changed_spares others = record {
    file = λ g other h. files g other;
    pipe = others;
    kinds = λ g other. ap kind (files g other);
  }

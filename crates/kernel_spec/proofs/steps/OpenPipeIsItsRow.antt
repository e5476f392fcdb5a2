-- Open and pipe: they are the steps that their rows tell.
use Rattle.kernel_spec.proofs.Prelude.{ℕ, ◌++◌, ◌-◌, ◌<◌, ◌∙◌, ◌≡◌, ◌≢◌, Alive, ap, Bool, Call, Called, changed_state, cond, Descriptor, Descriptors, false, File, file_at, file_name, FinMap, fun_ext}
use Rattle.kernel_spec.proofs.Prelude.{get, goes_on, Image, insert, le_bytes, Live, live_part, named, nat_cmp, nat_eq, new_pipe, NOFILE, None, numbered, OpenFile, Option, or_gone, pipe_at, Pipe_end}
use Rattle.kernel_spec.proofs.Prelude.{pipe_name, pipe_of_target, pos, Reading, refl, show, Shown_pipe, shown_pipe_name, Some, State, sym, Target, Terminal, true, view_of, with_a0, with_descriptor}
use Rattle.kernel_spec.proofs.Prelude.{word, write_image, Writing}
use Rattle.kernel_spec.proofs.steps.SeenByParts.{file_of, pipe_of_file, pipe_of_open, descriptor_at, descriptor_on}
use Rattle.kernel_spec.proofs.steps.MapsAfterChange.{get_at, get_same, get_other}
use Rattle.kernel_spec.proofs.steps.OthersTableIsSeen.{OtherNames, Tells, Spares, kind}
use Rattle.kernel_spec.proofs.steps.DupIsItsRow.{wider_tells}
use Rattle.kernel_spec.proofs.steps.NewDescriptorsAreNamed.{named_new_alone, named_pair}
use Rattle.kernel_spec.proofs.steps.ChangeIsSeen.{view_changed}
use Rattle.kernel_spec.proofs.rows.RowParts.{open_at, piped}

-- no process names the open file
abbrev pub Unnamed : State → ℕ → Type 0
Unnamed s g = (q d : ℕ) → file_at s q d ≢ Some g

-- an open file under a new number leaves every other descriptor as it is
module _ (s t : State) where
  target_same : (x : Target) → ((j : ℕ) → pipe_of_target x ≡ Some j → or_gone (get t.pipes j) ≡ or_gone (get s.pipes j)) → show t x ≡ show s x
  target_same Terminal h = refl
  target_same (File program offset) h = refl
  target_same (Pipe_end j e) h = λ i. Shown_pipe j e (h j refl i)

  open_same : (g : ℕ) (o : Option OpenFile) → ((j : ℕ) → pipe_of_open o ≡ Some j → or_gone (get t.pipes j) ≡ or_gone (get s.pipes j)) → descriptor_on t g o ≡ descriptor_on s g o
  open_same g None h = refl
  open_same g (Some x) h = λ i. Some (record { file = g; read = x.read; write = x.write; shown = target_same x.target h i })

  pub place_same : (o : Option ℕ) → ((g : ℕ) → o ≡ Some g → get t.files g ≡ get s.files g)
      → ((j : ℕ) → pipe_of_file s o ≡ Some j → or_gone (get t.pipes j) ≡ or_gone (get s.pipes j)) → descriptor_at t o ≡ descriptor_at s o
  place_same None files pipes = refl
  place_same (Some g) files pipes = ap (descriptor_on t g) (files g refl) ∙ open_same g (get s.files g) pipes

named_file : (s : State) (g : ℕ) (o : Option OpenFile) (f : ℕ) → file_name (descriptor_on s g o) ≡ Some f → g ≡ f
named_file s g None f h = let no : ⊥ = cc in absurd no
named_file s g (Some x) f h = cc

pub file_named : (s : State) (o : Option ℕ) (f : ℕ) → file_name (descriptor_at s o) ≡ Some f → o ≡ Some f
file_named s None f h = let no : ⊥ = cc in absurd no
file_named s (Some g) f h = ap Some (named_file s g (get s.files g) f h)

-- ---- open

module _ (s : State) (p : ℕ) (old : Live) (was : get s.processes p ≡ Some (Alive old)) (c : Call) (k g : ℕ) (below : k < NOFILE) (unused : get old.descriptors k ≡ None) (unnamed : Unnamed s g)
    (read write : Bool) (target : Target) (no_pipe : shown_pipe_name (show s target) ≡ None) where
  abbrev pub opened : OpenFile
  opened = record { read = read; write = write; target = target }

  abbrev pub opener : Live
  opener = record old { regs = with_a0 old.regs (word (pos k)); call = None; descriptors = insert old.descriptors k g }

  abbrev pub after : State
  after = changed_state p opener (insert s.files g opened) s.pipes s.console s.free s

  mine : (d f : ℕ) → get old.descriptors d ≡ Some f → file_at s p d ≡ Some f
  mine d f h = ap (λ (o : Option Live). file_of o d) (ap live_part was) ∙ h

  not_new : (d f : ℕ) → get old.descriptors d ≡ Some f → f ≢ g
  not_new d f h e = unnamed p d (mine d f h ∙ ap Some e)

  fresh : (e : ℕ) → e < NOFILE → file_name (numbered s old e) ≢ Some g
  fresh e b h = unnamed p e (mine e g (file_named s (get old.descriptors e) g h))

  place_at : (d : ℕ) (b : Bool) → descriptor_at after (cond b (Some g) (get old.descriptors d)) ≡ cond b
      (Some (record { file = g; read = read; write = write; shown = show s target })) (numbered s old d)
  place_at d true = ap (descriptor_on after g) (get_same s.files g opened)
  place_at d false = place_same s after (get old.descriptors d) (λ f h. get_other s.files g opened f (not_new d f h)) (λ j h. refl)

  next_table : with_descriptor k (record { file = k; read = read; write = write; shown = show s target }) (named (numbered s old)) ≡ named (numbered after opener)
  next_table = named_new_alone (numbered s old) k g (ap (descriptor_at s) unused) fresh read write (show s target) no_pipe
      ∙ sym (ap named (fun_ext (λ d. ap (descriptor_at after) (get_at old.descriptors k g d) ∙ place_at d (nat_eq d k))))

  pub open_own : open_at c (view_of s p old) (Some k) (Some (read, write, show s target)) ≡ goes_on (Called c.number (pos k)) (view_of after p opener)
  unfolding view_of
  open_own = ap (goes_on (Called c.number (pos k)))
      (view_changed s p old was (with_a0 old.regs (word (pos k))) old.image None old.killed (insert old.descriptors k g) (insert s.files g opened) s.pipes s.console s.free
      (with_descriptor k (record { file = k; read = read; write = write; shown = show s target }) (named (numbered s old))) next_table)

  other_files : (f : ℕ) → OtherNames s p f → get after.files f ≡ get s.files f
  other_files f other = get_other s.files g opened f (λ e. unnamed other.0 other.1 (other.3 ∙ ap Some e))

  apart : (d f : ℕ) → get old.descriptors d ≡ Some f → d ≢ k
  apart d f e h = let i : get old.descriptors d ≡ get old.descriptors k = ap (get old.descriptors) h in let no : ⊥ = cc in no

  pub open_tells : Tells s after p (named (numbered after opener))
  open_tells = wider_tells s after p old opener (ap live_part was) (λ e f h. get_other old.descriptors k g e (apart e f h) ∙ h) other_files (λ e f h. get_other s.files g opened f (not_new e f h))

  pub open_spares : Spares s after p
  open_spares = record { file = λ f other h. other_files f other; pipe = λ j other h. refl; kinds = λ f other. ap kind (other_files f other) }

-- ---- pipe

module _ (s : State) (p : ℕ) (old : Live) (was : get s.processes p ≡ Some (Alive old)) (c : Call) (r w g h i : ℕ) (below_r : r < NOFILE)
    (below_w : w < NOFILE) (distinct : r ≢ w) (distinct_files : g ≢ h)
    (unused_r : get old.descriptors r ≡ None) (unused_w : get old.descriptors w ≡ None) (unnamed_g : Unnamed s g) (unnamed_h : Unnamed s h)
    (unnamed_i : (q d : ℕ) → pipe_at s q d ≢ Some i) where
  abbrev pub reader : OpenFile
  reader = record { read = true; write = false; target = Pipe_end i Reading }

  abbrev pub writer : OpenFile
  writer = record { read = false; write = true; target = Pipe_end i Writing }

  abbrev pub image_piped : Image
  image_piped = write_image old.image c.a0 (le_bytes 4 r ++ le_bytes 4 w)

  abbrev pub piper : Live
  piper = record old { regs = with_a0 old.regs (word (pos 0)); image = image_piped; call = None; descriptors = insert (insert old.descriptors r g) w h }

  abbrev pub files_piped : FinMap nat_cmp OpenFile
  files_piped = insert (insert s.files g reader) h writer

  abbrev pub after_pipe : State
  after_pipe = changed_state p piper files_piped (insert s.pipes i new_pipe) s.console (s.free - 1) s

  my_file : (d f : ℕ) → get old.descriptors d ≡ Some f → file_at s p d ≡ Some f
  my_file d f e = ap (λ (o : Option Live). file_of o d) (ap live_part was) ∙ e

  my_pipe : (d j : ℕ) → pipe_of_file s (get old.descriptors d) ≡ Some j → pipe_at s p d ≡ Some j
  my_pipe d j e = ap (λ (l : Option Live). pipe_of_file s (file_of l d)) (ap live_part was) ∙ e

  pub old_file : (f : ℕ) → f ≢ g → f ≢ h → get files_piped f ≡ get s.files f
  old_file f a b = get_other (insert s.files g reader) h writer f b ∙ get_other s.files g reader f a

  kept_file : (d f : ℕ) → get old.descriptors d ≡ Some f → get files_piped f ≡ get s.files f
  kept_file d f e = old_file f (λ q. unnamed_g p d (my_file d f e ∙ ap Some q)) (λ q. unnamed_h p d (my_file d f e ∙ ap Some q))

  kept_pipe : (d j : ℕ) → pipe_of_file s (get old.descriptors d) ≡ Some j → or_gone (get after_pipe.pipes j) ≡ or_gone (get s.pipes j)
  kept_pipe d j e = ap or_gone (get_other s.pipes i new_pipe j (λ q. unnamed_i p d (my_pipe d j e ∙ ap Some q)))

  the_pipe : or_gone (get after_pipe.pipes i) ≡ new_pipe
  the_pipe = ap or_gone (get_same s.pipes i new_pipe)

  pub reader_there : get files_piped g ≡ Some reader
  reader_there = get_other (insert s.files g reader) h writer g distinct_files ∙ get_same s.files g reader

  abbrev one_end : Option Descriptor
  one_end = Some (record { file = g; read = true; write = false; shown = Shown_pipe i Reading new_pipe })

  abbrev other_end : Option Descriptor
  other_end = Some (record { file = h; read = false; write = true; shown = Shown_pipe i Writing new_pipe })

  pipe_place : (d : ℕ) (a b : Bool) → descriptor_at after_pipe (cond a (Some h) (cond b (Some g) (get old.descriptors d))) ≡ cond a other_end (cond b one_end (numbered s old d))
  pipe_place d true b = ap (descriptor_on after_pipe h) (get_same (insert s.files g reader) h writer)
      ∙ (λ j. Some (record { file = h; read = false; write = true; shown = Shown_pipe i Writing (the_pipe j) }))
  pipe_place d false true = ap (descriptor_on after_pipe g) reader_there ∙ (λ j. Some (record { file = g; read = true; write = false; shown = Shown_pipe i Reading (the_pipe j) }))
  pipe_place d false false = place_same s after_pipe (get old.descriptors d) (kept_file d) (kept_pipe d)

  pub found_at : (d : ℕ) → get piper.descriptors d ≡ cond (nat_eq d w) (Some h) (cond (nat_eq d r) (Some g) (get old.descriptors d))
  found_at d = get_at (insert old.descriptors r g) w h d ∙ ap (cond (nat_eq d w) (Some h)) (get_at old.descriptors r g d)

  pipe_name_of : (o : Option ℕ) → pipe_name (descriptor_at s o) ≡ pipe_of_file s o
  pipe_name_of None = refl
  pipe_name_of (Some f) = of_open (get s.files f)
    where
      of_target : (y : Target) → shown_pipe_name (show s y) ≡ pipe_of_target y
      of_target Terminal = refl
      of_target (File program n) = refl
      of_target (Pipe_end j e) = refl

      of_open : (x : Option OpenFile) → pipe_name (descriptor_on s f x) ≡ pipe_of_open x
      of_open None = refl
      of_open (Some x) = of_target x.target

  abbrev shown_table : Descriptors
  shown_table = with_descriptor w (record { file = w; read = false; write = true; shown = Shown_pipe r Writing new_pipe })
      (with_descriptor r (record { file = r; read = true; write = false; shown = Shown_pipe r Reading new_pipe }) (named (numbered s old)))

  pipe_table : shown_table ≡ named (numbered after_pipe piper)
  pipe_table =
      named_pair (numbered s old) r w g h i below_r below_w distinct distinct_files (ap (descriptor_at s) unused_r) (ap (descriptor_at s) unused_w)
      (λ e b q. unnamed_g p e (my_file e g (file_named s (get old.descriptors e) g q)))
      (λ e b q. unnamed_h p e (my_file e h (file_named s (get old.descriptors e) h q)))
      (λ e b q. unnamed_i p e (my_pipe e i (sym (pipe_name_of (get old.descriptors e)) ∙ q)))
      new_pipe
      ∙ sym (ap named (fun_ext (λ d. ap (descriptor_at after_pipe) (found_at d) ∙ pipe_place d (nat_eq d w) (nat_eq d r))))

  pub pipe_own : piped c (view_of s p old) r (Some w) ≡ goes_on (Called c.number (pos 0)) (view_of after_pipe p piper)
  unfolding view_of
  pipe_own = ap (goes_on (Called c.number (pos 0)))
      (view_changed s p old was (with_a0 old.regs (word (pos 0))) image_piped None old.killed (insert (insert old.descriptors r g) w h) files_piped
      (insert s.pipes i new_pipe) s.console (s.free - 1) shown_table pipe_table)

  others_file : (f : ℕ) → OtherNames s p f → get after_pipe.files f ≡ get s.files f
  others_file f other = old_file f (λ e. unnamed_g other.0 other.1 (other.3 ∙ ap Some e)) (λ e. unnamed_h other.0 other.1 (other.3 ∙ ap Some e))

  in_use_apart : (d f k : ℕ) → get old.descriptors k ≡ None → get old.descriptors d ≡ Some f → d ≢ k
  in_use_apart d f k u e q = let z : get old.descriptors d ≡ get old.descriptors k = ap (get old.descriptors) q in let no : ⊥ = cc in no

  pub pipe_tells : Tells s after_pipe p (named (numbered after_pipe piper))
  pipe_tells = wider_tells s after_pipe p old piper (ap live_part was)
      (λ e f q. get_other (insert old.descriptors r g) w h e (in_use_apart e f w unused_w q) ∙ get_other old.descriptors r g e (in_use_apart e f r unused_r q) ∙ q)
      others_file (λ e f q. kept_file e f q)

  pub pipe_spares : Spares s after_pipe p
  pipe_spares = record {
    file = λ f other q. others_file f other;
    pipe = λ j other q. get_other s.pipes i new_pipe j (λ e. unnamed_i other.0 other.1 (other.3 ∙ ap Some e));
    kinds = λ f other. ap kind (others_file f other);
  }

-- A process's own table tells what its descriptors are on.
use Rattle.kernel_spec.proofs.Prelude.{ℕ, ◌<◌, ◌||◌, ◌∙◌, ◌≡◌, ◌≢◌, ap, Bool, child_of, cond, Descriptors, File, file_at, get, gone_with, is_this, keys, Live, live, lt-ltb, named, NOFILE, None}
use Rattle.kernel_spec.proofs.Prelude.{numbered, OpenFile, Option, option_map, or_gone, Own, Pipe, Pipe_end, pipe_of_target, Quiet, refl, rename, rename_shown, same_Some, seen, seen_children, show}
use Rattle.kernel_spec.proofs.Prelude.{Some, State, sym, Target, Terminal, View, view, view_of}
use Rattle.kernel_spec.proofs.steps.SeenByParts.{file_of, pipe_of_file, pipe_of_open, offset_left, pipe_left, shown_offset, shown_pipe, descriptor_at, descriptor_on}
use Rattle.kernel_spec.proofs.steps.OthersTableIsSeen.{open_offset, target_offset, kind, Tells, Spares, seen_table_is, kind_pipe}

shown_offset_is : (t : State) (names : Descriptors) (n : ℕ) (x : Target) → shown_offset n (rename_shown names (show t x)) ≡ target_offset n x
shown_offset_is t names n Terminal = refl
shown_offset_is t names n (File program offset) = refl
shown_offset_is t names n (Pipe_end pipe end) = refl

shown_pipe_is : (t : State) (names : Descriptors) (x : Pipe) (j : ℕ) (y : Target) → pipe_of_target y ≡ Some j → shown_pipe x (rename_shown names (show t y)) ≡ or_gone (get t.pipes j)
shown_pipe_is t names x j Terminal e = let no : ⊥ = cc in absurd no
shown_pipe_is t names x j (File program offset) e = let no : ⊥ = cc in absurd no
shown_pipe_is t names x j (Pipe_end pipe end) e = let same : pipe ≡ j = cc in ap (λ (k : ℕ). or_gone (get t.pipes k)) same

module _ (s t : State) (p : ℕ) (l : Live) (is : live s p ≡ Some l) (kinds : (f : ℕ) → kind (get t.files f) ≡ kind (get s.files f)) where
  file_here : (e f : ℕ) → file_at s p e ≡ Some f → get l.descriptors e ≡ Some f
  file_here e f h = sym (ap (λ (o : Option Live). file_of o e) is) ∙ h

  offset_on : (f n : ℕ) (o : Option OpenFile) → offset_left n (option_map (rename (numbered t l)) (descriptor_on t f o)) ≡ open_offset n o
  offset_on f n None = refl
  offset_on f n (Some x) = shown_offset_is t (numbered t l) n x.target

  pipe_on : (f j : ℕ) (x : Pipe) (o : Option OpenFile) → pipe_of_open o ≡ Some j → pipe_left x (option_map (rename (numbered t l)) (descriptor_on t f o)) ≡ or_gone (get t.pipes j)
  pipe_on f j x None e = let no : ⊥ = cc in absurd no
  pipe_on f j x (Some y) e = shown_pipe_is t (numbered t l) x j y.target e

  in_range : (e : ℕ) → e < NOFILE → named (numbered t l) e ≡ option_map (rename (numbered t l)) (numbered t l e)
  unfolding named
  in_range e below = ap (λ (b : Bool). cond b (option_map (rename (numbered t l)) (numbered t l e)) None) (lt-ltb e NOFILE below)

  pipe_case : (e j : ℕ) (x : Pipe) (o : Option ℕ) → pipe_of_file s o ≡ Some j → pipe_left x (option_map (rename (numbered t l)) (descriptor_at t o)) ≡ or_gone (get t.pipes j)
  pipe_case e j x None h = let no : ⊥ = cc in absurd no
  pipe_case e j x (Some f) h = pipe_on f j x (get t.files f) (sym (kind_pipe (get t.files f)) ∙ ap pipe_of_open (kinds f) ∙ kind_pipe (get s.files f) ∙ h)

  -- the table that p has in t tells what p's descriptors in s are on
  pub own_table_tells : Tells s t p (named (numbered t l))
  own_table_tells = record {
    offset = λ e f n other below h. ap (offset_left n)
        (in_range e below ∙ ap (λ (o : Option ℕ). option_map (rename (numbered t l)) (descriptor_at t o)) (file_here e f h)) ∙ offset_on f n (get t.files f);
    pipe = λ e j x other below h. ap (pipe_left x) (in_range e below) ∙ pipe_case e j x (get l.descriptors e) (sym (ap (λ (o : Option Live). pipe_of_file s (file_of o e)) is) ∙ h);
  }

-- ---- what has to be known of a step, for every other process to see of it only that

pub record Leaves (s t : State) (v : View) (o : Own) : Type 0 where
  pub tells : Tells s t v.pid o.left.descriptors
  pub spares : Spares s t v.pid
  -- another process keeps all but its parent, and is marked where the step marked it
  pub keeps : (q : ℕ) (m : Live) → q ≢ v.pid → live s q ≡ Some m → (parent : Option ℕ) × (live t q ≡ Some (record m { killed = m.killed || is_this q o.marked; parent = parent }))
  pub children : (q : ℕ) (m : Live) → q ≢ v.pid → live s q ≡ Some m → (r : ℕ) → child_of q (get t.processes r) ≡ seen_children (gone_with o.answer) v (view_of s q m) r
  pub pids : keys t.processes ≡ o.left.pids
  pub console : t.console ≡ o.left.console
  pub next_pid : t.next_pid ≡ o.left.next_pid
  pub free : t.free ≡ o.left.free
  pub clock : t.clock ≡ s.clock
  pub programs : t.programs ≡ s.programs

module _ (s t : State) (v : View) (o : Own) (h : Leaves s t v o) where
  sees : (q : ℕ) (m : Live) (apart : q ≢ v.pid) (is : live s q ≡ Some m)
      → view_of t q (record m { killed = m.killed || is_this q o.marked; parent = (h.keeps q m apart is).0 }) ≡ seen s v o (view_of s q m)
  unfolding view_of seen
  sees q m apart is = λ i. record {
    pid = q;
    regs = m.regs;
    image = m.image;
    call = m.call;
    killed = m.killed || is_this q o.marked;
    descriptors = sym (seen_table_is s t v.pid q o.left.descriptors h.tells h.spares m is apart) i;
    children = λ r. h.children q m apart is r i;
    console = h.console i;
    pids = h.pids i;
    clock = h.clock i;
    next_pid = h.next_pid i;
    free = h.free i;
    programs = h.programs i;
  }

  quiet_at : (q : ℕ) (w : View) (apart : q ≢ v.pid) (m : Option Live) → live s q ≡ m → option_map (view_of s q) m ≡ Some w → view t q ≡ Some (seen s v o w)
  quiet_at q w apart None is e = let no : ⊥ = cc in absurd no
  quiet_at q w apart (Some m) is e =
      ap (option_map (view_of t q)) ((h.keeps q m apart is).1)
      ∙ ap Some (sees q m apart is)
      ∙ ap (λ (u : View). Some (seen s v o u)) (same_Some (view_of s q m) w e)

  pub quiet_from : Quiet s v o t
  quiet_from = λ q w apart is. quiet_at q w apart (live s q) refl is

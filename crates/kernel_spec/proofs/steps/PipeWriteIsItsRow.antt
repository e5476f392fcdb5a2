-- One pipe changes, and a write to a pipe.
use Rattle.kernel_spec.proofs.Prelude.{ℕ, ℤ, ◌+◌, ◌-◌, ◌∙◌, ◌≡◌, ap, Blocked, Bool, c_int, Call, Called, change_pipe, changed_state, cond, done, done_at, End, false, fit, goes_on, Image, in_use}
use Rattle.kernel_spec.proofs.Prelude.{insert, least_on_file, Live, live_part, lt-ltb, minus_one, named, nat_eq, nat_le, next_bytes, NOFILE, None, not, numbered, OnPipe, OpenFile, Option, option_map}
use Rattle.kernel_spec.proofs.Prelude.{or_gone, Pipe, pipe_at, pos, readable, refl, Registers, rename, Shown_pipe, Some, State, sym, true, unwrap_or, View, view_of, waits, with_a0, with_more, word}
use Rattle.kernel_spec.proofs.Prelude.{write}
use Rattle.kernel_spec.proofs.steps.SeenByParts.{pipe_of_file, file_of, pipe_of_open, descriptor_at, descriptor_on}
use Rattle.kernel_spec.proofs.steps.MapsAfterChange.{get_other}
use Rattle.kernel_spec.proofs.steps.OthersTableIsSeen.{Spares}
use Rattle.kernel_spec.proofs.steps.OnePipeChanges.{numbered_set, named_change}
use Rattle.kernel_spec.proofs.steps.ChangeIsSeen.{view_changed}
use Rattle.kernel_spec.proofs.rows.RowParts.{write_on, write_to, write_pipe, unless_nothing, moving, unless, length_of_int}
use Rattle.kernel_spec.proofs.rows.RowsByParts.{write_same}

module _ (s : State) (p : ℕ) (old : Live) (d i k : ℕ) (end : End) (x : Pipe) (on : OnPipe s p old d i k end x) where
  -- as p sees it
  pub the_descriptor : (view_of s p old).descriptors d
      ≡ Some (record { file = unwrap_or (least_on_file (numbered s old) on.file) on.file; read = on.read; write = on.write; shown = Shown_pipe k end x })
  unfolding view_of named
  the_descriptor =
      ap (λ (b : Bool). cond b (option_map (rename (numbered s old)) (numbered s old d)) None) (lt-ltb d NOFILE on.below)
      ∙ ap (λ (o : Option ℕ). option_map (rename (numbered s old)) (descriptor_at s o)) on.named_file
      ∙ ap (λ (o : Option OpenFile). option_map (rename (numbered s old)) (descriptor_on s on.file o)) on.opened
      ∙ (λ j. Some (record {
        file = unwrap_or (least_on_file (numbered s old) on.file) on.file;
        read = on.read;
        write = on.write;
        shown = Shown_pipe (unwrap_or (on.names j) i) end (or_gone (on.pipe j));
      }))

  on_pipe : pipe_at s p d ≡ Some i
  on_pipe = ap (λ (l : Option Live). pipe_of_file s (file_of l d)) (ap live_part on.was) ∙ ap (pipe_of_file s) on.named_file ∙ ap pipe_of_open on.opened

  -- the pipe is y now, and p has these registers, this image and this call
  module _ (y : Pipe) (r : Registers) (image : Image) (c : Option Call) where
    abbrev pub pipe_live : Live
    pipe_live = record old { regs = r; image = image; call = c }

    abbrev pub pipe_state : State
    pipe_state = changed_state p pipe_live s.files (insert s.pipes i y) s.console s.free s

    next_table : change_pipe k y (named (numbered s old)) ≡ named (numbered pipe_state pipe_live)
    next_table = sym (ap named (numbered_set s i y old) ∙ named_change (numbered s old) i k y on.names)

    pub piped_view : ◌≡◌ {A = View} (record (view_of s p old) { regs = r; image = image; call = c; descriptors = change_pipe k y (view_of s p old).descriptors }) (view_of pipe_state p pipe_live)
    unfolding view_of
    piped_view = view_changed s p old on.was r image c old.killed old.descriptors s.files (insert s.pipes i y) s.console s.free (change_pipe k y (named (numbered s old))) next_table

    pub spares_others : Spares s pipe_state p
    spares_others = record {
      file = λ g other h. refl;
      pipe = λ j other h. get_other s.pipes i y j (λ e. h d on.below (on_pipe ∙ sym (ap Some e)));
      kinds = λ g other. refl;
    }

-- ---- write

module _ (s : State) (p : ℕ) (old : Live) (d i k : ℕ) (end : End) (x : Pipe) (on : OnPipe s p old d i k end x) (c : Call) (n : ℕ)
    (fd : c_int c.a0 ≡ pos d) (writes : on.write ≡ true) (count : c_int c.a2 ≡ pos n) (some : nat_eq n 0 ≡ false) (room : readable old.image c.a1 n ≡ true) where
  abbrev pub moved : ℕ
  moved = c.moved + fit x (n - c.moved)

  abbrev pub pipe_written : Pipe
  pipe_written = with_more (next_bytes c (view_of s p old) (fit x (n - c.moved))) x

  pub write_own : write c (view_of s p old) ≡ write_pipe c (view_of s p old) k x n
  unfolding view_of
  write_own =
      write_same c (view_of s p old)
      ∙ ap (λ (z : ℤ). write_on c (view_of s p old) (in_use (view_of s p old) z)) fd
      ∙ ap (write_on c (view_of s p old)) (the_descriptor s p old d i k end x on)
      ∙ ap (λ (b : Bool). unless (not b) c (view_of s p old)
      (λ _. moving c (view_of s p old) (readable old.image c.a1 (length_of_int (c_int c.a2))) (c_int c.a2)
      (λ m. write_to c (view_of s p old) m (Shown_pipe k end x)))) writes
      ∙ ap (λ (z : ℤ). moving c (view_of s p old) (readable old.image c.a1 (length_of_int z)) z (λ m. write_to c (view_of s p old) m (Shown_pipe k end x))) count
      ∙ ap (λ (b : Bool). unless_nothing b c (view_of s p old) (λ _. unless (not (readable old.image c.a1 n)) c (view_of s p old) (λ _. write_pipe c (view_of s p old) k x n))) some
      ∙ ap (λ (b : Bool). unless (not b) c (view_of s p old) (λ _. write_pipe c (view_of s p old) k x n)) room

  abbrev pub table_written : View
  table_written = record (view_of s p old) { descriptors = change_pipe k pipe_written (view_of s p old).descriptors }

  -- nobody reads any more
  pub write_broken : nat_eq x.readers 0 ≡ true → write c (view_of s p old) ≡ done c minus_one (view_of s p old)
  write_broken none = write_own ∙ ap (λ (b : Bool). unless b c (view_of s p old) (λ _. done_at c n moved table_written)) none

  -- all bytes are in
  pub write_ends : nat_eq x.readers 0 ≡ false → nat_le n moved ≡ true → write c (view_of s p old) ≡ done c (pos n) table_written
  write_ends read over =
      write_own ∙ ap (λ (b : Bool). unless b c (view_of s p old) (λ _. done_at c n moved table_written)) read
      ∙ ap (λ (b : Bool). cond b (done c (pos n) table_written) (waits c moved table_written)) over

  -- some aren't yet
  pub write_goes_on : nat_eq x.readers 0 ≡ false → nat_le n moved ≡ false → write c (view_of s p old) ≡ waits c moved table_written
  write_goes_on read over =
      write_own ∙ ap (λ (b : Bool). unless b c (view_of s p old) (λ _. done_at c n moved table_written)) read
      ∙ ap (λ (b : Bool). cond b (done c (pos n) table_written) (waits c moved table_written)) over

  pub write_done : nat_eq x.readers 0 ≡ false → nat_le n moved ≡ true
      → write c (view_of s p old) ≡ goes_on (Called c.number (pos n))
      (view_of (pipe_state s p old d i k end x on pipe_written (with_a0 old.regs (word (pos n))) old.image None) p
      (pipe_live s p old d i k end x on pipe_written (with_a0 old.regs (word (pos n))) old.image None))
  unfolding view_of
  write_done read over =
      write_ends read over
      ∙ ap (goes_on (Called c.number (pos n))) (piped_view s p old d i k end x on pipe_written (with_a0 old.regs (word (pos n))) old.image None)

  pub write_waits : nat_eq x.readers 0 ≡ false → nat_le n moved ≡ false
      → write c (view_of s p old) ≡ goes_on (Blocked c.number)
      (view_of (pipe_state s p old d i k end x on pipe_written old.regs old.image (Some (record c { moved = moved }))) p
      (pipe_live s p old d i k end x on pipe_written old.regs old.image (Some (record c { moved = moved }))))
  unfolding view_of
  write_waits read over =
      write_goes_on read over
      ∙ ap (goes_on (Blocked c.number)) (piped_view s p old d i k end x on pipe_written old.regs old.image (Some (record c { moved = moved })))

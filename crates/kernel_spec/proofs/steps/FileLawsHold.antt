-- The laws of the rows on pipes and programs' files, and of those that open a file or make a pipe.
use Rattle.kernel_spec.proofs.Prelude.{ℕ, ℤ, ◌++◌, ◌-◌, ◌<◌, ◌∙◌, ◌≡◌, ◌≢◌, After, Alive, Answer, ap, Blocked, Bool, c_int, Call, Called, change_pipe, changed_state, cond, done, End, eqb_tells, false}
use Rattle.kernel_spec.proofs.Prelude.{File, file_at, filed_state, FinMap, get, goes_on, gone_with, has_bytes, Image, in_call, in_use, inl, inr, insert, IsBuffer, le_bytes, least_on_file, length}
use Rattle.kernel_spec.proofs.Prelude.{Live, live_part, minus_one, named, nat_cmp, new_pipe, NobodyHas, NobodyNames, NOFILE, None, not, now_moved, numbered, OnPipe, OpenFile, Option, Own, own_state}
use Rattle.kernel_spec.proofs.Prelude.{Pipe, Pipe_end, pipe_of_target, piped_state, PipeReadLaw, PipeWriteLaw, pos, read, Reading, refl, Registers, same_Some, show, Shown_pipe, shown_pipe_name, Some}
use Rattle.kernel_spec.proofs.Prelude.{State, subst, sym, take, Target, Terminal, there, true, unwrap_or, View, view_of, waits, with_a0, with_answer, with_bytes, with_named, without_first, word}
use Rattle.kernel_spec.proofs.Prelude.{writable, writable_now, write, write_image, Writing}
use Rattle.kernel_spec.proofs.steps.SeenByParts.{pipe_of_file, pipe_of_open}
use Rattle.kernel_spec.specs.steps.Cases.{written}
use Rattle.kernel_spec.proofs.steps.NamesAreChosenAgain.{name_of_file}
use Rattle.kernel_spec.proofs.steps.MapsAfterChange.{get_same, get_other}
use Rattle.kernel_spec.proofs.steps.TableTells.{own_table_tells}
use Rattle.kernel_spec.proofs.steps.StateAfterIsTold.{OldOrNew}
use Rattle.kernel_spec.proofs.steps.ChangeIsTold.{after_same_files, after_changed, mine_before}
use Rattle.kernel_spec.proofs.steps.AloneLawsHold.{answer, waiting, by_own}
use Rattle.kernel_spec.proofs.rows.RowParts.{read_on, read_from, read_pipe, read_file, moving, unless, unless_nothing, length_of_int, open_at, piped}
use Rattle.kernel_spec.proofs.rows.Settled.{now-writable, counted-settled}
use Rattle.kernel_spec.proofs.rows.RowsByParts.{read_same}
use Rattle.kernel_spec.proofs.rows.PartLaws.{FileReadPart, OpenPart, PipePart}
use Rattle.kernel_spec.proofs.steps.PipeWriteIsItsRow as pipes
use Rattle.kernel_spec.proofs.steps.FileReadIsItsRow as files
use Rattle.kernel_spec.proofs.steps.OpenPipeIsItsRow as news

-- ---- a pipe that p is on is y now

module _ (s : State) (p : ℕ) (l : Live) (d i k : ℕ) (end : End) (x : Pipe) (on : OnPipe s p l d i k end x) (y : Pipe) (r : Registers) (image : Image) (c : Option Call) where
  pub piped_after : (a : Answer) → gone_with a ≡ None → (o : Own) → o ≡ goes_on a (view_of (pipes.pipe_state s p l d i k end x on y r image c) p (pipes.pipe_live s p l d i k end x on y r image c))
      → After s p l o (pipes.pipe_state s p l d i k end x on y r image c)
  unfolding view_of
  piped_after a stays o is =
      by_own s (pipes.pipe_state s p l d i k end x on y r image c) (view_of s p l) o
      (goes_on a (view_of (pipes.pipe_state s p l d i k end x on y r image c) p (pipes.pipe_live s p l d i k end x on y r image c))) is
      (after_same_files s p l on.was r image c l.killed s.files (insert s.pipes i y) s.console s.free (λ f. refl) a stays
      (named (numbered (pipes.pipe_state s p l d i k end x on y r image c) (pipes.pipe_live s p l d i k end x on y r image c)))
      (own_table_tells s (pipes.pipe_state s p l d i k end x on y r image c) p l (ap live_part on.was) (λ f. refl))
      (pipes.spares_others s p l d i k end x on y r image c))

-- ---- read

module _ (s : State) (p : ℕ) (l : Live) (c : Call) (d i k n : ℕ) (end : End) (x : Pipe) (on : OnPipe s p l d i k end x) (reads : on.read ≡ true)
    (fd : c_int c.a0 ≡ pos d) (buffer : IsBuffer c (writable_now l.image c.a1) n) where
  pub read_is : read c (view_of s p l) ≡ read_pipe c (view_of s p l) k x n
  unfolding view_of
  read_is =
      read_same c (view_of s p l) (counted-settled l.image c.a1 n (c_int c.a2) buffer.0 buffer.2)
      ∙ ap (λ (z : ℤ). read_on c (view_of s p l) (in_use (view_of s p l) z)) fd
      ∙ ap (read_on c (view_of s p l)) (pipes.the_descriptor s p l d i k end x on)
      ∙ ap (λ (b : Bool). unless (not b) c (view_of s p l)
      (λ _. moving c (view_of s p l) (writable l.image c.a1 (length_of_int (c_int c.a2))) (c_int c.a2)
      (λ m. read_from c (view_of s p l) m (unwrap_or (least_on_file (numbered s l) on.file) on.file) (Shown_pipe k end x)))) reads
      ∙ ap (λ (z : ℤ). moving c (view_of s p l) (writable l.image c.a1 (length_of_int z)) z
      (λ m. read_from c (view_of s p l) m (unwrap_or (least_on_file (numbered s l) on.file) on.file) (Shown_pipe k end x))) buffer.0
      ∙ ap (λ (b : Bool). unless_nothing b c (view_of s p l) (λ _. unless (not (writable l.image c.a1 n)) c (view_of s p l) (λ _. read_pipe c (view_of s p l) k x n))) buffer.1
      ∙ ap (λ (b : Bool). unless (not b) c (view_of s p l) (λ _. read_pipe c (view_of s p l) k x n)) (now-writable l.image c.a1 n buffer.2)

  abbrev taken_view : View
  taken_view = record (view_of s p l) { image = write_image l.image c.a1 (take (there x n) x.bytes); descriptors = change_pipe k (without_first (there x n) x) (view_of s p l).descriptors }

  pub read_takes : has_bytes x ≡ true → After s p l (read c (view_of s p l))
      (piped_state p (with_answer (pos (there x n)) (with_bytes c.a1 (take (there x n) x.bytes) l)) i (without_first (there x n) x) s)
  unfolding view_of
  read_takes bytes =
      piped_after s p l d i k end x on (without_first (there x n) x) (with_a0 l.regs (word (pos (there x n))))
      (write_image l.image c.a1 (take (there x n) x.bytes)) None (Called c.number (pos (there x n))) refl (read c (view_of s p l))
      (read_is ∙ ap (λ (b : Bool). cond (not b) (waits c 0 (view_of s p l)) (done c (pos (there x n)) taken_view)) bytes
      ∙ ap (goes_on (Called c.number (pos (there x n))))
      (pipes.piped_view s p l d i k end x on (without_first (there x n) x) (with_a0 l.regs (word (pos (there x n))))
      (write_image l.image c.a1 (take (there x n) x.bytes)) None))

  pub read_waits : has_bytes x ≡ false → After s p l (read c (view_of s p l)) (own_state p (in_call (record c { moved = 0 }) l) s)
  unfolding view_of
  read_waits none = by_own s (own_state p (in_call (record c { moved = 0 }) l) s) (view_of s p l) (read c (view_of s p l)) (waits c 0 (view_of s p l))
      (read_is ∙ ap (λ (b : Bool). cond (not b) (waits c 0 (view_of s p l)) (done c (pos (there x n)) taken_view)) none)
      (waiting s p l c 0 l.image s.console s.free on.was)

pub pipe_read : PipeReadLaw
pipe_read s p l c d i k n end x on reads fd buffer = (read_takes s p l c d i k n end x on reads fd buffer, read_waits s p l c d i k n end x on reads fd buffer)

-- ---- write

pub pipe_write : PipeWriteLaw
unfolding view_of
pipe_write s p l c d i k n end x on writes fd buffer = (
  λ broken. by_own s (own_state p (with_answer minus_one l) s) (view_of s p l) (write c (view_of s p l)) (done c minus_one (view_of s p l))
      (pipes.write_broken s p l d i k end x on c n fd writes buffer.0 buffer.1 buffer.2 broken)
      (answer s p l c minus_one l.image s.console s.free on.was),
  λ read over. piped_after s p l d i k end x on (written c l x n) (with_a0 l.regs (word (pos n))) l.image None (Called c.number (pos n)) refl (write c (view_of s p l))
      (pipes.write_done s p l d i k end x on c n fd writes buffer.0 buffer.1 buffer.2 read over),
  λ read over. piped_after s p l d i k end x on (written c l x n) l.regs l.image (Some (record c { moved = now_moved c x n })) (Blocked c.number) refl (write c (view_of s p l))
      (pipes.write_waits s p l d i k end x on c n fd writes buffer.0 buffer.1 buffer.2 read over),
)

-- ---- a program's file

pub file_read : FileReadPart
unfolding view_of
file_read s p l c d f program offset r w bytes was below named_file opened =
    by_own s (files.after s p l was c d f program offset r w bytes below named_file opened) (view_of s p l) (read_file c (view_of s p l) (name_of_file s l f) bytes)
    (goes_on (Called c.number (pos (length bytes))) (view_of (files.after s p l was c d f program offset r w bytes below named_file opened) p
    (files.read_live s p l was c d f program offset r w bytes below named_file opened)))
    (files.file_read_own s p l was c d f program offset r w bytes below named_file opened)
    (after_same_files s p l was (with_a0 l.regs (word (pos (length bytes)))) (write_image l.image c.a1 bytes) None l.killed
    (insert s.files f (files.file_after s p l was c d f program offset r w bytes below named_file opened)) s.pipes s.console s.free
    (files.kinds_stay s p l was c d f program offset r w bytes below named_file opened) (Called c.number (pos (length bytes))) refl
    (named (numbered (files.after s p l was c d f program offset r w bytes below named_file opened) (files.read_live s p l was c d f program offset r w bytes below named_file opened)))
    (own_table_tells s (files.after s p l was c d f program offset r w bytes below named_file opened) p l (ap live_part was)
    (files.kinds_stay s p l was c d f program offset r w bytes below named_file opened))
    (files.spares s p l was c d f program offset r w bytes below named_file opened))

-- ---- open

shows_no_pipe : (s : State) (x : Target) → pipe_of_target x ≡ None → shown_pipe_name (show s x) ≡ None
shows_no_pipe s Terminal h = refl
shows_no_pipe s (File program offset) h = refl
shows_no_pipe s (Pipe_end j e) h = let no : ⊥ = cc in absurd no

module _ (s : State) (p : ℕ) (l : Live) (c : Call) (k f : ℕ) (reads writes : Bool) (target : Target) (was : get s.processes p ≡ Some (Alive l))
    (below : k < NOFILE) (unused : get l.descriptors k ≡ None)
    (nobody : NobodyNames s f) (no_pipe : pipe_of_target target ≡ None) where
  abbrev file_opened : OpenFile
  file_opened = record { read = reads; write = writes; target = target }

  abbrev opens : State
  opens = filed_state p (with_answer (pos k) (with_named k f l)) f file_opened s

  open_keep : (d g h : ℕ) → get l.descriptors d ≡ Some g → get (insert l.descriptors k f) d ≡ Some h → g ≡ h
  open_keep d g h a b = elim (eqb_tells d k) [
    | inl e ↦ let n : None ≡ Some g = sym unused ∙ ap (get l.descriptors) (sym e.1) ∙ a in let no : ⊥ = cc in absurd no
    | inr e ↦ same_Some g h (sym a ∙ sym (get_other l.descriptors k f d e.1) ∙ b)
  ]

  open_targets : (q d g j : ℕ) → file_at s q d ≡ Some g → pipe_of_open (get (insert s.files f file_opened) g) ≡ Some j → pipe_of_open (get s.files g) ≡ Some j
  open_targets q d g j a b = ap pipe_of_open (sym (get_other s.files f file_opened g (λ e. nobody q d (a ∙ ap Some e)))) ∙ b

  new_there : (j : ℕ) → pipe_of_file opens (Some f) ≡ Some j → ⊥
  new_there j h = let e : None ≡ Some j = sym no_pipe ∙ ap pipe_of_open (sym (get_same s.files f file_opened)) ∙ h in let no : ⊥ = cc in no

  open_from : (d g : ℕ) → get (insert l.descriptors k f) d ≡ Some g → OldOrNew s p opens g
  open_from d g h = elim (eqb_tells d k) [
    | inl e ↦
        let same : f ≡ g = same_Some f g (sym (get_same l.descriptors k f) ∙ ap (get (insert l.descriptors k f)) (sym e.1) ∙ h) in
        inr (subst (λ (n : ℕ). NobodyNames s n) same nobody, λ j x. absurd (new_there j (ap (λ (n : ℕ). pipe_of_file opens (Some n)) same ∙ x)))
    | inr e ↦ inl (d, mine_before s p l was l.regs l.image l.call l.killed l.descriptors s.files s.pipes s.console s.free d ∙ sym (get_other l.descriptors k f d e.1) ∙ h)
  ]

  open_after : After s p l (open_at c (view_of s p l) (Some k) (Some (reads, writes, show s target))) opens
  unfolding view_of
  open_after =
      by_own s opens (view_of s p l) (open_at c (view_of s p l) (Some k) (Some (reads, writes, show s target)))
      (goes_on (Called c.number (pos k)) (view_of opens p (with_answer (pos k) (with_named k f l))))
      (news.open_own s p l was c k f below unused nobody reads writes target (shows_no_pipe s target no_pipe))
      (after_changed s p l was (with_a0 l.regs (word (pos k))) l.image None l.killed (insert l.descriptors k f) (insert s.files f file_opened) s.pipes s.console s.free (Called c.number (pos k)) refl
      (named (numbered opens (with_answer (pos k) (with_named k f l))))
      (news.open_tells s p l was c k f below unused nobody reads writes target (shows_no_pipe s target no_pipe))
      (news.open_spares s p l was c k f below unused nobody reads writes target (shows_no_pipe s target no_pipe))
      open_keep open_targets open_from)

pub open_law : OpenPart
open_law s p l c k f reads writes target was below unused nobody no_pipe = open_after s p l c k f reads writes target was below unused nobody no_pipe

-- ---- pipe

module _ (s : State) (p : ℕ) (l : Live) (c : Call) (r w f g i : ℕ) (was : get s.processes p ≡ Some (Alive l)) (below_r : r < NOFILE) (below_w : w < NOFILE) (distinct : r ≢ w) (distinct_files : f ≢ g)
    (unused_r : get l.descriptors r ≡ None) (unused_w : get l.descriptors w ≡ None) (nobody_f : NobodyNames s f) (nobody_g : NobodyNames s g) (nobody_i : NobodyHas s i) where
  abbrev reading : OpenFile
  reading = record { read = true; write = false; target = Pipe_end i Reading }

  abbrev writing : OpenFile
  writing = record { read = false; write = true; target = Pipe_end i Writing }

  abbrev two_more : FinMap nat_cmp OpenFile
  two_more = insert (insert s.files f reading) g writing

  abbrev ds : FinMap nat_cmp ℕ
  ds = insert (insert l.descriptors r f) w g

  abbrev maker : Live
  maker = with_answer (pos 0) (with_bytes c.a0 (le_bytes 4 r ++ le_bytes 4 w) (with_named w g (with_named r f l)))

  abbrev piped_two : State
  piped_two = changed_state p maker two_more (insert s.pipes i new_pipe) s.console (s.free - 1) s

  file_named_f : get two_more f ≡ Some reading
  file_named_f = get_other (insert s.files f reading) g writing f distinct_files ∙ get_same s.files f reading

  file_named_g : get two_more g ≡ Some writing
  file_named_g = get_same (insert s.files f reading) g writing

  at_r : get ds r ≡ Some f
  at_r = get_other (insert l.descriptors r f) w g r distinct ∙ get_same l.descriptors r f

  at_w : get ds w ≡ Some g
  at_w = get_same (insert l.descriptors r f) w g

  elsewhere : (d : ℕ) → d ≢ r → d ≢ w → get ds d ≡ get l.descriptors d
  elsewhere d a b = get_other (insert l.descriptors r f) w g d b ∙ get_other l.descriptors r f d a

  used_apart : (d e n : ℕ) → get l.descriptors e ≡ None → get l.descriptors d ≡ Some n → d ≢ e
  used_apart d e n free a same = let z : None ≡ Some n = sym free ∙ ap (get l.descriptors) (sym same) ∙ a in let no : ⊥ = cc in no

  pipe_keep : (d m n : ℕ) → get l.descriptors d ≡ Some m → get ds d ≡ Some n → m ≡ n
  pipe_keep d m n a b = same_Some m n (sym a ∙ sym (elsewhere d (used_apart d r m unused_r a) (used_apart d w m unused_w a)) ∙ b)

  pipe_targets : (q d n j : ℕ) → file_at s q d ≡ Some n → pipe_of_open (get two_more n) ≡ Some j → pipe_of_open (get s.files n) ≡ Some j
  pipe_targets q d n j a b =
      ap pipe_of_open (sym (get_other (insert s.files f reading) g writing n (λ e. nobody_g q d (a ∙ ap Some e)) ∙ get_other s.files f reading n (λ e. nobody_f q d (a ∙ ap Some e)))) ∙ b

  its_pipe : (n j : ℕ) (x : OpenFile) → get two_more n ≡ Some x → pipe_of_target x.target ≡ Some i → pipe_of_file piped_two (Some n) ≡ Some j → NobodyHas s j
  its_pipe n j x is on h = subst (λ (z : ℕ). NobodyHas s z) (same_Some i j (sym on ∙ ap pipe_of_open (sym is) ∙ h)) nobody_i

  pipe_from : (d n : ℕ) → get ds d ≡ Some n → OldOrNew s p piped_two n
  pipe_from d n h = elim (eqb_tells d w) [
    | inl e ↦
        let same : g ≡ n = same_Some g n (sym at_w ∙ ap (get ds) (sym e.1) ∙ h) in
        inr (subst (λ (z : ℕ). NobodyNames s z) same nobody_g, λ j x. its_pipe n j writing (ap (get two_more) (sym same) ∙ file_named_g) refl x)
    | inr a ↦ elim (eqb_tells d r) [
      | inl e ↦
          let same : f ≡ n = same_Some f n (sym at_r ∙ ap (get ds) (sym e.1) ∙ h) in
          inr (subst (λ (z : ℕ). NobodyNames s z) same nobody_f, λ j x. its_pipe n j reading (ap (get two_more) (sym same) ∙ file_named_f) refl x)
      | inr b ↦ inl (d, mine_before s p l was l.regs l.image l.call l.killed l.descriptors s.files s.pipes s.console s.free d ∙ sym (elsewhere d b.1 a.1) ∙ h)
    ]
  ]

  pipe_after : After s p l (piped c (view_of s p l) r (Some w)) piped_two
  unfolding view_of
  pipe_after =
      by_own s piped_two (view_of s p l) (piped c (view_of s p l) r (Some w)) (goes_on (Called c.number (pos 0)) (view_of piped_two p maker))
      (news.pipe_own s p l was c r w f g i below_r below_w distinct distinct_files unused_r unused_w nobody_f nobody_g nobody_i)
      (after_changed s p l was (with_a0 l.regs (word (pos 0))) (write_image l.image c.a0 (le_bytes 4 r ++ le_bytes 4 w)) None l.killed ds two_more
      (insert s.pipes i new_pipe) s.console (s.free - 1) (Called c.number (pos 0)) refl
      (named (numbered piped_two maker))
      (news.pipe_tells s p l was c r w f g i below_r below_w distinct distinct_files unused_r unused_w nobody_f nobody_g nobody_i)
      (news.pipe_spares s p l was c r w f g i below_r below_w distinct distinct_files unused_r unused_w nobody_f nobody_g nobody_i)
      pipe_keep pipe_targets pipe_from)

pub pipe_law : PipePart
pipe_law s p l c r w f g i was below_r below_w distinct distinct_files unused_r unused_w nobody_f nobody_g nobody_i =
    pipe_after s p l c r w f g i was below_r below_w distinct distinct_files unused_r unused_w nobody_f nobody_g nobody_i

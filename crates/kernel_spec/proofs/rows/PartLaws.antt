-- What the parts of rows do to the state. The laws of whole rows are these, with what each row tests before (RowLawsHold).
use Rattle.kernel_spec.proofs.Prelude.{ℕ, ◌++◌, ◌+◌, ◌-◌, ◌<◌, ◌≡◌, ◌≢◌, After, alone_state, Bool, Call, changed_state, closed_state, cond, Descriptor, done, End, false, File, filed_state, FilesLeft}
use Rattle.kernel_spec.proofs.Prelude.{FinMap, fork, forked_state, get, insert, is_given_up, IsLive, joined, keys, kill_state, killer, le_bytes, length, List, list_any, Live, Loaded, nat_cmp, nat_eq}
use Rattle.kernel_spec.proofs.Prelude.{new_pipe, NobodyHas, NobodyNames, NOFILE, None, not, OnPipe, OpenFile, own_state, parted, Pipe, Pipe_end, pipe_of_target, piped_state, pos, price, Reading}
use Rattle.kernel_spec.proofs.Prelude.{settled, show, Some, started, State, Target, true, view_of, WellFormed, with_answer, with_bytes, with_named, Writing}
use Rattle.kernel_spec.proofs.rows.RowParts.{cannot_fork, killed_by, read_file, open_at, piped, dup_at, close_at, running}
use Rattle.kernel_spec.proofs.steps.NamesAreChosenAgain.{name_of_file}

abbrev pub ExecPart : Type 0
ExecPart =
    (s : State) (p : ℕ) (l : Live) (c : Call) (new : Loaded) → IsLive s p l
    → After s p l (done c (pos new.argc) (running new (view_of s p l))) (alone_state p (with_answer (pos new.argc) (started new l)) s.console (s.free + price l.image - price new.image) s)

abbrev pub ForkPart : Type 0
ForkPart =
    (frames : ℕ) (s : State) (p : ℕ) (l : Live) (c : Call) → WellFormed frames s → IsLive s p l → cannot_fork (view_of s p l) ≡ false
    → After s p l (fork c (view_of s p l)) (forked_state p l s)

abbrev pub KillPart : Type 0
KillPart =
    (s : State) (p q : ℕ) (l : Live) (c : Call) → IsLive s p l → not (list_any (nat_eq q) (keys s.processes)) ≡ false
    → After s p l (killed_by c (view_of s p l) q) (kill_state p (killer p q l) q s)

abbrev pub FileReadPart : Type 0
FileReadPart =
    (s : State) (p : ℕ) (l : Live) (c : Call) (d f program offset : ℕ) (r w : Bool) (bytes : List ℕ) → IsLive s p l → d < NOFILE → get l.descriptors d ≡ Some f
    → get s.files f ≡ Some (record { read = r; write = w; target = File program offset })
    → After s p l (read_file c (view_of s p l) (name_of_file s l f) bytes)
    (filed_state p (with_answer (pos (length bytes)) (with_bytes c.a1 bytes l)) f (record { read = r; write = w; target = File program (offset + length bytes) }) s)

abbrev pub OpenPart : Type 0
OpenPart =
    (s : State) (p : ℕ) (l : Live) (c : Call) (k f : ℕ) (read write : Bool) (target : Target) → IsLive s p l → k < NOFILE → get l.descriptors k ≡ None
    → NobodyNames s f → pipe_of_target target ≡ None
    → After s p l (open_at c (view_of s p l) (Some k) (Some (read, write, show s target)))
    (filed_state p (with_answer (pos k) (with_named k f l)) f (record { read = read; write = write; target = target }) s)

abbrev pub PipePart : Type 0
PipePart =
    (s : State) (p : ℕ) (l : Live) (c : Call) (r w f g i : ℕ) → IsLive s p l → r < NOFILE → w < NOFILE → r ≢ w → f ≢ g → get l.descriptors r ≡ None → get l.descriptors w ≡ None
    → NobodyNames s f → NobodyNames s g → NobodyHas s i
    → After s p l (piped c (view_of s p l) r (Some w))
    (changed_state p (with_answer (pos 0) (with_bytes c.a0 (le_bytes 4 r ++ le_bytes 4 w) (with_named w g (with_named r f l))))
    (insert (insert s.files f (record { read = true; write = false; target = Pipe_end i Reading })) g (record { read = false; write = true; target = Pipe_end i Writing }))
    (insert s.pipes i new_pipe) s.console (s.free - 1) s)

abbrev pub DupPart : Type 0
DupPart =
    (s : State) (p : ℕ) (l : Live) (c : Call) (j k f : ℕ) (x : OpenFile) (d : Descriptor) → IsLive s p l → j < NOFILE → get l.descriptors j ≡ Some f → get l.descriptors k ≡ None
    → get s.files f ≡ Some x → pipe_of_target x.target ≡ None → (view_of s p l).descriptors j ≡ Some d
    → After s p l (dup_at c (view_of s p l) j d (Some k)) (own_state p (with_answer (pos k) (with_named k f l)) s)

abbrev pub DupPipePart : Type 0
DupPipePart =
    (s : State) (p : ℕ) (l : Live) (c : Call) (j k i n : ℕ) (end : End) (x : Pipe) (d : Descriptor) (on : OnPipe s p l j i n end x) → get l.descriptors k ≡ None
    → (view_of s p l).descriptors j ≡ Some d
    → After s p l (dup_at c (view_of s p l) j d (Some k)) (piped_state p (with_answer (pos k) (with_named k on.file l)) i (joined x end 1) s)

abbrev pub ClosePart : Type 0
ClosePart =
    (frames : ℕ) (s : State) (p : ℕ) (l : Live) (c : Call) (k f : ℕ) (x : OpenFile) (d : Descriptor) (files : FinMap nat_cmp OpenFile) → WellFormed frames s → IsLive s p l
    → k < NOFILE → get l.descriptors k ≡ Some f → get s.files f ≡ Some x → pipe_of_target x.target ≡ None → (view_of s p l).descriptors k ≡ Some d
    → FilesLeft s (closed_state p l k files s.pipes 0 s)
    → After s p l (close_at c (view_of s p l) k d) (closed_state p l k files s.pipes 0 s)

abbrev pub ClosePipePart : Type 0
ClosePipePart =
    (frames : ℕ) (s : State) (p : ℕ) (l : Live) (c : Call) (k i n : ℕ) (end : End) (x : Pipe) (d : Descriptor) (files : FinMap nat_cmp OpenFile) (on : OnPipe s p l k i n end x) → WellFormed frames s
    → (view_of s p l).descriptors k ≡ Some d
    → FilesLeft s (closed_state p l k files (settled i (parted x end 1) s.pipes) (cond (is_given_up (parted x end 1)) 1 0) s)
    → After s p l (close_at c (view_of s p l) k d) (closed_state p l k files (settled i (parted x end 1) s.pipes) (cond (is_given_up (parted x end 1)) 1 0) s)

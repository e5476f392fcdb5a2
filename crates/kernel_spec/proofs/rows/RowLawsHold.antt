-- What each row does to the state, from the laws of its parts.
use Rattle.kernel_spec.proofs.Prelude.{ℕ, ◌++◌, ◌+◌, ◌-◌, ◌<◌, ◌==◌, ◌||◌, ◌∙◌, ◌≡◌, After, alone_state, ap, arith, Bool, c_int, Call, changed_state, closed_state, CloseLaw, ClosePipeLaw, cond}
use Rattle.kernel_spec.proofs.Prelude.{Descriptor, done, drop, DupLaw, DupPipeLaw, eqb_tells, exec, ExecLaw, false, File, filed_state, FileReadLaw, ForkLaw, get, has_mode, inl, inr, insert}
use Rattle.kernel_spec.proofs.Prelude.{is_given_up, joined, kill_state, killer, KillLaw, le-ltb, le_bytes, length, List, Live, lowest_free, lowest_free_above, lt-leb, make_pipe, MAXPATH, nat_eq}
use Rattle.kernel_spec.proofs.Prelude.{natural, new_pipe, no_slashes, NOFILE, not, NPROC, numbered, open_file, OpenFile, OpenLaw, option_map, Own, own_state, pages_at, parted, PID_MAX, Pipe_end}
use Rattle.kernel_spec.proofs.Prelude.{piped_state, PipeLaw, pos, price, program_bytes, read, Reading, refl, refused, rename, settled, show, Shown, slice_get, Some, started, State, subst, sym, take}
use Rattle.kernel_spec.proofs.Prelude.{text_at, true, View, view_of, what_is_named, with_answer, with_bytes, with_named, writable_now, Writing}
use Rattle.kernel_spec.proofs.rows.Settled.{there-ready, touch-none}
use Rattle.kernel_spec.proofs.steps.SeenByParts.{descriptor_at, descriptor_on}
use Rattle.kernel_spec.proofs.rows.RowParts.{cannot_fork, exec_loaded, unless, read_file, open_at, piped, dup_at, running}
use Rattle.kernel_spec.proofs.rows.Decoding.{exec_case, kill_case, read_case, dup_case, close_case}
use Rattle.kernel_spec.proofs.steps.NamesAreChosenAgain.{named_at, name_of_file}
use Rattle.kernel_spec.proofs.turns.KeepsSlots.{listed}
use Rattle.kernel_spec.proofs.Common.{passes, takes}
use Rattle.kernel_spec.proofs.steps.AloneLawsHold as in-alone
use Rattle.kernel_spec.proofs.steps.DupCloseLawsHold as in-descriptors
use Rattle.kernel_spec.proofs.steps.FamilyLawsHold as in-family
use Rattle.kernel_spec.proofs.steps.FileLawsHold as in-on-files

-- ---- exec, fork, kill

pub exec_law : ExecLaw
unfolding view_of
exec_law s p l c new was a fits =
    let v = view_of s p l in
    let row : exec c v ≡ done c (pos new.argc) (running new v) =
    exec_case c v a.name a.texts a.program a.name_is a.texts_is a.program_is ∙ ap (exec_loaded c v) a.loaded_is
    ∙ ap (λ (b : Bool). unless b c v (λ _. done c (pos new.argc) (running new v))) (le-ltb s.free (price new.image) fits) in
    subst (λ (o : Own). After s p l o (alone_state p (with_answer (pos new.argc) (started new l)) s.console (s.free + price l.image - price new.image) s)) (sym row) (in-alone.exec s p l c new was)

pub fork_law : ForkLaw
unfolding view_of
fork_law frames s p l c well was slot pid room =
    let able : cannot_fork (view_of s p l) ≡ false = λ i. lt-leb NPROC (length (view_of s p l).pids) slot i || le-ltb PID_MAX s.next_pid pid i || le-ltb s.free (price l.image + 1) room i in
    in-family.fork_law frames s p l c well was able

pub kill_law : KillLaw
unfolding view_of
kill_law s p q l c was number some used =
    let above : nat_eq q 0 ≡ false = elim (eqb_tells q 0) [ inl zero ↦ absurd (omega (arith, some, zero.1)) | inr other ↦ other.0 ] in
    subst (λ (o : Own). After s p l o (kill_state p (killer p q l) q s)) (sym (kill_case c (view_of s p l) q number above))
    (in-family.kill_law s p q l c was (ap not (listed s.processes q ∙ used)))

-- ---- open files

-- how p sees its descriptor d, which names the open file f
seen_as : State → Live → ℕ → OpenFile → Descriptor
seen_as s l f x = rename (numbered s l) (record { file = f; read = x.read; write = x.write; shown = show s x.target })

seen : (s : State) (p : ℕ) (l : Live) (d f : ℕ) (x : OpenFile) → d < NOFILE → get l.descriptors d ≡ Some f → get s.files f ≡ Some x → (view_of s p l).descriptors d ≡ Some (seen_as s l f x)
unfolding view_of seen_as
seen s p l d f x below names opened = named_at (numbered s l) d below ∙ ap (option_map (rename (numbered s l))) (ap (descriptor_at s) names ∙ ap (descriptor_on s f) opened)

pub file_read_law : FileReadLaw
unfolding view_of seen_as
file_read_law s p l c d f program offset n w was number below names opened buffer =
    let v = view_of s p l in
    let x : OpenFile = record { read = true; write = w; target = File program offset } in
    let bytes = take n (drop offset (program_bytes (slice_get s.programs program))) in
    let row : read c v ≡ read_file c v (name_of_file s l f) bytes = read_case c v (seen_as s l f x) d n number (seen s p l d f x below names opened) buffer.0 buffer.1 refl buffer.2 in
    subst (λ (o : Own). After s p l o (filed_state p (with_answer (pos (length bytes)) (with_bytes c.a1 bytes l)) f
    (record { read = true; write = w; target = File program (offset + length bytes) }) s)) (sym row)
    (in-on-files.file_read s p l c d f program offset true w bytes was below names opened)

opened : (c : Call) (v : View) (path : List ℕ) (shown : Shown) (mode k : ℕ) → text_at MAXPATH v.image c.a0 ≡ Some path → what_is_named (no_slashes path) v.programs ≡ Some shown → c_int c.a1 ≡ pos mode
    → has_mode shown mode ≡ true → lowest_free v.descriptors ≡ Some k → open_file c v ≡ open_at c v (Some k) (Some (not (mode == 1), not (mode == 0), shown))
unfolding open_file
opened c v path shown mode k path-is named mode-is allowed lowest =
    takes _ path (refused c v) _ path-is ∙ takes _ shown (refused c v) _ named ∙ takes _ mode (refused c v) _ (ap natural mode-is)
    ∙ passes _ (refused c v) _ (ap not allowed) ∙ takes _ k (refused c v) _ lowest

pub open_law : OpenLaw
unfolding view_of
open_law s p l c k f mode path target was path-is named no_pipe mode-is allowed free nobody =
    let v = view_of s p l in
    let reads = not (mode == 1) in
    let writes = not (mode == 0) in
    let row : open_file c v ≡ open_at c v (Some k) (Some (reads, writes, show s target)) = opened c v path (show s target) mode k path-is named mode-is allowed free.lowest in
    subst (λ (o : Own). After s p l o (filed_state p (with_answer (pos k) (with_named k f l)) f (record { read = reads; write = writes; target = target }) s)) (sym row)
    (in-on-files.open_law s p l c k f reads writes target was free.below free.unused nobody no_pipe)

made : (c : Call) (v : View) (r w : ℕ) → writable_now v.image c.a0 8 ≡ true → (v.free == 0) ≡ false → lowest_free v.descriptors ≡ Some r
    → lowest_free_above v.descriptors r ≡ Some w → make_pipe c v ≡ piped c v r (Some w)
unfolding make_pipe
made c v r w there some lowest next =
    let ready = there-ready v.image c.a0 8 there in
    passes _ (refused c v) _ (ap not ready.0) ∙ takes _ r (refused c v) _ lowest ∙ takes _ w (refused c v) _ next
    ∙ takes _ v (refused c v) _ (touch-none (pages_at c.a0 8) v ready.1) ∙ passes _ (refused c v) _ some

room_left : (free : ℕ) → 0 < free → (free == 0) ≡ false
room_left free some = elim (eqb_tells free 0) [ inl zero ↦ absurd (omega (arith, some, zero.1)) | inr other ↦ other.0 ]

pub pipe_law : PipeLaw
unfolding view_of
pipe_law s p l c r w f g i was there room low next below_w unused_w distinct distinct_files nobody_f nobody_g nobody_i =
    subst (λ (o : Own). After s p l o
    (changed_state p (with_answer (pos 0) (with_bytes c.a0 (le_bytes 4 r ++ le_bytes 4 w) (with_named w g (with_named r f l))))
    (insert (insert s.files f (record { read = true; write = false; target = Pipe_end i Reading })) g (record { read = false; write = true; target = Pipe_end i Writing }))
    (insert s.pipes i new_pipe) s.console (s.free - 1) s)) (sym (made c (view_of s p l) r w there (room_left s.free room) low.lowest next))
    (in-on-files.pipe_law s p l c r w f g i was low.below below_w distinct distinct_files low.unused unused_w nobody_f nobody_g nobody_i)

pub dup_law : DupLaw
dup_law s p l c j k f x d was number below names free opened no_pipe sees =
    let v = view_of s p l in
    subst (λ (o : Own). After s p l o (own_state p (with_answer (pos k) (with_named k f l)) s)) (sym (dup_case c v d j 0 number sees ∙ ap (dup_at c v j d) free.lowest))
    (in-descriptors.dup_law s p l c j k f x d was below names free.unused opened no_pipe sees)

pub dup_pipe_law : DupPipeLaw
dup_pipe_law s p l c j k i n end x d on number free sees =
    let v = view_of s p l in
    subst (λ (o : Own). After s p l o (piped_state p (with_answer (pos k) (with_named k on.file l)) i (joined x end 1) s)) (sym (dup_case c v d j 0 number sees ∙ ap (dup_at c v j d) free.lowest))
    (in-descriptors.dup_pipe_law s p l c j k i n end x d on free.unused sees)

pub close_law : CloseLaw
close_law frames s p l c k f x d files well was number below names opened no_pipe sees left =
    subst (λ (o : Own). After s p l o (closed_state p l k files s.pipes 0 s)) (sym (close_case c (view_of s p l) d k 0 number sees))
    (in-descriptors.close_law frames s p l c k f x d files well was below names opened no_pipe sees left)

pub close_pipe_law : ClosePipeLaw
close_pipe_law frames s p l c k i n end x d files on well number sees left =
    subst (λ (o : Own). After s p l o (closed_state p l k files (settled i (parted x end 1) s.pipes) (cond (is_given_up (parted x end 1)) 1 0) s))
    (sym (close_case c (view_of s p l) d k 0 number sees))
    (in-descriptors.close_pipe_law frames s p l c k i n end x d files on well sees left)

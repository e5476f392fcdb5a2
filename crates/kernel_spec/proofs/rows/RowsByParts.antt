-- Each row of the call table is what its parts say, once its buffer is touched, or it is refused.
use Rattle.kernel_spec.proofs.Prelude.{[], ℕ, ℤ, ◌&&◌, ◌+ℤ◌, ◌+◌, ◌-◌, ◌<◌, ◌>>=◌, ◌>>◌, ◌or◌, ◌when◌, ◌||◌, ◌∙◌, ◌∷◌, ◌≡◌, ◌≤◌, ◌⊎◌, ap, ARG_BYTES, arith, Bool, brought, bytes_eq, c_int, Call}
use Rattle.kernel_spec.proofs.Prelude.{cases_lt, cast_unsigned, change_pipe, Child, child_status, Close, close, cond, console_name, Descriptor, done, done_at, Dup, dup, End, eqb_tells, Err, Exec}
use Rattle.kernel_spec.proofs.Prelude.{exec, ExecError, Exit, false, false≢true, filter, find, fit, Fork, fork, Getpid, grown, grown_lazily, has_absent, has_bytes, has_child, has_mode, has_passed}
use Rattle.kernel_spec.proofs.Prelude.{has_status, Image, in_use, inl, inr, is_some, Kill, kill, le-leb, le-ltb, le_bytes, least_zombie, length, List, list_any, Loaded, loaded, lowest_free}
use Rattle.kernel_spec.proofs.Prelude.{lowest_free_above, lt-leb, make_pipe, MAXARG, MAXPATH, nat_eq, nat_le, nat_lt, natural, negsuc, next_bytes, no_slashes, None, not, not-false, NPROC, Ok, Open}
use Rattle.kernel_spec.proofs.Prelude.{open_file, Option, option_map, or_right, or_zero, Own, pages_at, perform, PID_MAX, Pipe, Pipe_row, place_of, pos, position_from, price, program_named}
use Rattle.kernel_spec.proofs.Prelude.{ProgramFile, Read, read, readable, refl, refused, Result, result_of, Row, row, row_of, Sbrk, sbrk, Sbrklazy, sbrklazy, Shown, Shown_file, Shown_pipe}
use Rattle.kernel_spec.proofs.Prelude.{Shown_terminal, shrunk, SIZE_LIMIT, Sleep, sleep, Some, status_stored, storing, subst, suc, sym, text_at, texts_at, ticks_since, touch, true, Uptime, View, w32}
use Rattle.kernel_spec.proofs.Prelude.{Wait, wait, waits, what_is_named, with_descriptor, with_more, with_value, writable, Write, write, write_image}
use Rattle.kernel_spec.proofs.rows.Settled.{touch-none, touch-comes, touch-settles, touch-again, store-brought}
use Rattle.kernel_spec.proofs.rows.Resized.{grown-price}
use Rattle.std.proofs.lemmas.Bool.{lt-ltb}
use Rattle.kernel_spec.proofs.rows.RowParts.{IsBrought, IsSettled, buffer_of, told_bytes, lazy_by, sbrklazy_parts, unless, unless_nothing, moving, length_of_int, A_program, Named, Nothing}
use Rattle.kernel_spec.proofs.rows.RowParts.{The_console, dup_at, dup_number, dup_on, dup_parts, exec_loaded, exec_parts, exec_path, exec_program, forked, grow_to, killed_by, kind_named, open_at}
use Rattle.kernel_spec.proofs.rows.RowParts.{open_parts, open_path, opened_as, perform_parts, perform_row, pipe_parts, piped, piped_from, program_place, read_on, read_parts, reaped, sbrk_by}
use Rattle.kernel_spec.proofs.rows.RowParts.{sbrk_parts, shrink_to, sleep_parts, wait_parts, write_on, write_parts, write_pipe, close_number, close_on, close_parts, fork_parts, kill_parts, kill_pid}
use Rattle.kernel_spec.proofs.rows.RowParts.{running, told, without_child}
use Rattle.kernel_spec.proofs.Common.{passes, takes}

-- ---- the lines of a row

pub or_same : {A : Type 0} (o : Option A) (e : Own) (f : A → Own) (g : Option A → Own) → e ≡ g None → ((a : A) → f a ≡ g (Some a)) → ((o or e) >>= f) ≡ g o
unfolding ◌>>=◌ ◌>>◌ ◌when◌ ◌or◌
or_same None e f g none some = none
or_same (Some a) e f g none some = some a

pub natural_same : (z : ℤ) (e : Own) (f : ℕ → Own) (g : ℤ → Own) → ((k : ℕ) → e ≡ g (negsuc k)) → ((n : ℕ) → f n ≡ g (pos n)) → ((natural z or e) >>= f) ≡ g z
unfolding ◌>>=◌ ◌>>◌ ◌when◌ ◌or◌
natural_same (pos n) e f g below same = same n
natural_same (negsuc k) e f g below same = below k

-- the same, where it is told that the number is this one
natural_at : (z : ℤ) (e : Own) (f : ℕ → Own) (g : ℤ → Own) → ((k : ℕ) → e ≡ g (negsuc k)) → ((n : ℕ) → z ≡ pos n → f n ≡ g (pos n)) → ((natural z or e) >>= f) ≡ g z
unfolding ◌>>=◌ ◌>>◌ ◌when◌ ◌or◌
natural_at (pos n) e f g below same = same n refl
natural_at (negsuc k) e f g below same = below k

pub when_cond : (b : Bool) (e x : Own) → ((e when b) >> x) ≡ cond b e x
unfolding ◌>>=◌ ◌>>◌ ◌when◌ ◌or◌
when_cond true e x = refl
when_cond false e x = refl

not_when : (b : Bool) (e x : Own) → ((e when not b) >> x) ≡ cond b x e
unfolding ◌>>=◌ ◌>>◌ ◌when◌ ◌or◌
not_when true e x = refl
not_when false e x = refl

ends_so : {A : Type 0} (o : Option A) (e : Own) (f : A → Own) → ((a : A) → f a ≡ e) → ((o or e) >>= f) ≡ e
unfolding ◌>>=◌ ◌>>◌ ◌when◌ ◌or◌
ends_so None e f same = refl
ends_so (Some a) e f same = same a

-- a descriptor on the console, on a file or on a pipe
by_kind : (f g : Descriptor → Own)
    → ((file : ℕ) (r w : Bool) → f (record { file = file; read = r; write = w; shown = Shown_terminal }) ≡ g (record { file = file; read = r; write = w; shown = Shown_terminal }))
    → ((file : ℕ) (r w : Bool) (program offset : ℕ) → f (record { file = file; read = r; write = w; shown = Shown_file program offset }) ≡ g
    (record { file = file; read = r; write = w; shown = Shown_file program offset }))
    → ((file : ℕ) (r w : Bool) (name : ℕ) (end : End) (pipe : Pipe)
    → f (record { file = file; read = r; write = w; shown = Shown_pipe name end pipe }) ≡ g
    (record { file = file; read = r; write = w; shown = Shown_pipe name end pipe }))
    → (d : Descriptor) → f d ≡ g d
by_kind f g terminal a_file a_pipe d = by d.shown
  where
    by : (s : Shown) → f (record d { shown = s }) ≡ g (record d { shown = s })
    by Shown_terminal = terminal d.file d.read d.write
    by (Shown_file program offset) = a_file d.file d.read d.write program offset
    by (Shown_pipe name end pipe) = a_pipe d.file d.read d.write name end pipe

-- where one is found, one is there
any_found : (test other : ℕ → Bool) → ((k : ℕ) → test k ≡ true → other k ≡ true) → (ks : List ℕ) (q : ℕ) → find test ks ≡ Some q → list_any other ks ≡ true
any_found test other h [] q is = let no : ⊥ = cc in absurd no
any_found test other h (k ∷ ks) q is = by (any_found test other h ks q) (test k) refl is
  where
    by : (find test ks ≡ Some q → list_any other ks ≡ true) → (b : Bool) → test k ≡ b → cond b (Some k) (find test ks) ≡ Some q → (other k || list_any other ks) ≡ true
    by rest true passes is = ap (λ b. b || list_any other ks) (h k passes)
    by rest false fails is = or_right (other k) (list_any other ks) (rest is)

status_child : (o : Option Child) → has_status o ≡ true → is_some o ≡ true
status_child None e = e
status_child (Some child) e = refl

-- what the rows open now names as before
abbrev shown_of : Named → Option Shown
shown_of The_console = Some Shown_terminal
shown_of (A_program place) = Some (Shown_file place 0)
shown_of Nothing = None

abbrev place_from : List ℕ → List ProgramFile → ℕ → Option ℕ
place_from name ps k = position_from (λ (p : ProgramFile). bytes_eq p.name name) k ps

place_same : (name : List ℕ) (ps : List ProgramFile) (k : ℕ) → option_map (λ place. Shown_file place 0) (place_from name ps k) ≡ shown_of (program_place name ps k)
place_same name [] k = refl
place_same name (p ∷ ps) k = by (bytes_eq p.name name) (place_same name ps (k + 1))
  where
    by : (b : Bool) → option_map (λ place. Shown_file place 0) (place_from name ps (k + 1)) ≡ shown_of (program_place name ps (k + 1))
        → option_map (λ place. Shown_file place 0) (cond b (Some k) (place_from name ps (k + 1))) ≡ shown_of (cond b (A_program k) (program_place name ps (k + 1)))
    by true rest = refl
    by false rest = rest

named_same : (v : View) (name : List ℕ) → what_is_named name v.programs ≡ shown_of (kind_named name v)
named_same v name = by (bytes_eq console_name name)
  where
    by : (b : Bool) → cond b (Some Shown_terminal) (option_map (λ place. Shown_file place 0) (place_of name v.programs)) ≡ shown_of (cond b The_console (program_place name v.programs 0))
    by true = refl
    by false = place_same name v.programs 0

above_2 : (mode : ℕ) → not (nat_le mode 2) ≡ nat_lt 2 mode
above_2 mode = elim (cases_lt 2 mode) [
  | inl above ↦ ap not (lt-leb mode 2 above) ∙ sym (lt-ltb 2 mode above)
  | inr fits ↦ ap not (le-leb mode 2 fits) ∙ sym (le-ltb 2 mode fits)
]

is_zero : (mode : ℕ) → nat_eq mode 0 ≡ true → mode ≡ 0
is_zero mode e = elim (eqb_tells mode 0) [
  | inl is ↦ is.1
  | inr no_zero ↦ let no : ⊥ = false≢true (sym no_zero.0 ∙ e) in absurd no
]

module _ (c : Call) (v : View) where
  pub when_unless : (b : Bool) (x : Own) (go : Unit {0} → Own) → x ≡ go tt → ((refused c v when b) >> x) ≡ unless b c v go
  unfolding ◌>>=◌ ◌>>◌ ◌when◌ ◌or◌
  when_unless true x go same = refl
  when_unless false x go same = same

  when_nothing : (b : Bool) (x : Own) (go : Unit {0} → Own) → x ≡ go tt → ((done c (pos 0) v when b) >> x) ≡ unless_nothing b c v go
  unfolding ◌>>=◌ ◌>>◌ ◌when◌ ◌or◌
  when_nothing true x go same = refl
  when_nothing false x go same = same

  when_two : (a b : Bool) (x : Own) (go : Unit {0} → Own) → x ≡ go tt → ((refused c v when a) >> ((refused c v when b) >> x)) ≡ unless (a || b) c v go
  unfolding ◌>>=◌ ◌>>◌ ◌when◌ ◌or◌
  when_two true b x go same = refl
  when_two false b x go same = when_unless b x go same

  when_three : (a b d : Bool) (x : Own) (go : Unit {0} → Own) → x ≡ go tt → ((refused c v when a) >> ((refused c v when b) >> ((refused c v when d) >> x))) ≡ unless (a || b || d) c v go
  unfolding ◌>>=◌ ◌>>◌ ◌when◌ ◌or◌
  when_three true b d x go same = refl
  when_three false b d x go same = when_two b d x go same

  pub fork_same : fork c v ≡ fork_parts c v
  unfolding fork
  fork_same = when_three (nat_le NPROC (length v.pids)) (nat_lt PID_MAX v.next_pid) (nat_lt v.free (price v.image + 1)) _ (λ _. forked c v) refl

  -- ---- kill

  pub kill_same : kill c v ≡ kill_parts c v
  unfolding kill
  kill_same = natural_same (c_int c.a0) _ _ (kill_pid c v) (λ k. refl)
      (λ pid. when_unless (nat_eq pid 0) _ (λ _. killed_by c v pid)
      (when_unless (not (list_any (nat_eq pid) v.pids)) _ (λ _. record (done c (pos 0) (record v { killed = v.killed || nat_eq pid v.pid })) { marked = Some pid }) refl))

  -- ---- sleep

  pub sleep_same : sleep c v ≡ sleep_parts c v
  unfolding sleep
  sleep_same = when_cond (not (has_passed (ticks_since v.clock c.clock) (c_int c.a0))) (waits c 0 v) (done c (pos 0) v)

  -- ---- dup, close

  pub dup_same : dup c v ≡ dup_parts c v
  unfolding dup
  dup_same = natural_same (c_int c.a0) _ _ (dup_number c v) (λ k. refl) (λ fd. or_same (v.descriptors fd) _ _ (dup_on c v fd) refl (λ d. or_same _ _ _ (dup_at c v fd d) refl (λ to. refl)))

  pub close_same : close c v ≡ close_parts c v
  unfolding close
  close_same = natural_same (c_int c.a0) _ _ (close_number c v) (λ k. refl) (λ fd. or_same (v.descriptors fd) _ _ (close_on c v fd) refl (λ d. refl))

  -- ---- wait

  -- where no page of its buffer is absent, a row goes on as it is
  touched_same : (pages : List ℕ) → has_absent pages v.image ≡ false → (f : View → Own) → ((touch pages v or refused c v) >>= f) ≡ f v
  unfolding ◌>>=◌ ◌>>◌ ◌when◌ ◌or◌
  touched_same pages none f = ap (λ o. (o or refused c v) >>= f) (touch-none pages v none)

  -- the child that is taken
  abbrev taken : View → ℕ → Own
  taken t q = done c (pos q) (record t {
    image = storing (status_stored c (t.children q)) t.image;
    pids = filter (λ p. not (nat_eq p q)) t.pids;
    children = with_value t.children q None;
  })

  abbrev taking : View → Own
  taking t = (least_zombie t or waits c 0 t) >>= taken t

  told_same : (q : ℕ) → taken v q ≡ done c (pos q) (told c.a0 (child_status (v.children q)) (without_child q v))
  unfolding write_image
  told_same q = by (nat_eq c.a0 0)
    where
      by : (b : Bool) → done c (pos q) (record (without_child q v) { image = write_image v.image c.a0 (cond b [] (le_bytes 4 (cast_unsigned w32 (child_status (v.children q))))) })
          ≡ done c (pos q) (cond b (without_child q v) (record (without_child q v) { image = write_image v.image c.a0 (le_bytes 4 (cast_unsigned w32 (child_status (v.children q)))) }))
      by true = refl
      by false = refl

  by_zombie : (o : Option ℕ) → least_zombie v ≡ o → ((refused c v when not (has_child v)) >> ((o or waits c 0 v) >>= taken v)) ≡ reaped c v o
  unfolding ◌>>=◌ ◌>>◌ ◌when◌ ◌or◌
  by_zombie None is = not_when (has_child v) (refused c v) (waits c 0 v)
  by_zombie (Some q) is =
      ap (λ b. (refused c v when not b) >> taken v q) (any_found (λ k. has_status (v.children k)) (λ k. is_some (v.children k)) (λ k. status_child (v.children k)) v.pids q is) ∙ told_same q

  pub wait_same : has_absent (pages_at c.a0 (told_bytes c)) v.image ≡ false → wait c v ≡ wait_parts c v
  unfolding wait
  wait_same none = when_unless (not (nat_eq c.a0 0) && not (writable v.image c.a0 4)) _ (λ _. reaped c v (least_zombie v))
      (ap (λ o. (refused c v when not (has_child v)) >> o) (touched_same (pages_at c.a0 (told_bytes c)) none taking) ∙ by_zombie (least_zombie v) refl)

  -- ---- pipe

  pipe_by : (a b : Bool) → ((refused c v when a) >> ((lowest_free v.descriptors or refused c v) >>=
      (λ r. (lowest_free_above v.descriptors r or refused c v) >>= (λ w. (refused c v when b) >> piped c v r (Some w)))))
      ≡ unless (a || b) c v (λ _. piped_from c v (lowest_free v.descriptors))
  unfolding ◌>>=◌ ◌>>◌ ◌when◌ ◌or◌
  pipe_by true b = refl
  pipe_by false true = ends_so (lowest_free v.descriptors) (refused c v) _ (λ r. ends_so (lowest_free_above v.descriptors r) (refused c v) _ (λ w. refl))
  pipe_by false false = or_same (lowest_free v.descriptors) (refused c v) _ (piped_from c v) refl (λ r. or_same (lowest_free_above v.descriptors r) (refused c v) _ (piped c v r) refl (λ w. refl))

  -- once there is a descriptor for each end
  abbrev piping : (r w : ℕ) → View → Own
  piping r w t = (refused c v when nat_eq t.free 0) >> piped c t r (Some w)

  pub pipe_same : has_absent (pages_at c.a0 8) v.image ≡ false → make_pipe c v ≡ pipe_parts c v
  unfolding make_pipe ◌>>=◌ ◌>>◌ ◌when◌ ◌or◌
  pipe_same none =
      (λ i. (refused c v when not (writable v.image c.a0 8)) >>
      ((lowest_free v.descriptors or refused c v) >>= (λ r. (lowest_free_above v.descriptors r or refused c v) >>=
      (λ w. touched_same (pages_at c.a0 8) none (piping r w) i))))
      ∙ pipe_by (not (writable v.image c.a0 8)) (nat_eq v.free 0)

  -- ---- exec

  abbrev run : Loaded → Own
  run l = (refused c v when nat_lt v.free (price l.image)) >> done c (pos l.argc) (running l v)

  by_loaded : (r : Result Loaded ExecError) → ((result_of r or refused c v) >>= run) ≡ exec_loaded c v r
  unfolding ◌>>=◌ ◌>>◌ ◌when◌ ◌or◌
  by_loaded (Err e) = refl
  by_loaded (Ok l) = when_unless (nat_lt v.free (price l.image)) _ (λ _. done c (pos l.argc) (running l v)) refl

  by_program : (texts : Option (List (List ℕ))) (program : Option ProgramFile)
      → ((texts or refused c v) >>= (λ ts. (program or refused c v) >>= (λ p. (result_of (loaded p.bytes ts) or refused c v) >>= run)))
      ≡ exec_program c v texts program
  unfolding ◌>>=◌ ◌>>◌ ◌when◌ ◌or◌
  by_program None program = refl
  by_program (Some ts) None = refl
  by_program (Some ts) (Some p) = by_loaded (loaded p.bytes ts)

  pub exec_same : exec c v ≡ exec_parts c v
  unfolding exec
  exec_same = or_same (text_at MAXPATH v.image c.a0) (refused c v) _ (exec_path c v) refl (λ path. by_program (texts_at MAXARG ARG_BYTES v.image c.a1) (program_named (no_slashes path) v.programs))

  -- ---- read and write

  moving_same : (b : Bool) (is_there : ℕ → Bool) (z : ℤ) (f g : ℕ → Own) → ((n : ℕ) → z ≡ pos n → f n ≡ g n)
      → ((refused c v when not b) >> ((natural z or refused c v) >>=
      (λ n. (done c (pos 0) v when nat_eq n 0) >> ((refused c v when not (is_there n)) >> f n)))) ≡ unless (not b) c v
      (λ _. moving c v (is_there (length_of_int z)) z g)
  moving_same b is_there z f g same = when_unless (not b) _ (λ _. moving c v (is_there (length_of_int z)) z g)
      (natural_at z (refused c v) _ (λ z. moving c v (is_there (length_of_int z)) z g) (λ k. refl)
      (λ n is. when_nothing (nat_eq n 0) _ (λ _. unless (not (is_there n)) c v (λ _. g n)) (when_unless (not (is_there n)) (f n) (λ _. g n) (same n is))))

  pub read_same : has_absent (pages_at c.a1 (length_of_int (c_int c.a2))) v.image ≡ false → read c v ≡ read_parts c v
  unfolding read ◌>>=◌ ◌>>◌ ◌when◌ ◌or◌
  read_same none = or_same (in_use v (c_int c.a0)) _ _ (read_on c v) refl (by_kind _ _
      (λ file r w. moving_same r (writable v.image c.a1) (c_int c.a2) _ _ (λ n is. touched_same (pages_at c.a1 n) (at n is) _))
      (λ file r w program offset. moving_same r (writable v.image c.a1) (c_int c.a2) _ _ (λ n is. touched_same (pages_at c.a1 n) (at n is) _))
      (λ file r w name end pipe. moving_same r (writable v.image c.a1) (c_int c.a2) _ _ (λ n is. touched_same (pages_at c.a1 n) (at n is) _ ∙ when_cond (not (has_bytes pipe)) (waits c 0 v) _)))
    where
      at : (n : ℕ) → c_int c.a2 ≡ pos n → has_absent (pages_at c.a1 n) v.image ≡ false
      at n is = ap (λ z. has_absent (pages_at c.a1 (length_of_int z)) v.image) (sym is) ∙ none

  pub write_same : write c v ≡ write_parts c v
  unfolding write
  write_same = or_same (in_use v (c_int c.a0)) _ _ (write_on c v) refl (by_kind _ _
      (λ file r w. moving_same w (readable v.image c.a1) (c_int c.a2) _ _ (λ n is. refl))
      (λ file r w program offset. moving_same w (readable v.image c.a1) (c_int c.a2) _ _ (λ n is. refl))
      (λ file r w name end pipe. moving_same w (readable v.image c.a1) (c_int c.a2) _ (λ n. write_pipe c v name pipe n)
      (λ n is. when_unless (nat_eq pipe.readers 0) _ (λ _. done_at c n (c.moved + fit pipe (n - c.moved))
      (record v { descriptors = change_pipe name (with_more (next_bytes c v (fit pipe (n - c.moved))) pipe) v.descriptors })) refl)))

  -- ---- sbrk

  abbrev new_size : Image → ℕ → Own
  new_size image free = done c (pos v.image.size) (record v { image = image; free = free })

  -- whether it is smaller, and whether it is as large or larger
  abbrev with_size : ℕ → Bool → Bool → Own
  with_size size smaller larger =
      let image = cond smaller (shrunk v.image size) (grown v.image size) in
      (refused c v when larger && nat_lt v.free (price image - price v.image)) >> new_size image (v.free + price v.image - price image)

  abbrev sized : ℕ → Own
  sized size = (refused c v when nat_lt SIZE_LIMIT size) >> with_size size (nat_lt size v.image.size) (nat_le v.image.size size)

  over : (size : ℕ) → nat_lt SIZE_LIMIT size ≡ true → (x : Own) (d : Bool) (go : Unit {0} → Own) → ((refused c v when nat_lt SIZE_LIMIT size) >> x) ≡ unless (nat_lt SIZE_LIMIT size || d) c v go
  unfolding ◌>>=◌ ◌>>◌ ◌when◌ ◌or◌
  over size above x d go = ap (λ b. (refused c v when b) >> x) above ∙ sym (ap (λ b. unless (b || d) c v go) above)

  grow_same : (size : ℕ) → v.image.size ≤ size → sized size ≡ grow_to c v size
  unfolding ◌>>=◌ ◌>>◌ ◌when◌ ◌or◌
  grow_same size more = elim (cases_lt SIZE_LIMIT size) [
    | inl above ↦ over size (lt-ltb SIZE_LIMIT size above) _ (nat_lt v.free frames) (λ _. new_size image (v.free - frames))
    | inr fits ↦
        let dearer = grown-price v.image size more fits in
        let left : v.free + price v.image - price image ≡ v.free - frames = omega (arith, dearer) in
        ap (λ b. (refused c v when b) >> with_size size (nat_lt size v.image.size) (nat_le v.image.size size)) (le-ltb SIZE_LIMIT size fits)
        ∙ ap (λ b. with_size size b (nat_le v.image.size size)) (le-ltb size v.image.size more)
        ∙ ap (λ b. with_size size false b) (le-leb v.image.size size more)
        ∙ when_unless (nat_lt v.free frames) _ (λ _. new_size image (v.free - frames)) (ap (new_size image) left)
        ∙ sym (ap (λ b. unless (b || nat_lt v.free frames) c v (λ _. new_size image (v.free - frames))) (le-ltb SIZE_LIMIT size fits))
  ]
    where
      image : Image
      image = grown v.image size

      frames : ℕ
      frames = price image - price v.image

  shrink_same : (size : ℕ) → size < v.image.size → sized size ≡ unless (nat_lt SIZE_LIMIT size) c v (λ _. shrink_to c v size)
  unfolding ◌>>=◌ ◌>>◌ ◌when◌ ◌or◌
  shrink_same size less =
      ap (λ b. (refused c v when nat_lt SIZE_LIMIT size) >> with_size size b (nat_le v.image.size size)) (lt-ltb size v.image.size less)
      ∙ ap (λ b. (refused c v when nat_lt SIZE_LIMIT size) >> with_size size true b) (lt-leb v.image.size size less)
      ∙ when_unless (nat_lt SIZE_LIMIT size) _ (λ _. shrink_to c v size) refl

  by_size : (z : ℤ) → ((natural (pos v.image.size +ℤ z) or refused c v) >>= sized) ≡ sbrk_by c v z
  unfolding ◌>>=◌ ◌>>◌ ◌when◌ ◌or◌
  by_size (pos n) = grow_same (v.image.size + n) (omega arith)
  by_size (negsuc k) = elim (cases_lt k v.image.size) [
    | inl below ↦
        ap (λ b. (natural (cond b (negsuc (suc k - suc v.image.size)) (pos (v.image.size - suc k))) or refused c v) >>= sized) (le-ltb v.image.size (suc k) below)
        ∙ shrink_same (v.image.size - suc k) (omega (arith, below))
        ∙ sym (ap (λ b. unless (b || nat_lt SIZE_LIMIT (v.image.size - suc k)) c v (λ _. shrink_to c v (v.image.size - suc k))) (lt-leb v.image.size k below))
    | inr past ↦
        ap (λ b. (natural (cond b (negsuc (suc k - suc v.image.size)) (pos (v.image.size - suc k))) or refused c v) >>= sized) (lt-ltb v.image.size (suc k) (omega (arith, past)))
        ∙ sym (ap (λ b. unless (b || nat_lt SIZE_LIMIT (v.image.size - suc k)) c v (λ _. shrink_to c v (v.image.size - suc k))) (le-leb v.image.size k past))
  ]

  pub sbrk_same : sbrk c v ≡ sbrk_parts c v
  unfolding sbrk
  sbrk_same = by_size (c_int c.a0)

  -- ---- open

  abbrev opened : ℕ → Shown → ℕ → Own
  opened mode shown fd = done c (pos fd) (record v { descriptors = with_descriptor fd (record { file = fd; read = not (nat_eq mode 1); write = not (nat_eq mode 0); shown = shown }) v.descriptors })

  pub none_opened : (o : Option ℕ) → refused c v ≡ open_at c v o None
  none_opened None = refl
  none_opened (Some k) = refl

  module _ (o : Option ℕ) where
    at_mode : (b : Bool) (mode : ℕ) (shown : Shown)
        → ((refused c v when b) >> ((o or refused c v) >>= opened mode shown)) ≡ open_at c v o (cond {A = Option (Bool × Bool × Shown)} b None (Some (not (nat_eq mode 1), not (nat_eq mode 0), shown)))
    unfolding ◌>>=◌ ◌>>◌ ◌when◌ ◌or◌
    at_mode true mode shown = none_opened o
    at_mode false mode shown = or_same o (refused c v) (opened mode shown) (λ o. open_at c v o (Some (not (nat_eq mode 1), not (nat_eq mode 0), shown))) refl (λ k. refl)

    program_mode : (b : Bool) (mode place : ℕ) → (b ≡ true → mode ≡ 0)
        → cond {A = Option (Bool × Bool × Shown)} (not b) None (Some (not (nat_eq mode 1), not (nat_eq mode 0), Shown_file place 0)) ≡ cond b (Some (true, false, Shown_file place 0)) None
    program_mode true mode place zero = ap (λ m. Some (not (nat_eq m 1), not (nat_eq m 0), Shown_file place 0)) (zero refl)
    program_mode false mode place zero = refl

    by_name : (what : Named) (z : ℤ) → ((shown_of what or refused c v) >>=
        (λ shown. (natural z or refused c v) >>= (λ mode. (refused c v when not (has_mode shown mode)) >>
        ((o or refused c v) >>= opened mode shown)))) ≡ open_at c v o (opened_as what z)
    unfolding ◌>>=◌ ◌>>◌ ◌when◌ ◌or◌
    by_name The_console (pos mode) = ap (λ b. (refused c v when b) >> ((o or refused c v) >>= opened mode Shown_terminal)) (above_2 mode) ∙ at_mode (nat_lt 2 mode) mode Shown_terminal
    by_name The_console (negsuc k) = none_opened o
    by_name (A_program place) (pos mode) = at_mode (not (nat_eq mode 0)) mode (Shown_file place 0) ∙ ap (open_at c v o) (program_mode (nat_eq mode 0) mode place (is_zero mode))
    by_name (A_program place) (negsuc k) = none_opened o
    by_name Nothing z = none_opened o

  pub open_same : open_file c v ≡ open_parts c v
  unfolding open_file
  open_same = or_same (text_at MAXPATH v.image c.a0) (refused c v) _ (open_path c v) refl
      (λ path. ap (λ o. (o or refused c v) >>= (λ shown. (natural (c_int c.a1) or refused c v) >>=
      (λ mode. (refused c v when not (has_mode shown mode)) >> ((lowest_free v.descriptors or refused c v) >>= opened mode shown))))
      (named_same v (no_slashes path))
      ∙ by_name (lowest_free v.descriptors) (kind_named (no_slashes path) v) (c_int c.a1))

  -- ---- sbrklazy

  pub sbrklazy_same : sbrklazy c v ≡ sbrklazy_parts c v
  unfolding sbrklazy
  sbrklazy_same = natural_same (c_int c.a0) _ _ (lazy_by c v) (λ k. refl)
      (λ n. when_unless (nat_lt SIZE_LIMIT (v.image.size + n)) _ (λ _. done c (pos v.image.size) (record v { image = grown_lazily v.image (v.image.size + n) })) refl)

  -- ---- the table

  by_row : (r : Row) → has_absent (buffer_of c (Some r)) v.image ≡ false → row r c v ≡ perform_row c v (Some r)
  unfolding row perform_row
  by_row Fork none = fork_same
  by_row Wait none = wait_same none
  by_row Pipe_row none = pipe_same none
  by_row Read none = read_same none
  by_row Kill none = kill_same
  by_row Exec none = exec_same
  by_row Dup none = dup_same
  by_row Sbrk none = sbrk_same
  by_row Sleep none = sleep_same
  by_row Open none = open_same
  by_row Write none = write_same
  by_row Close none = close_same
  by_row Sbrklazy none = sbrklazy_same
  by_row Exit none = refl
  by_row Getpid none = refl
  by_row Uptime none = refl

  refused_row : refused c v ≡ perform_row c v None
  unfolding perform_row
  refused_row = refl

  by_number : (o : Option Row) → has_absent (buffer_of c o) v.image ≡ false → ((o or refused c v) >>= (λ r. row r c v)) ≡ perform_row c v o
  unfolding ◌>>=◌ ◌>>◌ ◌when◌ ◌or◌
  by_number None none = refused_row
  by_number (Some r) none = by_row r none

  pub perform_same : IsSettled c v → perform c v ≡ perform_parts c v
  unfolding perform perform_parts
  perform_same none = by_number (row_of c.number) none

-- What is asked of a row may be asked of its parts
pub by_parts : {A : Type 0} (asked : Own → A) {a : A} (c : Call) (v : View) → IsSettled c v → asked (perform_parts c v) ≡ a → asked (perform c v) ≡ a
by_parts asked c v none is = ap asked (perform_same c v none) ∙ is

-- ---- a row whose buffer has absent pages

-- the view v with another image, and another number of free frames
abbrev with_image : View → Image → ℕ → View
with_image v image free = record v { image = image; free = free }

module _ (c : Call) (v : View) where
  -- it is refused, or it is this
  abbrev Either : Own → Own → Type 0
  Either x y = (x ≡ refused c v) ⊎ (x ≡ y)

  or_either : {A : Type 0} (o : Option A) (e : Own) (f g : A → Own) → ((a : A) → o ≡ Some a → Either (f a) (g a)) → Either ((o or refused c v) >>= f) ((o or e) >>= g)
  unfolding ◌>>=◌ ◌>>◌ ◌when◌ ◌or◌
  or_either None e f g go = inl refl
  or_either (Some a) e f g go = go a refl

  when_either : (b d : Bool) (e x y : Own) → (b ≡ false → d ≡ false) → Either x y → Either ((refused c v when b) >> x) ((e when d) >> y)
  unfolding ◌>>=◌ ◌>>◌ ◌when◌ ◌or◌
  when_either true d e x y same go = inl refl
  when_either false d e x y same go = subst (λ b. Either x ((e when b) >> y)) (sym (same refl)) go

  -- a test that fails
  past_either : (b : Bool) (d e x y : Own) → b ≡ false → Either x y → Either ((d when b) >> x) ((e when b) >> y)
  unfolding ◌>>=◌ ◌>>◌ ◌when◌ ◌or◌
  past_either b d e x y fails go = subst (λ b. Either ((d when b) >> x) ((e when b) >> y)) (sym fails) go

  when_refused : (b : Bool) (x : Own) → x ≡ refused c v → ((refused c v when b) >> x) ≡ refused c v
  unfolding ◌>>=◌ ◌>>◌ ◌when◌ ◌or◌
  when_refused true x is = refl
  when_refused false x is = is

  past_refused : (b : Bool) (d x : Own) → b ≡ false → x ≡ refused c v → ((d when b) >> x) ≡ refused c v
  unfolding ◌>>=◌ ◌>>◌ ◌when◌ ◌or◌
  past_refused b d x fails is = ap (λ b. (d when b) >> x) fails ∙ is

  or_refused : {A : Type 0} (o : Option A) (f : A → Own) → ((a : A) → o ≡ Some a → f a ≡ refused c v) → ((o or refused c v) >>= f) ≡ refused c v
  unfolding ◌>>=◌ ◌>>◌ ◌when◌ ◌or◌
  or_refused None f same = refl
  or_refused (Some a) f same = same a refl

  none_refused : (o : Option View) (f : View → Own) → o ≡ None → ((o or refused c v) >>= f) ≡ refused c v
  unfolding ◌>>=◌ ◌>>◌ ◌when◌ ◌or◌
  none_refused o f is = ap (λ o. (o or refused c v) >>= f) is

  -- a buffer that may be written may be so once its pages are there
  room-there : (i : Image) (ps : List ℕ) (a n : ℕ) → i ≡ brought ps v.image → not (writable v.image a n) ≡ false → not (writable i a n) ≡ false
  room-there i ps a n is fits = ap not (ap (λ j. writable j a n) is ∙ store-brought ps v.image a n (not-false (writable v.image a n) fits))

  room-where : (z : Bool) (i : Image) (ps : List ℕ) (a n : ℕ) → i ≡ brought ps v.image → (z && not (writable v.image a n)) ≡ false → (z && not (writable i a n)) ≡ false
  room-where true i ps a n is fits = room-there i ps a n is fits
  room-where false i ps a n is fits = refl

  natural-is : (z : ℤ) (n : ℕ) → natural z ≡ Some n → length_of_int z ≡ n
  natural-is (pos m) n e = ap (λ (o : Option ℕ). or_zero o) e
  natural-is (negsuc k) n e = let no : ⊥ = cc in absurd no

  -- a buffer with an absent page has a byte
  some-bytes : (a n : ℕ) → has_absent (pages_at a n) v.image ≡ true → nat_eq n 0 ≡ false
  some-bytes a n absent = elim (eqb_tells n 0) [
    | inl is ↦ let w : has_absent (pages_at a 0) v.image ≡ true = ap (λ k. has_absent (pages_at a k) v.image) (sym is.1) ∙ absent in let none : ⊥ = cc in absurd none
    | inr apart ↦ apart.0
  ]

  -- ---- where its pages cost more than is free, it is refused

  pub wait_none : touch (pages_at c.a0 (told_bytes c)) v ≡ None → wait c v ≡ refused c v
  unfolding wait
  wait_none e = when_refused (not (nat_eq c.a0 0) && not (writable v.image c.a0 4)) _ (when_refused (not (has_child v)) _ (none_refused (touch (pages_at c.a0 (told_bytes c)) v) _ e))

  pub pipe_none : touch (pages_at c.a0 8) v ≡ None → make_pipe c v ≡ refused c v
  unfolding make_pipe
  pipe_none e =
      when_refused (not (writable v.image c.a0 8)) _ (or_refused (lowest_free v.descriptors) _
      (λ r there. or_refused (lowest_free_above v.descriptors r) _ (λ w above. none_refused (touch (pages_at c.a0 8) v) _ e)))

  pub read_none : has_absent (pages_at c.a1 (length_of_int (c_int c.a2))) v.image ≡ true → touch (pages_at c.a1 (length_of_int (c_int c.a2))) v ≡ None → read c v ≡ refused c v
  unfolding read
  read_none absent e =
      or_refused (in_use v (c_int c.a0)) _ (λ d used. when_refused (not d.read) _
      (or_refused (natural (c_int c.a2)) _ (λ n asked.
      let length = natural-is (c_int c.a2) n asked in
      past_refused (nat_eq n 0) _ _ (some-bytes c.a1 n (ap (λ k. has_absent (pages_at c.a1 k) v.image) (sym length) ∙ absent))
      (when_refused (not (writable v.image c.a1 n)) _ (none_refused (touch (pages_at c.a1 n) v) _ (ap (λ k. touch (pages_at c.a1 k) v) (sym length) ∙ e))))))

  -- ---- and else it comes to what it comes to once they are there

  module _ (i : Image) (free : ℕ) where
    abbrev t : View
    t = with_image v i free

    touch_either : (ps : List ℕ) (f g : View → Own) → touch ps v ≡ Some t → Either (f t) (g t) → Either ((touch ps v or refused c v) >>= f) ((touch ps t or refused c t) >>= g)
    unfolding ◌>>=◌ ◌>>◌ ◌when◌ ◌or◌
    touch_either ps f g comes go =
        subst (λ o. Either ((o or refused c v) >>= f) ((touch ps t or refused c t) >>= g)) (sym comes)
        (subst (λ o. Either (f t) ((o or refused c t) >>= g)) (sym (touch-again ps v t comes)) go)

    wait_either : touch (pages_at c.a0 (told_bytes c)) v ≡ Some t → Either (wait c v) (wait c t)
    unfolding wait
    wait_either comes =
        let ps = pages_at c.a0 (told_bytes c) in
        when_either (not (nat_eq c.a0 0) && not (writable v.image c.a0 4)) (not (nat_eq c.a0 0) && not (writable i c.a0 4)) (refused c t) _ _
        (room-where (not (nat_eq c.a0 0)) i ps c.a0 4 (touch-comes ps v t comes).image)
        (when_either (not (has_child v)) (not (has_child v)) (refused c t) _ _ (λ e. e) (touch_either ps _ _ comes (inr refl)))

    pipe_either : touch (pages_at c.a0 8) v ≡ Some t → Either (make_pipe c v) (make_pipe c t)
    unfolding make_pipe
    pipe_either comes =
        let ps = pages_at c.a0 8 in
        when_either (not (writable v.image c.a0 8)) (not (writable i c.a0 8)) (refused c t) _ _ (room-there i ps c.a0 8 (touch-comes ps v t comes).image)
        (or_either (lowest_free v.descriptors) (refused c t) _ _ (λ r there. or_either (lowest_free_above v.descriptors r) (refused c t) _ _ (λ w above.
        touch_either ps _ _ comes (when_either (nat_eq free 0) (nat_eq free 0) (refused c t) _ _ (λ e. e) (inr refl)))))

    read_either : has_absent (pages_at c.a1 (length_of_int (c_int c.a2))) v.image ≡ true → touch (pages_at c.a1 (length_of_int (c_int c.a2))) v ≡ Some t → Either (read c v) (read c t)
    unfolding read
    read_either absent comes =
        or_either (in_use v (c_int c.a0)) (refused c t) _ _ (λ d used.
        when_either (not d.read) (not d.read) (refused c t) _ _ (λ e. e)
        (or_either (natural (c_int c.a2)) (refused c t) _ _ (λ n asked.
        let length = natural-is (c_int c.a2) n asked in
        let at = ap (λ k. touch (pages_at c.a1 k) v) (sym length) ∙ comes in
        past_either (nat_eq n 0) _ _ _ _ (some-bytes c.a1 n (ap (λ k. has_absent (pages_at c.a1 k) v.image) (sym length) ∙ absent))
        (when_either (not (writable v.image c.a1 n)) (not (writable i c.a1 n)) (refused c t) _ _ (room-there i (pages_at c.a1 n) c.a1 n (touch-comes (pages_at c.a1 n) v t at).image)
        (touch_either (pages_at c.a1 n) _ _ at (inr refl))))))

  -- ---- a row, behind the tests that it passes

  -- without a child a wait is refused
  pub wait_childless : has_child v ≡ false → wait c v ≡ refused c v
  unfolding wait ◌>>=◌ ◌>>◌ ◌when◌ ◌or◌
  wait_childless none = when_refused (not (nat_eq c.a0 0) && not (writable v.image c.a0 4)) _
      (ap (λ b. (refused c v when not b) >> ((touch (pages_at c.a0 (told_bytes c)) v or refused c v) >>= taking c v)) none)

  -- and so is one whose status can't be stored
  pub wait_unwritable : (not (nat_eq c.a0 0) && not (writable v.image c.a0 4)) ≡ true → wait c v ≡ refused c v
  unfolding wait ◌>>=◌ ◌>>◌ ◌when◌ ◌or◌
  wait_unwritable bad = ap (λ b. (refused c v when b) >> ((refused c v when not (has_child v)) >> ((touch (pages_at c.a0 (told_bytes c)) v or refused c v) >>= taking c v))) bad

  -- a pipe whose numbers can't be stored
  pub pipe_unwritable : writable v.image c.a0 8 ≡ false → make_pipe c v ≡ refused c v
  unfolding make_pipe ◌>>=◌ ◌>>◌ ◌when◌ ◌or◌
  pipe_unwritable bad = ap (λ b. (refused c v when not b) >>
      ((lowest_free v.descriptors or refused c v) >>= (λ r. (lowest_free_above v.descriptors r or refused c v) >>=
      (λ w. (touch (pages_at c.a0 8) v or refused c v) >>= piping c v r w)))) bad

  module _ (i : Image) (free : ℕ) where
    pub wait_on : (not (nat_eq c.a0 0) && not (writable v.image c.a0 4)) ≡ false → has_child v ≡ true → touch (pages_at c.a0 (told_bytes c)) v ≡ Some (t i free) → wait c v ≡ wait c (t i free)
    unfolding wait
    wait_on room child comes =
        let ps = pages_at c.a0 (told_bytes c) in
        passes _ (refused c v) _ room ∙ passes _ (refused c v) _ (ap not child) ∙ takes (touch ps v) (t i free) (refused c v) _ comes
        ∙ sym (passes _ (refused c (t i free)) _ (room-where (not (nat_eq c.a0 0)) i ps c.a0 4 (touch-comes ps v (t i free) comes).image room)
        ∙ passes _ (refused c (t i free)) _ (ap not child)
        ∙ takes (touch ps (t i free)) (t i free) (refused c (t i free)) _ (touch-again ps v (t i free) comes))

    pub pipe_on : (r w : ℕ) → writable v.image c.a0 8 ≡ true → lowest_free v.descriptors ≡ Some r → lowest_free_above v.descriptors r ≡ Some w
        → touch (pages_at c.a0 8) v ≡ Some (t i free) → nat_eq free 0 ≡ false
        → make_pipe c v ≡ make_pipe c (t i free)
    unfolding make_pipe
    pipe_on r w room least above comes some =
        let ps = pages_at c.a0 8 in
        passes _ (refused c v) _ (ap not room) ∙ takes _ r (refused c v) _ least ∙ takes _ w (refused c v) _ above ∙ takes (touch ps v) (t i free) (refused c v) _ comes ∙ passes _ (refused c v) _ some
        ∙ sym (passes _ (refused c (t i free)) _ (room-there i ps c.a0 8 (touch-comes ps v (t i free) comes).image (ap not room))
        ∙ takes _ r (refused c (t i free)) _ least ∙ takes _ w (refused c (t i free)) _ above
        ∙ takes (touch ps (t i free)) (t i free) (refused c (t i free)) _ (touch-again ps v (t i free) comes) ∙ passes _ (refused c (t i free)) _ some)

    pub read_there : (fd n : ℕ) (d : Descriptor) → c_int c.a0 ≡ pos fd → v.descriptors fd ≡ Some d → d.read ≡ true → c_int c.a2 ≡ pos n
        → nat_eq n 0 ≡ false → writable v.image c.a1 n ≡ true → touch (pages_at c.a1 n) v ≡ Some (t i free)
        → read c v ≡ read c (t i free)
    unfolding read
    read_there fd n d number used reads count some room comes =
        let ps = pages_at c.a1 n in
        takes _ d (refused c v) _ (ap (in_use v) number ∙ used) ∙ passes _ (refused c v) _ (ap not reads) ∙ takes _ n (refused c v) _ (ap natural count)
        ∙ passes _ (done c (pos 0) v) _ some ∙ passes _ (refused c v) _ (ap not room) ∙ takes (touch ps v) (t i free) (refused c v) _ comes
        ∙ sym (takes _ d (refused c (t i free)) _ (ap (in_use (t i free)) number ∙ used) ∙ passes _ (refused c (t i free)) _ (ap not reads) ∙ takes _ n (refused c (t i free)) _ (ap natural count)
        ∙ passes _ (done c (pos 0) (t i free)) _ some ∙ passes _ (refused c (t i free)) _ (room-there i ps c.a1 n (touch-comes ps v (t i free) comes).image (ap not room))
        ∙ takes (touch ps (t i free)) (t i free) (refused c (t i free)) _ (touch-again ps v (t i free) comes))

  -- the same of the view that a touch leaves
  pub wait_ready : (u : View) → (not (nat_eq c.a0 0) && not (writable v.image c.a0 4)) ≡ false → has_child v ≡ true → touch (pages_at c.a0 (told_bytes c)) v ≡ Some u → wait c v ≡ wait c u
  wait_ready u room child comes = let is = (touch-comes _ v u comes).view in wait_on u.image u.free room child (comes ∙ ap Some is) ∙ ap (wait c) (sym is)

  pub pipe_ready : (u : View) (r w : ℕ) → writable v.image c.a0 8 ≡ true → lowest_free v.descriptors ≡ Some r
      → lowest_free_above v.descriptors r ≡ Some w → touch (pages_at c.a0 8) v ≡ Some u → nat_eq u.free 0 ≡ false → make_pipe c v ≡ make_pipe c u
  pipe_ready u r w room least above comes some = let is = (touch-comes _ v u comes).view in pipe_on u.image u.free r w room least above (comes ∙ ap Some is) some ∙ ap (make_pipe c) (sym is)

  -- no frame is left beside the buffer's pages
  pub pipe_full : (u : View) → touch (pages_at c.a0 8) v ≡ Some u → u.free ≡ 0 → make_pipe c v ≡ refused c v
  unfolding make_pipe ◌>>=◌ ◌>>◌ ◌when◌ ◌or◌
  pipe_full u comes none =
      when_refused (not (writable v.image c.a0 8)) _ (or_refused (lowest_free v.descriptors) _ (λ r there. or_refused (lowest_free_above v.descriptors r) _ (λ w above.
      takes (touch (pages_at c.a0 8) v) u (refused c v) (piping c v r w) comes ∙ ap (λ n. (refused c v when nat_eq n 0) >> piped c u r (Some w)) none)))

  pub read_ready : (u : View) (fd n : ℕ) (d : Descriptor) → c_int c.a0 ≡ pos fd → v.descriptors fd ≡ Some d → d.read ≡ true → c_int c.a2 ≡ pos n
      → nat_eq n 0 ≡ false → writable v.image c.a1 n ≡ true → touch (pages_at c.a1 n) v ≡ Some u
      → read c v ≡ read c u
  read_ready u fd n d number used reads count some room comes = let is = (touch-comes _ v u comes).view in
      read_there u.image u.free fd n d number used reads count some room (comes ∙ ap Some is) ∙ ap (read c) (sym is)

  -- ---- a read that is refused, or moves nothing

  refuses : (b : Bool) (x : Own) → b ≡ true → ((refused c v when b) >> x) ≡ refused c v
  unfolding ◌>>=◌ ◌>>◌ ◌when◌ ◌or◌
  refuses b x holds = ap (λ b. (refused c v when b) >> x) holds

  ends-at : (b : Bool) (e x : Own) → b ≡ true → ((e when b) >> x) ≡ e
  unfolding ◌>>=◌ ◌>>◌ ◌when◌ ◌or◌
  ends-at b e x holds = ap (λ b. (e when b) >> x) holds

  number-is : (z : ℤ) (n : ℕ) → natural z ≡ Some n → z ≡ pos n
  number-is (pos m) n e = ap pos (ap or_zero e)
  number-is (negsuc k) n e = let none : ⊥ = cc in absurd none

  -- a pipe without a descriptor for each end
  pub pipe_no_read : lowest_free v.descriptors ≡ None → make_pipe c v ≡ refused c v
  unfolding make_pipe
  pipe_no_read none = when_refused (not (writable v.image c.a0 8)) _
      (or_refused (lowest_free v.descriptors) _ (λ r there. let w : Some r ≡ None = sym there ∙ none in let not-so : ⊥ = cc in absurd not-so))

  pub pipe_no_write : (r : ℕ) → lowest_free v.descriptors ≡ Some r → lowest_free_above v.descriptors r ≡ None → make_pipe c v ≡ refused c v
  unfolding make_pipe
  pipe_no_write r least none =
      when_refused (not (writable v.image c.a0 8)) _ (takes _ r (refused c v) _ least
      ∙ or_refused (lowest_free_above v.descriptors r) _ (λ w above. let e : Some w ≡ None = sym above ∙ none in let not-so : ⊥ = cc in absurd not-so))

  pub read_unused : in_use v (c_int c.a0) ≡ None → read c v ≡ refused c v
  unfolding read
  read_unused none =
      or_refused (in_use v (c_int c.a0)) _ (λ d used. let w : Some d ≡ None = sym used ∙ none in let not-so : ⊥ = cc in absurd not-so)

  module _ (fd : ℕ) (d : Descriptor) (number : c_int c.a0 ≡ pos fd) (used : v.descriptors fd ≡ Some d) where
    pub read_shut : d.read ≡ false → read c v ≡ refused c v
    unfolding read
    read_shut shut = takes _ d (refused c v) _ (ap (in_use v) number ∙ used) ∙ refuses _ _ (ap not shut)

    module _ (reads : d.read ≡ true) where
      pub read_below : ((n : ℕ) → c_int c.a2 ≡ pos n → ⊥) → read c v ≡ refused c v
      unfolding read
      read_below none =
          takes _ d (refused c v) _ (ap (in_use v) number ∙ used) ∙ passes _ (refused c v) _ (ap not reads)
          ∙ or_refused (natural (c_int c.a2)) _ (λ n is. absurd (none n (number-is (c_int c.a2) n is)))

      pub read_nothing : c_int c.a2 ≡ pos 0 → read c v ≡ done c (pos 0) v
      unfolding read
      read_nothing count =
          takes _ d (refused c v) _ (ap (in_use v) number ∙ used) ∙ passes _ (refused c v) _ (ap not reads)
          ∙ takes _ 0 (refused c v) _ (ap natural count) ∙ ends-at _ (done c (pos 0) v) _ refl

      pub read_unwritable : (n : ℕ) → c_int c.a2 ≡ pos n → nat_eq n 0 ≡ false → writable v.image c.a1 n ≡ false → read c v ≡ refused c v
      unfolding read
      read_unwritable n count some bad =
          takes _ d (refused c v) _ (ap (in_use v) number ∙ used) ∙ passes _ (refused c v) _ (ap not reads)
          ∙ takes _ n (refused c v) _ (ap natural count) ∙ passes _ (done c (pos 0) v) _ some ∙ refuses _ _ (ap not bad)

      pub read_dear : (n : ℕ) → c_int c.a2 ≡ pos n → nat_eq n 0 ≡ false → touch (pages_at c.a1 n) v ≡ None → read c v ≡ refused c v
      unfolding read
      read_dear n count some dear =
          takes _ d (refused c v) _ (ap (in_use v) number ∙ used) ∙ passes _ (refused c v) _ (ap not reads)
          ∙ takes _ n (refused c v) _ (ap natural count) ∙ passes _ (done c (pos 0) v) _ some ∙ when_refused _ _ (none_refused (touch (pages_at c.a1 n) v) _ dear)

  -- ---- a row, whatever its buffer

  -- it is refused, or is what its parts say once its buffer is there
  abbrev Performs : Own → Option Row → Type 0
  Performs x r = (x ≡ refused c v) ⊎ ((t : View) × IsBrought v t × (has_absent (buffer_of c r) t.image ≡ false) × (x ≡ perform_row c t r))

  as-it-is : (r : Row) → has_absent (buffer_of c (Some r)) v.image ≡ false → Performs (row r c v) (Some r)
  unfolding touch
  as-it-is r none = inr (v, ([], refl), none, by_row c v r none)

  -- by what the touch comes to
  touched_row : (r : Row) → (touch (buffer_of c (Some r)) v ≡ None → row r c v ≡ refused c v)
      → ((i : Image) (free : ℕ) → touch (buffer_of c (Some r)) v ≡ Some (with_image v i free) → Either (row r c v) (row r c (with_image v i free)))
      → Performs (row r c v) (Some r)
  touched_row r none some = by (touch (buffer_of c (Some r)) v) refl
    where
      by : (o : Option View) → touch (buffer_of c (Some r)) v ≡ o → Performs (row r c v) (Some r)
      by None e = inl (none e)
      by (Some t) e =
          let ps = buffer_of c (Some r) in
          let comes = touch-comes ps v t e in
          let settled = touch-settles ps v t e in
          elim (some t.image t.free (e ∙ ap Some comes.view)) [
            | inl refuses ↦ inl refuses
            | inr same ↦ inr (t, (ps, e), settled, same ∙ ap (row r c) (sym comes.view) ∙ by_row c t r settled)
          ]

  performs_row : (r : Row) → Performs (row r c v) (Some r)
  unfolding row
  performs_row Wait = touched_row Wait wait_none wait_either
  performs_row Pipe_row = touched_row Pipe_row pipe_none pipe_either
  performs_row Read = by (has_absent (buffer_of c (Some Read)) v.image) refl
    where
      by : (b : Bool) → has_absent (buffer_of c (Some Read)) v.image ≡ b → Performs (row Read c v) (Some Read)
      by true absent = touched_row Read (read_none absent) (λ i free. read_either i free absent)
      by false none = as-it-is Read none
  performs_row r = as-it-is r refl

  by_row_of : (o : Option Row) → Performs ((o or refused c v) >>= (λ r. row r c v)) o
  unfolding ◌>>=◌ ◌>>◌ ◌when◌ ◌or◌
  by_row_of None = inl refl
  by_row_of (Some r) = performs_row r

  -- each call is refused, or is what the parts of its row say once its buffer is there
  pub performs : (perform c v ≡ refused c v) ⊎ ((t : View) × IsBrought v t × IsSettled c t × (perform c v ≡ perform_parts c t))
  unfolding perform perform_parts
  performs = by_row_of (row_of c.number)

-- Each row is refused exactly if one of its tests holds.
use Rattle.std.proofs.Common.{◌≡◌, ◌≢◌, ℕ, ◌+◌, ◌&&◌, ◌||◌, ◌++◌, not, Bool, cond, true, false, List, [], ◌∷◌, Option, Some, None, refl, sym, ap, ◌∙◌, arith, ne_eqb}
use Rattle.std.specs.Prelude.{ℤ, pos, negsuc, IsSome, Result, Ok, Err, nat_lt, nat_le, is_none, is_some, bytes_eq, option_map, ◌==◌}
use Rattle.std.specs.Ordering.{int_eq}
use Rattle.std.specs.List.{list_any, position_from}
use Rattle.std.proofs.lemmas.Bool.{eqb-true, le-ltb}
use Rattle.std.proofs.lemmas.Bool.Decides.{Decides-int_eq}
use Rattle.xk_base.specs.declared.access.Access.{Access}
use Rattle.xk_base.specs.declared.access.Access.TheVariants.{Load, Store}
use Rattle.xk_base.specs.declared.limits.TheConstants.{ADDRESS_END, ARG_BYTES, MAXARG, MAXPATH, NOFILE, NPROC, PID_MAX, SIZE_LIMIT}
use Rattle.xk_base.specs.Image.{price}
use Rattle.xk_base.specs.Loaded.{Loaded, loaded}
use Rattle.xk_base.specs.declared.errors.ExecError.{ExecError}
use Rattle.xk_base.specs.declared.errors.ExecError.TheVariants as errors
use Rattle.addr_space.specs.Absent.{pages_at}
use Rattle.file_table.specs.declared.open_file.End.{End}
use Rattle.pipe_core.specs.Pipe.{Pipe}
use Rattle.proc_table.specs.declared.process.Call.{Call}
use Rattle.kernel_spec.specs.rows.Buffers as buffers
use Rattle.kernel_spec.specs.rows.Buffers.{no_slashes, readable, writable, reaches_touching}
use Rattle.kernel_spec.specs.rows.Calls.{Row, Fork, Exit, Wait, Pipe_row, Read, Kill, Exec, Dup, Getpid, Sbrk, Sleep, Uptime, Open, Write, Close, Sbrklazy}
use Rattle.kernel_spec.specs.rows.Calls.{fork, exit, wait, make_pipe, read, kill, exec, dup, sbrk, sleep, open_file, write, close, sbrklazy}
use Rattle.kernel_spec.specs.rows.Calls.{answered, done, has_child, has_mode, least_zombie, perform, refused, row, row_of, waits}
use Rattle.kernel_spec.specs.rows.Lines.{◌>>=◌, ◌>>◌, ◌when◌, ◌or◌, natural, result_of}
use Rattle.kernel_spec.specs.rows.Tables.{lowest_free, lowest_free_above}
use Rattle.kernel_spec.specs.rows.Touches.{touch}
use Rattle.kernel_spec.specs.steps.Own.{Own, Blocked, Called}
use Rattle.kernel_spec.specs.views.Programs.{place_of, program_named}
use Rattle.kernel_spec.specs.views.State.{ProgramFile}
use Rattle.kernel_spec.specs.views.View.{View, Descriptor, Shown, Shown_terminal, Shown_file, Shown_pipe, in_use}
use Rattle.kernel_spec.specs.views.Words.{c_int, minus_one}
use Rattle.call_reasons.specs.Facts.{Facts, can_reach, facts_of, file_named, is_file, is_unread, names_process, opened_of}
use Rattle.call_reasons.specs.Reasons.{at_least_zero, costs_too_much, first, has_no_frame, has_no_reader, is_bad_size, is_below_zero, is_on_file, is_short, cannot_hold, cannot_load}
use Rattle.call_reasons.specs.Reasons.{may_be_read, may_be_written, of_loading, opens_in, reason_by, reason_of, reason_told, size_after, tests}
use Rattle.call_reasons.specs.Laws.{Answers, EndsLow, OthersHaveNone, ReasonsRefuse, RefusalsHaveReasons, ToldAfterwards, ToldIsReason}
use Rattle.call_reasons.specs.declared.opened.Opened.{Opened}
use Rattle.call_reasons.specs.declared.reason.Reason.{Reason}
use Rattle.call_reasons.specs.declared.reason.Reason.TheVariants.{NotOpen, NotForReading, NotForWriting, BelowZero, NotReadable, NotWritable, NoReader, NoProcess, NoDescriptor}
use Rattle.call_reasons.specs.declared.reason.Reason.TheVariants.{BadSize, NoFrames, NoRoom, NoPath, NoList, NotNamed, NoProgram, NotInMode}
use Rattle.call_reasons.specs.Loading.{error_of, load_error}
use Rattle.call_reasons.specs.Texts.{is_console, is_named, name_in, text_at, texts_at}
use Rattle.call_reasons.proofs.Reach.{is_reached, not_reached}
use Rattle.call_reasons.proofs.Told.{Follows, text_follows, texts_follow}
use Rattle.call_reasons.proofs.Counts.{CountsOne, CountsTwo, least_counts, two_counted}

-- a program has a place exactly if it is found
place_is : (name : List ℕ) (programs : List ProgramFile) (k : ℕ) → is_some (position_from (λ (p : ProgramFile). bytes_eq p.name name) k programs) ≡ is_some (program_named name programs)
place_is name [] k = refl
place_is name (p ∷ later) k = by (bytes_eq p.name name) (place_is name later (k + 1))
  where
    by : (b : Bool) → is_some (position_from (λ (q : ProgramFile). bytes_eq q.name name) (k + 1) later) ≡ is_some (program_named name later)
        → is_some (cond b (Some k) (position_from (λ (q : ProgramFile). bytes_eq q.name name) (k + 1) later)) ≡ is_some (cond b (Some p) (program_named name later))
    by true e = refl
    by false e = e

abbrev Tests : Type 0
Tests = List (Reason × Bool)

-- a step of the call is refused if there is a reason, and else it answers something else than -1
abbrev FitsReason : Call → View → Own → Option Reason → Type 0
FitsReason c v o None = o.answer ≢ Called c.number minus_one
FitsReason c v o (Some reason) = EndsLow v → o ≡ refused c v

-- the same by tests
unfoldable Fits : Call → View → Own → Tests → Type 0
Fits c v o tests = FitsReason c v o (first tests)

module _ (c : Call) (v : View) where
  -- ---- what isn't refused

  answers_well : (o : Own) (n : ℕ) → o.answer ≡ Called c.number (pos n) → Fits c v o []
  unfolding Fits
  answers_well o n is e = let both : Called c.number (pos n) ≡ Called c.number minus_one = sym is ∙ e in let no : ⊥ = cc in no

  done_well : (n : ℕ) (w : View) → Fits c v (done c (pos n) w) []
  done_well n w = answers_well (done c (pos n) w) n refl

  waits_well : (moved : ℕ) (w : View) → Fits c v (waits c moved w) []
  unfolding Fits
  waits_well moved w e = let no : ⊥ = cc in no

  either : (b : Bool) (x y : Own) → Fits c v x [] → Fits c v y [] → Fits c v (cond b x y) []
  either true x y h g = h
  either false x y h g = g

  blocks_well : (o : Own) → o.answer ≡ Blocked c.number → Fits c v o []
  unfolding Fits
  blocks_well o is e = let both : Blocked c.number ≡ Called c.number minus_one = sym is ∙ e in let no : ⊥ = cc in no

  unless_when : (b : Bool) (e x : Own) → Fits c v e [] → Fits c v x [] → Fits c v ((e when b) >> x) []
  unfolding ◌>>◌ ◌when◌
  unless_when true e x h g = h
  unless_when false e x h g = g

  or_else : {A : Type 0} (o : Option A) (e : Own) (f : A → Own) → Fits c v e [] → ((a : A) → Fits c v (f a) []) → Fits c v ((o or e) >>= f) []
  unfolding ◌>>=◌ ◌or◌
  or_else None e f h g = h
  or_else (Some a) e f h g = g a

  -- ---- a line, and its test

  refused_so : (reason : Reason) (rest : Tests) → Fits c v (refused c v) ((reason, true) ∷ rest)
  unfolding Fits
  refused_so reason rest low = refl

  refusing_so : (o : Own) (reason : Reason) (rest : Tests) → (EndsLow v → o ≡ refused c v) → Fits c v o ((reason, true) ∷ rest)
  unfolding Fits
  refusing_so o reason rest h = h

  ends : (o : Own) → ((refused c v when true) >> o) ≡ refused c v
  unfolding ◌>>◌ ◌when◌
  ends o = refl

  goes : (o : Own) → ((refused c v when false) >> o) ≡ o
  unfolding ◌>>◌ ◌when◌
  goes o = refl

  passed : (reason : Reason) (rest : Tests) (o : Own) → Fits c v o rest → Fits c v o ((reason, false) ∷ rest)
  unfolding Fits
  passed reason rest o h = h

  by_when : (reason : Reason) (b : Bool) (rest : Tests) (o : Own) → Fits c v o rest → Fits c v ((refused c v when b) >> o) ((reason, b) ∷ rest)
  unfolding ◌>>◌ ◌when◌
  by_when reason true rest o h = refused_so reason rest
  by_when reason false rest o h = passed reason rest o h

  by_some : {A : Type 0} (o : Option A) (reason : Reason) (f : A → Own) (rest : Option A → Tests) → ((a : A) → Fits c v (f a) (rest (Some a)))
      → Fits c v ((o or refused c v) >>= f) ((reason, is_none o) ∷ rest o)
  unfolding ◌>>=◌ ◌or◌
  by_some None reason f rest h = refused_so reason (rest None)
  by_some (Some a) reason f rest h = passed reason (rest (Some a)) (f a) (h a)

  by_descriptor : (o : Option Descriptor) (reason : Reason) (f : Descriptor → Own) (rest : Tests) → ((d : Descriptor) → Fits c v (f d) rest)
      → Fits c v ((o or refused c v) >>= f) ((reason, is_none (option_map opened_of o)) ∷ rest)
  unfolding ◌>>=◌ ◌or◌
  by_descriptor None reason f rest h = refused_so reason rest
  by_descriptor (Some d) reason f rest h = passed reason rest (f d) (h d)

  -- a descriptor on the console, on a file or on a pipe
  by_kinds : (o : Option Descriptor) (reason : Reason) (f : Descriptor → Own) (rest : Option Opened → Tests)
      → ((file : ℕ) (r w : Bool) → Fits c v (f (record { file = file; read = r; write = w; shown = Shown_terminal }))
      (rest (Some (record { reads = r; writes = w; is_file = false; is_unread = false }))))
      → ((file : ℕ) (r w : Bool) (program offset : ℕ) → Fits c v (f (record { file = file; read = r; write = w; shown = Shown_file program offset }))
      (rest (Some (record { reads = r; writes = w; is_file = true; is_unread = false }))))
      → ((file : ℕ) (r w : Bool) (name : ℕ) (end : End) (pipe : Pipe) → Fits c v (f (record { file = file; read = r; write = w; shown = Shown_pipe name end pipe }))
      (rest (Some (record { reads = r; writes = w; is_file = false; is_unread = pipe.readers == 0 }))))
      → Fits c v ((o or refused c v) >>= f) ((reason, is_none (option_map opened_of o)) ∷ rest (option_map opened_of o))
  unfolding ◌>>=◌ ◌or◌
  by_kinds None reason f rest terminal a_file a_pipe = refused_so reason (rest None)
  by_kinds (Some d) reason f rest terminal a_file a_pipe = passed reason (rest (Some (opened_of d))) (f d) (by d.shown)
    where
      by : (s : Shown) → Fits c v (f (record d { shown = s })) (rest (Some (opened_of (record d { shown = s }))))
      by Shown_terminal = terminal d.file d.read d.write
      by (Shown_file program offset) = a_file d.file d.read d.write program offset
      by (Shown_pipe name end pipe) = a_pipe d.file d.read d.write name end pipe

  -- a buffer
  by_reach : (access : Access) (a n : ℕ) (reason : Reason) (rest : Tests) (o : Own) → Fits c v o rest
      → Fits c v ((refused c v when not (reaches_touching access v.image a n)) >> o) ((reason, not (can_reach access v.image a n)) ∷ rest)
  by_reach access a n reason rest o h = by (can_reach access v.image a n) refl
    where
      refusing : can_reach access v.image a n ≡ false → EndsLow v → ((refused c v when not (reaches_touching access v.image a n)) >> o) ≡ refused c v
      refusing is low = ap (λ b. (refused c v when not b) >> o) (not_reached access v.image a (low access) n is) ∙ ends o

      by : (b : Bool) → can_reach access v.image a n ≡ b → Fits c v ((refused c v when not (reaches_touching access v.image a n)) >> o) ((reason, not b) ∷ rest)
      by true is = rw (is_reached access v.image a n is, goes o) (passed reason rest o h)
      by false is = refusing_so _ reason rest (refusing is)

  by_reach_unless : (nowhere : Bool) (access : Access) (a n : ℕ) (reason : Reason) (rest : Tests) (o : Own) → Fits c v o rest
      → Fits c v ((refused c v when (not nowhere && not (reaches_touching access v.image a n))) >> o) ((reason, not nowhere && not (can_reach access v.image a n)) ∷ rest)
  unfolding ◌>>◌ ◌when◌
  by_reach_unless true access a n reason rest o h = passed reason rest o h
  by_reach_unless false access a n reason rest o h = by_reach access a n reason rest o h

  by_natural : (z : ℤ) (reason : Reason) (f : ℕ → Own) (rest : ℤ → Tests) → ((n : ℕ) → Fits c v (f n) (rest (pos n)))
      → Fits c v ((natural z or refused c v) >>= f) ((reason, is_below_zero z) ∷ rest z)
  unfolding ◌>>=◌ ◌or◌
  by_natural (pos n) reason f rest h = passed reason (rest (pos n)) (f n) (h n)
  by_natural (negsuc k) reason f rest h = refused_so reason (rest (negsuc k))

  by_open : (z : ℤ) (reason : Reason) (f : ℕ → Descriptor → Own) (rest : Tests) → ((n : ℕ) (d : Descriptor) → Fits c v (f n d) rest)
      → Fits c v ((natural z or refused c v) >>= (λ fd. (v.descriptors fd or refused c v) >>= f fd)) ((reason, is_none (option_map opened_of (in_use v z))) ∷ rest)
  unfolding ◌>>=◌ ◌or◌
  by_open (negsuc k) reason f rest h = refused_so reason rest
  by_open (pos n) reason f rest h = by_descriptor (v.descriptors n) reason (f n) rest (h n)

  by_free : (reason : Reason) (f : ℕ → Own) (rest : Tests) → ((k : ℕ) → Fits c v (f k) rest)
      → Fits c v ((lowest_free v.descriptors or refused c v) >>= f) ((reason, (facts_of v).free_descriptors == 0) ∷ rest)
  unfolding ◌>>=◌ ◌or◌
  by_free reason f rest h = on (lowest_free v.descriptors) (facts_of v).free_descriptors (least_counts (λ d. is_none (v.descriptors d)) NOFILE)
    where
      on : (o : Option ℕ) (n : ℕ) → CountsOne o n → Fits c v ((o or refused c v) >>= f) ((reason, n == 0) ∷ rest)
      on None n none = rw none (refused_so reason rest)
      on (Some k) n some = rw (ne_eqb n 0 (λ e. omega (arith, e, some))) (passed reason rest (f k) (h k))

  by_two : (reason : Reason) (f : ℕ → ℕ → Own) (rest : Tests) → ((r w : ℕ) → Fits c v (f r w) rest)
      → Fits c v ((lowest_free v.descriptors or refused c v) >>= (λ r. (lowest_free_above v.descriptors r or refused c v) >>= f r))
      ((reason, nat_lt (facts_of v).free_descriptors 2) ∷ rest)
  unfolding ◌>>=◌ ◌or◌
  by_two reason f rest h = on (lowest_free v.descriptors) refl (least_counts (λ d. is_none (v.descriptors d)) NOFILE)
    where
      second : (r : ℕ) (o : Option ℕ) (n : ℕ) → CountsTwo o n → Fits c v ((o or refused c v) >>= f r) ((reason, nat_lt n 2) ∷ rest)
      second r None n one = rw one (refused_so reason rest)
      second r (Some w) n two = rw (le-ltb n 2 two) (passed reason rest (f r w) (h r w))

      on : (o : Option ℕ) → lowest_free v.descriptors ≡ o → CountsOne o (facts_of v).free_descriptors
          → Fits c v ((o or refused c v) >>= (λ r. (lowest_free_above v.descriptors r or refused c v) >>= f r)) ((reason, nat_lt (facts_of v).free_descriptors 2) ∷ rest)
      on None is none = rw none (refused_so reason rest)
      on (Some r) is some = second r (lowest_free_above v.descriptors r) (facts_of v).free_descriptors (two_counted (λ d. is_none (v.descriptors d)) NOFILE r is)

  -- a call that moves no bytes is done at once
  unless_nothing : (b : Bool) (reason : Reason) (there : Bool) (rest : Tests) (o : Own) → (b ≡ true → there ≡ true) → (b ≡ true → Fits c v (done c (pos 0) v) rest)
      → Fits c v o ((reason, not there) ∷ rest) → Fits c v ((done c (pos 0) v when b) >> o) ((reason, not there) ∷ rest)
  unfolding ◌>>◌ ◌when◌
  unless_nothing true reason there rest o is h g = rw (is refl) (passed reason rest (done c (pos 0) v) (h refl))
  unless_nothing false reason there rest o is h g = g

  -- 0 bytes may be anywhere
  none_reach : (access : Access) (a n : ℕ) → (n == 0) ≡ true → can_reach access v.image a n ≡ true
  none_reach access a n e = ap (λ b. b || nat_le (a + n) ADDRESS_END && reaches_touching access v.image a n) e

  -- ---- rows

  fork_fits : Fits c v (fork c v) (tests Fork c (facts_of v) (is_short Fork c v))
  unfolding fork tests is_short ◌>>◌ ◌when◌
  fork_fits = by (nat_le NPROC _) (nat_lt PID_MAX v.next_pid) (nat_lt v.free (price v.image + 1)) _ (answers_well _ v.next_pid refl)
    where
      by : (a b d : Bool) (o : Own) → Fits c v o []
          → Fits c v ((refused c v when a) >> ((refused c v when b) >> ((refused c v when d) >> o))) ((NoRoom v.free, a || b || d) ∷ [])
      by true b d o h = refused_so _ []
      by false true d o h = refused_so _ []
      by false false true o h = refused_so _ []
      by false false false o h = passed _ [] o h

  wait_fits : Fits c v (wait c v) (tests Wait c (facts_of v) (is_short Wait c v))
  unfolding wait tests is_short
  wait_fits =
      by_reach_unless (c.a0 == 0) Store c.a0 4 _ _ _
      (by_when _ (not (has_child v)) _ _
      (by_some (touch (pages_at c.a0 (cond (c.a0 == 0) 0 4)) v) _ _ (λ _. []) (λ t. or_else (least_zombie t) (waits c 0 t) _ (waits_well 0 t) (λ q. answers_well _ q refl))))

  pipe_fits : Fits c v (make_pipe c v) (tests Pipe_row c (facts_of v) (is_short Pipe_row c v))
  unfolding make_pipe tests is_short ◌>>=◌ ◌or◌
  pipe_fits = by_reach Store c.a0 8 _ _ _ (by_two _ _ _ (λ r w. by (touch (pages_at c.a0 8) v) _ (λ t. answers_well _ 0 refl)))
    where
      by : (o : Option View) (f : View → Own) → ((t : View) → Fits c v (f t) [])
          → Fits c v ((o or refused c v) >>= (λ t. (refused c v when t.free == 0) >> f t)) ((NoFrames v.free, has_no_frame o) ∷ [])
      by None f h = refused_so _ []
      by (Some t) f h = by_when (NoFrames v.free) (t.free == 0) [] (f t) (h t)

  -- the tests of a read by a descriptor that may be read by
  abbrev of_reading : ℤ → Tests
  of_reading z =
      (NotWritable c.a1 (at_least_zero z), not (can_reach Store v.image c.a1 (at_least_zero z)))
      ∷ (NoFrames v.free, is_none (touch (pages_at c.a1 (at_least_zero z)) v))
      ∷ []

  -- nothing is touched for 0 bytes
  none_touched : (n : ℕ) → (n == 0) ≡ true → is_none (touch (pages_at c.a1 n) v) ≡ false
  unfolding touch
  none_touched n e = ap (λ m. is_none (touch (pages_at c.a1 m) v)) (eqb-true n 0 e)

  none_short : (b : Bool) → b ≡ false → Fits c v (done c (pos 0) v) ((NoFrames v.free, b) ∷ [])
  none_short b is = rw is (passed _ [] _ (done_well 0 v))

  reading_at : (d : Descriptor) (g : ℕ → View → Own) → ((n : ℕ) (t : View) → Fits c v (g n t) [])
      → Fits c v ((refused c v when not d.read) >> ((natural (c_int c.a2) or refused c v) >>= (λ n. (done c (pos 0) v when n == 0)
      >> ((refused c v when not (writable v.image c.a1 n)) >> ((touch (pages_at c.a1 n) v or refused c v) >>= g n)))))
      ((NotForReading (c_int c.a0), not d.read) ∷ (BelowZero (c_int c.a2), is_below_zero (c_int c.a2)) ∷ of_reading (c_int c.a2))
  reading_at d g h =
      by_when (NotForReading (c_int c.a0)) (not d.read) _ _
      (by_natural (c_int c.a2) (BelowZero (c_int c.a2)) _ of_reading (λ n.
      unless_nothing (n == 0) (NotWritable c.a1 n) (can_reach Store v.image c.a1 n) ((NoFrames v.free, is_none (touch (pages_at c.a1 n) v)) ∷ []) _ (none_reach Store c.a1 n)
      (λ e. none_short _ (none_touched n e))
      (by_reach Store c.a1 n (NotWritable c.a1 n) _ _
      (by_some (touch (pages_at c.a1 n) v) (NoFrames v.free) (g n) (λ _. []) (h n)))))

  read_fits : Fits c v (read c v) (tests Read c (facts_of v) (is_short Read c v))
  unfolding read tests is_short
  read_fits =
      by_kinds (in_use v (c_int c.a0)) (NotOpen (c_int c.a0)) _
      (λ o. (NotForReading (c_int c.a0), not (may_be_read o)) ∷ (BelowZero (c_int c.a2), is_below_zero (c_int c.a2)) ∷ of_reading (c_int c.a2))
      (λ file r w. reading_at (record { file = file; read = r; write = w; shown = Shown_terminal }) _ (λ n t. either _ _ _ (answers_well _ _ refl) (blocks_well _ refl)))
      (λ file r w program offset. reading_at (record { file = file; read = r; write = w; shown = Shown_file program offset }) _ (λ n t. answers_well _ _ refl))
      (λ file r w name end pipe. reading_at (record { file = file; read = r; write = w; shown = Shown_pipe name end pipe }) _
      (λ n t. unless_when _ _ _ (blocks_well _ refl) (answers_well _ _ refl)))

  pid_tested : (a b : Bool) (reason : Reason) (o : Own) → Fits c v o [] → Fits c v ((refused c v when a) >> ((refused c v when not b) >> o)) ((reason, not (not a && b)) ∷ [])
  unfolding ◌>>◌ ◌when◌
  pid_tested true b reason o h = refused_so reason []
  pid_tested false true reason o h = passed reason [] o h
  pid_tested false false reason o h = refused_so reason []

  by_pid : (z : ℤ) (reason : Reason) (f : ℕ → Own) → ((n : ℕ) → Fits c v (f n) [])
      → Fits c v ((natural z or refused c v) >>= (λ n. (refused c v when n == 0) >> ((refused c v when not (list_any (λ p. n == p) v.pids)) >> f n)))
      ((reason, not (names_process v z)) ∷ [])
  unfolding ◌>>=◌ ◌or◌
  by_pid (negsuc k) reason f h = refused_so reason []
  by_pid (pos n) reason f h = pid_tested (n == 0) (list_any (λ p. n == p) v.pids) reason (f n) (h n)

  kill_fits : Fits c v (kill c v) (tests Kill c (facts_of v) (is_short Kill c v))
  unfolding kill tests is_short
  kill_fits = by_pid (c_int c.a0) (NoProcess (c_int c.a0)) _ (λ n. answers_well _ 0 refl)

  dup_fits : Fits c v (dup c v) (tests Dup c (facts_of v) (is_short Dup c v))
  unfolding dup tests is_short
  dup_fits = by_open (c_int c.a0) _ _ _ (λ n d. by_free _ _ [] (λ to. answers_well _ to refl))

  by_size : (z : ℤ) (f : ℕ → Own) → ((n : ℕ) → Fits c v (f n) [])
      → Fits c v ((natural z or refused c v) >>= (λ n. (refused c v when nat_lt SIZE_LIMIT n) >> ((refused c v when costs_too_much v n) >> f n)))
      ((BadSize, is_bad_size z) ∷ (NoFrames v.free, costs_too_much v (at_least_zero z)) ∷ [])
  unfolding ◌>>=◌ ◌or◌
  by_size (negsuc k) f h = refused_so _ _
  by_size (pos n) f h = by_when BadSize (nat_lt SIZE_LIMIT n) _ _ (by_when _ (costs_too_much v n) [] (f n) (h n))

  sbrk_fits : Fits c v (sbrk c v) (tests Sbrk c (facts_of v) (is_short Sbrk c v))
  unfolding sbrk tests is_short
  sbrk_fits = by_size (size_after v.image.size (c_int c.a0)) _ (λ size. answers_well _ v.image.size refl)

  sleep_fits : Fits c v (sleep c v) (tests Sleep c (facts_of v) (is_short Sleep c v))
  unfolding sleep tests is_short
  sleep_fits = unless_when _ (waits c 0 v) (done c (pos 0) v) (waits_well 0 v) (done_well 0 v)

  -- the tests of a write by a descriptor that may be written by
  abbrev of_writing : (is_file is_unread : Bool) → ℤ → Tests
  of_writing is_file is_unread z =
      (NotReadable c.a1 (at_least_zero z), not (can_reach Load v.image c.a1 (at_least_zero z)))
      ∷ (NotForWriting (c_int c.a0), not (at_least_zero z == 0) && is_file)
      ∷ (NoReader, not (at_least_zero z == 0) && is_unread)
      ∷ []

  -- those that look at what it is on
  abbrev of_kinds : (nothing is_file is_unread : Bool) → Tests
  of_kinds nothing is_file is_unread = (NotForWriting (c_int c.a0), not nothing && is_file) ∷ (NoReader, not nothing && is_unread) ∷ []

  when_done : (o : Own) → ((done c (pos 0) v when true) >> o) ≡ done c (pos 0) v
  unfolding ◌>>◌ ◌when◌
  when_done o = refl

  when_goes : (o : Own) → ((done c (pos 0) v when false) >> o) ≡ o
  unfolding ◌>>◌ ◌when◌
  when_goes o = refl

  nothing_reached : (there : Bool) → there ≡ true → (is_file is_unread : Bool) (n : ℕ) → Fits c v (done c (pos 0) v) ((NotReadable c.a1 n, not there) ∷ of_kinds true is_file is_unread)
  nothing_reached there is is_file is_unread n = rw is (passed _ _ _ (passed _ _ _ (passed _ [] _ (done_well 0 v))))

  writing_at : (writes is_file is_unread : Bool) (g : ℕ → Own) → ((n : ℕ) → Fits c v (g n) (of_kinds false is_file is_unread))
      → Fits c v ((refused c v when not writes) >> ((natural (c_int c.a2) or refused c v) >>= (λ n. (done c (pos 0) v when n == 0) >> ((refused c v when not (readable v.image c.a1 n)) >> g n))))
      ((NotForWriting (c_int c.a0), not writes) ∷ (BelowZero (c_int c.a2), is_below_zero (c_int c.a2)) ∷ of_writing is_file is_unread (c_int c.a2))
  writing_at writes is_file is_unread g h =
      by_when (NotForWriting (c_int c.a0)) (not writes) _ _
      (by_natural (c_int c.a2) (BelowZero (c_int c.a2)) _ (of_writing is_file is_unread) (λ n. by n (n == 0) refl))
    where
      by : (n : ℕ) (b : Bool) → (n == 0) ≡ b → Fits c v ((done c (pos 0) v when b) >> ((refused c v when not (readable v.image c.a1 n)) >> g n))
          ((NotReadable c.a1 n, not (can_reach Load v.image c.a1 n)) ∷ of_kinds b is_file is_unread)
      by n true is = rw (when_done ((refused c v when not (readable v.image c.a1 n)) >> g n)) (nothing_reached (can_reach Load v.image c.a1 n) (none_reach Load c.a1 n is) is_file is_unread n)
      by n false is = rw (when_goes ((refused c v when not (readable v.image c.a1 n)) >> g n)) (by_reach Load c.a1 n (NotReadable c.a1 n) _ (g n) (h n))

  write_fits : Fits c v (write c v) (tests Write c (facts_of v) (is_short Write c v))
  unfolding write tests is_short
  write_fits =
      by_kinds (in_use v (c_int c.a0)) (NotOpen (c_int c.a0)) _
      (λ o. (NotForWriting (c_int c.a0), not (may_be_written o)) ∷ (BelowZero (c_int c.a2), is_below_zero (c_int c.a2)) ∷ of_writing (is_on_file o) (has_no_reader o) (c_int c.a2))
      (λ file r w. writing_at w false false _ (λ n. passed _ _ _ (passed _ [] _ (either _ _ _ (answers_well _ n refl) (blocks_well _ refl)))))
      (λ file r w program offset. writing_at w true false _ (λ n. refused_so _ _))
      (λ file r w name end pipe. writing_at w false (pipe.readers == 0) _ (λ n. passed _ _ _ (by_when NoReader (pipe.readers == 0) [] _ (either _ _ _ (answers_well _ n refl) (blocks_well _ refl)))))

  -- a path
  by_path : (g : List ℕ → Own) (rest : Option (List ℕ) → Tests)
      → ((path : List ℕ) → buffers.text_at MAXPATH v.image c.a0 ≡ Some path → Fits c v (g path) (rest (Some path)))
      → Fits c v ((buffers.text_at MAXPATH v.image c.a0 or refused c v) >>= g) ((NoPath c.a0, is_none (text_at (facts_of v) MAXPATH c.a0)) ∷ rest (text_at (facts_of v) MAXPATH c.a0))
  unfolding ◌>>=◌ ◌or◌
  by_path g rest h = by (text_at (facts_of v) MAXPATH c.a0) (buffers.text_at MAXPATH v.image c.a0) (text_follows v MAXPATH c.a0) h
    where
      by : (o there : Option (List ℕ)) → Follows v o there → ((path : List ℕ) → there ≡ Some path → Fits c v (g path) (rest (Some path)))
          → Fits c v ((there or refused c v) >>= g) ((NoPath c.a0, is_none o) ∷ rest o)
      by None there follows h = refusing_so _ _ (rest None) (λ low. ap (λ o. (o or refused c v) >>= g) (follows low))
      by (Some path) there follows h = rw follows (passed _ (rest (Some path)) (g path) (h path follows))

  -- a list of texts
  by_list : (g : List (List ℕ) → Own) (rest : Option (List (List ℕ)) → Tests)
      → ((texts : List (List ℕ)) → buffers.texts_at MAXARG ARG_BYTES v.image c.a1 ≡ Some texts → Fits c v (g texts) (rest (Some texts)))
      → Fits c v ((buffers.texts_at MAXARG ARG_BYTES v.image c.a1 or refused c v) >>= g)
      ((NoList c.a1, not (is_some (texts_at (facts_of v) MAXARG ARG_BYTES c.a1))) ∷ rest (texts_at (facts_of v) MAXARG ARG_BYTES c.a1))
  unfolding ◌>>=◌ ◌or◌
  by_list g rest h = by (texts_at (facts_of v) MAXARG ARG_BYTES c.a1) (buffers.texts_at MAXARG ARG_BYTES v.image c.a1) (texts_follow v MAXARG ARG_BYTES c.a1) h
    where
      by : (o there : Option (List (List ℕ))) → Follows v o there → ((texts : List (List ℕ)) → there ≡ Some texts → Fits c v (g texts) (rest (Some texts)))
          → Fits c v ((there or refused c v) >>= g) ((NoList c.a1, not (is_some o)) ∷ rest o)
      by None there follows h = refusing_so _ _ (rest None) (λ low. ap (λ o. (o or refused c v) >>= g) (follows low))
      by (Some texts) there follows h = rw follows (passed _ (rest (Some texts)) (g texts) (h texts follows))

  -- the tests of a program that is loaded with this error, if it is one
  abbrev loading : Option ExecError → (short : Bool) → Tests
  loading error short = of_loading c (facts_of v) short error

  by_loading : (r : Result Loaded ExecError) (g : Loaded → Own) → ((l : Loaded) → Fits c v (g l) [])
      → Fits c v ((result_of r or refused c v) >>= (λ l. (refused c v when nat_lt v.free (price l.image)) >> g l)) (loading (error_of r) (cannot_hold v (result_of r)))
  unfolding ◌>>=◌ ◌or◌
  by_loading (Ok l) g h = passed _ _ _ (passed _ _ _ (passed _ _ _ (by_when (NoFrames v.free) (nat_lt v.free (price l.image)) [] (g l) (h l))))
  by_loading (Err errors.NotElf) g h = refused_so _ _
  by_loading (Err (errors.BadSegment number)) g h = passed _ _ _ (refused_so _ _)
  by_loading (Err errors.TooManyArgs) g h = passed _ _ _ (passed _ _ _ (passed _ _ _ (refused_so _ _)))
  by_loading (Err errors.ArgsTooLong) g h = passed _ _ _ (passed _ _ _ (refused_so _ _))
  by_loading (Err errors.NoFrames) g h = passed _ _ _ (passed _ _ _ (passed _ _ _ (refused_so _ _)))

  by_loaded : (program : Option ProgramFile) (texts : List (List ℕ)) (g : Loaded → Own) → ((l : Loaded) → Fits c v (g l) [])
      → Fits c v ((program or refused c v) >>= (λ p. (result_of (loaded p.bytes texts) or refused c v) >>= (λ l. (refused c v when nat_lt v.free (price l.image)) >> g l)))
      ((NoProgram, not (is_some program)) ∷ loading (load_error (option_map (λ (p : ProgramFile). p.bytes) program) (Some texts)) (cannot_load v program (Some texts)))
  unfolding ◌>>=◌ ◌or◌ load_error
  by_loaded None texts g h = refused_so _ _
  by_loaded (Some p) texts g h = passed _ _ _ (by_loading (loaded p.bytes texts) g h)

  -- what is tested of a path and of texts
  abbrev of_program : (path : Option (List ℕ)) (texts : Option (List (List ℕ))) → Tests
  of_program path texts =
      (NoProgram, not (is_some (program_named (name_in path) v.programs)))
      ∷ loading (load_error (file_named (name_in path) v.programs) texts)
      (cannot_load v (program_named (name_in (buffers.text_at MAXPATH v.image c.a0)) v.programs) (buffers.texts_at MAXARG ARG_BYTES v.image c.a1))

  exec_fits : Fits c v (exec c v) (tests Exec c (facts_of v) (is_short Exec c v))
  unfolding exec tests is_short
  exec_fits =
      by_path _ (λ o. (NoList c.a1, not (is_some (texts_at (facts_of v) MAXARG ARG_BYTES c.a1))) ∷ of_program o (texts_at (facts_of v) MAXARG ARG_BYTES c.a1))
      (λ path is. by_list _ (of_program (Some path)) (λ texts there. rw (is, there) (by_loaded (program_named (no_slashes path) v.programs) texts _ (λ l. answers_well _ l.argc refl))))

  -- what a name names, and a mode
  by_mode : (shown : Shown) (z : ℤ) (g : ℕ → Own) (rest : Tests) → ((mode : ℕ) → Fits c v (g mode) rest)
      → Fits c v ((natural z or refused c v) >>= (λ mode. (refused c v when not (has_mode shown mode)) >> g mode))
      ((NotInMode z, not (not (is_below_zero z) && has_mode shown (at_least_zero z))) ∷ rest)
  unfolding ◌>>=◌ ◌or◌
  by_mode shown (negsuc k) g rest h = refused_so _ rest
  by_mode shown (pos n) g rest h = by_when _ (not (has_mode shown n)) rest (g n) (h n)

  by_name : (console : Bool) (place : Option ℕ) (there : Bool) (z : ℤ) (g : Shown → ℕ → Own) (rest : Tests) → is_some place ≡ there
      → ((shown : Shown) (mode : ℕ) → Fits c v (g shown mode) rest)
      → Fits c v ((cond console (Some Shown_terminal) (option_map (λ place. Shown_file place 0) place) or refused c v)
      >>= (λ shown. (natural z or refused c v) >>= (λ mode. (refused c v when not (has_mode shown mode)) >> g shown mode)))
      ((NotNamed, not (console || there)) ∷ (NotInMode z, not (not (is_below_zero z) && cond console (nat_le (at_least_zero z) 2) (at_least_zero z == 0))) ∷ rest)
  unfolding ◌>>=◌ ◌or◌
  by_name true place there z g rest is h = passed _ _ _ (by_mode Shown_terminal z (g Shown_terminal) rest (h Shown_terminal))
  by_name false None true z g rest is h = let no : ⊥ = cc in absurd no
  by_name false None false z g rest is h = refused_so _ _
  by_name false (Some place) false z g rest is h = let no : ⊥ = cc in absurd no
  by_name false (Some place) true z g rest is h = passed _ _ _ (by_mode (Shown_file place 0) z (g (Shown_file place 0)) rest (h (Shown_file place 0)))

  open_fits : Fits c v (open_file c v) (tests Open c (facts_of v) (is_short Open c v))
  unfolding open_file tests is_short
  open_fits =
      by_path _ (λ o. (NotNamed, not (is_named (facts_of v) (name_in o))) ∷ (NotInMode (c_int c.a1), not (opens_in (name_in o) (c_int c.a1)))
      ∷ (NoDescriptor (facts_of v).free_descriptors, (facts_of v).free_descriptors == 0) ∷ [])
      (λ path is. by_name (is_console (no_slashes path)) (place_of (no_slashes path) v.programs) _ (c_int c.a1) _ _ (place_is (no_slashes path) v.programs 0)
      (λ shown mode. by_free _ _ [] (λ fd. answers_well _ fd refl)))

  close_fits : Fits c v (close c v) (tests Close c (facts_of v) (is_short Close c v))
  unfolding close tests is_short
  close_fits = by_open (c_int c.a0) _ _ [] (λ n d. answers_well _ 0 refl)

  sbrklazy_fits : Fits c v (sbrklazy c v) (tests Sbrklazy c (facts_of v) (is_short Sbrklazy c v))
  unfolding sbrklazy tests is_short
  sbrklazy_fits =
      by_natural (c_int c.a0) _ _ (λ z. (BadSize, is_bad_size (size_after v.image.size z)) ∷ [])
      (λ n. by_when BadSize (nat_lt SIZE_LIMIT (v.image.size + n)) [] _ (answers_well _ v.image.size refl))

  exit_fits : Fits c v (exit c v) []
  unfolding Fits
  exit_fits e = let no : ⊥ = cc in no

  row_fits : (r : Row) → Fits c v (row r c v) (tests r c (facts_of v) (is_short r c v))
  unfolding row tests
  row_fits Fork = fork_fits
  row_fits Exit = exit_fits
  row_fits Wait = wait_fits
  row_fits Pipe_row = pipe_fits
  row_fits Read = read_fits
  row_fits Kill = kill_fits
  row_fits Exec = exec_fits
  row_fits Dup = dup_fits
  row_fits Getpid = done_well v.pid v
  row_fits Sbrk = sbrk_fits
  row_fits Sleep = sleep_fits
  row_fits Uptime = done_well v.clock v
  row_fits Open = open_fits
  row_fits Write = write_fits
  row_fits Close = close_fits
  row_fits Sbrklazy = sbrklazy_fits

  -- ---- a call

  call_fits : FitsReason c v (perform c v) (reason_of c v)
  unfolding Fits perform reason_of ◌>>=◌ ◌or◌
  call_fits = by (row_of c.number)
    where
      by : (o : Option Row) → FitsReason c v ((o or refused c v) >>= (λ r. row r c v)) (reason_by o c (facts_of v) (λ r. is_short r c v))
      by None = λ low. refl
      by (Some r) = row_fits r

  -- ---- what a machine shows

  -- a reason is the same if the last test is taken to hold
  unfoldable Tell : Tests → Reason → Type 0
  Tell tests reason = first tests ≡ Some reason

  lastly : (before : Tests) (reason other : Reason) (b : Bool) → Tell (before ++ (reason, b) ∷ []) other → Tell (before ++ (reason, true) ∷ []) other
  unfolding Tell
  lastly [] reason other true e = e
  lastly [] reason other false e = let no : ⊥ = cc in absurd no
  lastly (t ∷ before) reason other b e = by t.0 t.1 (lastly before reason other b) e
    where
      by : (r : Reason) (holds : Bool) → (Tell (before ++ (reason, b) ∷ []) other → Tell (before ++ (reason, true) ∷ []) other)
          → Tell ((r, holds) ∷ (before ++ (reason, b) ∷ [])) other → Tell ((r, holds) ∷ (before ++ (reason, true) ∷ [])) other
      by r true again e = e
      by r false again e = again e

  row_lastly : (r : Row) (b : Bool) (other : Reason) → Tell (tests r c (facts_of v) b) other → Tell (tests r c (facts_of v) true) other
  unfolding tests
  row_lastly Fork b other e = lastly [] _ other b e
  row_lastly Exit b other e = e
  row_lastly Wait b other e = lastly (_ ∷ _ ∷ []) _ other b e
  row_lastly Pipe_row b other e = lastly (_ ∷ _ ∷ []) _ other b e
  row_lastly Read b other e = lastly (_ ∷ _ ∷ _ ∷ _ ∷ []) _ other b e
  row_lastly Kill b other e = e
  row_lastly Exec b other e = lastly (_ ∷ _ ∷ _ ∷ _ ∷ _ ∷ _ ∷ []) _ other b e
  row_lastly Dup b other e = e
  row_lastly Getpid b other e = e
  row_lastly Sbrk b other e = lastly (_ ∷ []) _ other b e
  row_lastly Sleep b other e = e
  row_lastly Uptime b other e = e
  row_lastly Open b other e = e
  row_lastly Write b other e = e
  row_lastly Close b other e = e
  row_lastly Sbrklazy b other e = e

  shown_lastly : (other : Reason) → reason_of c v ≡ Some other → reason_told c (facts_of v) minus_one ≡ Some other
  unfolding Tell reason_of reason_told
  shown_lastly other e = by (row_of c.number) e
    where
      by : (o : Option Row) → reason_by o c (facts_of v) (λ r. is_short r c v) ≡ Some other → reason_by o c (facts_of v) (λ r. true) ≡ Some other
      by None e = e
      by (Some r) e = row_lastly r (is_short r c v) other e

  -- after the call
  same_after : (r : Row) → first (tests r c (facts_of (answered minus_one v)) true) ≡ first (tests r c (facts_of v) true)
  unfolding tests
  same_after Fork = refl
  same_after Exit = refl
  same_after Wait = refl
  same_after Pipe_row = refl
  same_after Read = refl
  same_after Kill = refl
  same_after Exec = refl
  same_after Dup = refl
  same_after Getpid = refl
  same_after Sbrk = refl
  same_after Sleep = refl
  same_after Uptime = refl
  same_after Open = refl
  same_after Write = refl
  same_after Close = refl
  same_after Sbrklazy = refl

  told_after : (value : ℤ) → reason_told c (facts_of (answered minus_one v)) value ≡ reason_told c (facts_of v) value
  unfolding reason_told
  told_after value = by (int_eq value minus_one) (row_of c.number)
    where
      by : (b : Bool) (o : Option Row) → cond b (reason_by o c (facts_of (answered minus_one v)) (λ r. true)) None ≡ cond b (reason_by o c (facts_of v) (λ r. true)) None
      by false o = refl
      by true None = refl
      by true (Some r) = same_after r

  -- ---- the laws

  refuses : (o : Option Reason) → FitsReason c v (perform c v) o → EndsLow v → IsSome o → perform c v ≡ refused c v
  refuses None fits low some = let no : ⊥ = cc in absurd no
  refuses (Some reason) fits low some = fits low

  has_reason : (o : Option Reason) → FitsReason c v (perform c v) o → Answers c v minus_one → IsSome o
  has_reason None fits answers = absurd (fits answers)
  has_reason (Some reason) fits answers = refl

  told_is : (o : Option Reason) → reason_of c v ≡ o → IsSome o → reason_told c (facts_of v) minus_one ≡ o
  told_is None is some = let no : ⊥ = cc in absurd no
  told_is (Some other) is some = shown_lastly other is

-- another answer has no reason
pub other_answer : (c : Call) (f : Facts) (value : ℤ) → int_eq value minus_one ≡ false → reason_told c f value ≡ None
unfolding reason_told
other_answer c f value is = ap (λ b. cond b (reason_by (row_of c.number) c f (λ r. true)) None) is

pub reasons_refuse : ReasonsRefuse
reasons_refuse c v low some = refuses c v (reason_of c v) (call_fits c v) low some

pub refusals_have_reasons : RefusalsHaveReasons
refusals_have_reasons c v answers = has_reason c v (reason_of c v) (call_fits c v) answers

pub told_is_reason : ToldIsReason
told_is_reason c v answers = told_is c v (reason_of c v) refl (has_reason c v (reason_of c v) (call_fits c v) answers)

pub others_have_none : OthersHaveNone
others_have_none c f value other = by (int_eq value minus_one) refl
  where
    by : (b : Bool) → int_eq value minus_one ≡ b → reason_told c f value ≡ None
    by true is = absurd (other ((Decides-int_eq value minus_one).0 is))
    by false is = other_answer c f value is

pub told_afterwards : ToldAfterwards
told_afterwards c v value = told_after c v value

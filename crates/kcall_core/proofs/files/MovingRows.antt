-- The tests of read and write, in their order, and what an open file is on.
use Rattle.kcall_core.proofs.Prelude.{ℕ, ℤ, ◌<◌, ◌∙◌, ◌≡◌, ◌≢◌, ap, arith, Bool, c_int, Call, Descriptor, descriptor_at, descriptor_on, done, End, false, File, get, Hart, in_use, inl, inr, InUse}
use Rattle.kcall_core.proofs.Prelude.{is_some, IsReady, IsRunning, IsSome, IsUnready, IsWhole, Kernel, least_on_pipe, least_there, length_of_int, Live, live_now, moving, named_at, nat_eq, negsuc}
use Rattle.kcall_core.proofs.Prelude.{NOFILE, None, not, numbered, OnFile, OnPipe, open_file_at, OpenFile, Option, option_map, Own, pages_at, pid_now, Pipe, Pipe_end, pipe_name, pos, read, read_below}
use Rattle.kcall_core.proofs.Prelude.{read_dear, read_nothing, read_ready, read_shut, read_unused, read_unwritable, readable, Reading, ReadsPipe, refl, refused, rename, rename_shown, row_on}
use Rattle.kcall_core.proofs.Prelude.{same_Some, show, Some, State, state_of, subst, sym, Target, touch-dear, true, unless, unless_nothing, View, view_now, view_of, writable_now, write, write_case}
use Rattle.kcall_core.proofs.Prelude.{write_on, write_same, write_to, WritesPipe, Writing}
use Rattle.kcall_core.specs.Moves.{allows}
use Rattle.kcall_core.proofs.turns.Turned.{live-is}

-- ---- the tests

unused-in : (v : View) (z : ℤ) → ((d : ℕ) → z ≡ pos d → v.descriptors d ≡ None) → in_use v z ≡ None
unused-in v (pos d) none = none d refl
unused-in v (negsuc k) none = refl

pub read-unused : (c : Call) (v : View) → ((d : ℕ) → c_int c.a0 ≡ pos d → v.descriptors d ≡ None) → read c v ≡ refused c v
read-unused c v none = read_unused c v (unused-in v (c_int c.a0) none)

pub write-unused : (c : Call) (v : View) → ((d : ℕ) → c_int c.a0 ≡ pos d → v.descriptors d ≡ None) → write c v ≡ refused c v
write-unused c v none = write_same c v ∙ ap (write_on c v) (unused-in v (c_int c.a0) none)

pub unused-row : (end : End) (c : Call) (v : View) → ((d : ℕ) → c_int c.a0 ≡ pos d → v.descriptors d ≡ None) → row_on end c v ≡ refused c v
unused-row Reading c v none = read-unused c v none
unused-row Writing c v none = write-unused c v none

moving-below : (c : Call) (v : View) (b : Bool) (z : ℤ) (go : ℕ → Own) → ((n : ℕ) → z ≢ pos n) → moving c v b z go ≡ refused c v
moving-below c v b (pos n) go none = absurd (none n refl)
moving-below c v b (negsuc k) go none = refl

moving-nothing : (c : Call) (v : View) (room : ℕ → Bool) (z : ℤ) (go : ℕ → Own) → z ≡ pos 0 → moving c v (room (length_of_int z)) z go ≡ done c (pos 0) v
moving-nothing c v room z go e = ap (λ y. moving c v (room (length_of_int y)) y go) e

moving-absent : (c : Call) (v : View) (room : ℕ → Bool) (z : ℤ) (go : ℕ → Own) (n : ℕ) → z ≡ pos n → nat_eq n 0 ≡ false → room n ≡ false → moving c v (room (length_of_int z)) z go ≡ refused c v
moving-absent c v room z go n e some absent =
    ap (λ y. moving c v (room (length_of_int y)) y go) e
    ∙ ap (λ (b : Bool). unless_nothing b c v (λ _. unless (not (room n)) c v (λ _. go n))) some
    ∙ ap (λ (b : Bool). unless (not b) c v (λ _. go n)) absent

pub in-use-as : {k : Kernel} {h : Hart} {d g : ℕ} (x y : OpenFile) → InUse k h d g x → open_file_at k.files g ≡ Some y → InUse k h d g y
in-use-as {k} {h} {d} {g} x y source e = subst (InUse k h d g) (same_Some x y (sym source.kind ∙ e)) source

module _ {k : Kernel} {h : Hart} (c : Call) {fd file : ℕ} {x : OpenFile} (whole : IsWhole k h) (runs : IsRunning k) (below : fd < NOFILE)
    (number : c_int c.a0 ≡ pos fd) (source : InUse k h fd file x) where
  abbrev s : State
  s = state_of k h

  abbrev l : Live
  l = live_now k h

  abbrev v : View
  v = view_now k h

  abbrev shown : Descriptor
  shown = rename (numbered s l) (record { file = file; read = x.read; write = x.write; shown = show s x.target })

  seen : (view_now k h).descriptors fd ≡ Some shown
  unfolding view_of
  seen = named_at (numbered s l) fd below ∙ ap (option_map (rename (numbered s l))) (ap (descriptor_at s) source.used ∙ ap (descriptor_on s file) source.opened)

  found : in_use v (c_int c.a0) ≡ Some shown
  found = ap (in_use v) number ∙ seen

  pub read-shut : x.read ≡ false → read c v ≡ refused c v
  read-shut shut = read_shut c v fd shown number seen shut

  pub write-shut : x.write ≡ false → write c v ≡ refused c v
  write-shut shut = write_same c v ∙ ap (write_on c v) found
      ∙ ap (λ (b : Bool). unless (not b) c v (λ _. moving c v (readable v.image c.a1 (length_of_int (c_int c.a2))) (c_int c.a2)
      (λ n. write_to c v n shown.shown))) shut

  module _ (reads : x.read ≡ true) where
    pub read-below : ((n : ℕ) → c_int c.a2 ≢ pos n) → read c v ≡ refused c v
    read-below none = read_below c v fd shown number seen reads none

    pub read-nothing : c_int c.a2 ≡ pos 0 → read c v ≡ done c (pos 0) v
    read-nothing e = read_nothing c v fd shown number seen reads e

    -- the buffer can't be written, or its absent pages cost more than is free
    pub read-unready : (n : ℕ) → c_int c.a2 ≡ pos n → nat_eq n 0 ≡ false → IsUnready c.a1 n 0 k h → read c v ≡ refused c v
    unfolding view_of
    read-unready n e some unready = elim unready [
      | inl bad ↦ read_unwritable c v fd shown number seen reads n e some bad
      | inr dear ↦ read_dear c v fd shown number seen reads n e some (touch-dear v (pages_at c.a1 n) (omega (arith, dear)))
    ]

    -- the buffer is there: what the row comes to then
    pub read-ready : (n : ℕ) {k' : Kernel} → c_int c.a2 ≡ pos n → nat_eq n 0 ≡ false → IsReady c.a1 n 0 k h k' h → read c v ≡ read c (view_now k' h)
    unfolding view_of
    read-ready n {k'} e some ready = read_ready c v (view_now k' h) fd n shown number seen reads e some ready.may ready.touched.view

  module _ (writes : x.write ≡ true) where
    asked-to : write c v ≡ moving c v (readable v.image c.a1 (length_of_int (c_int c.a2))) (c_int c.a2) (λ n. write_to c v n shown.shown)
    asked-to = write_same c v ∙ ap (write_on c v) found
        ∙ ap (λ (b : Bool). unless (not b) c v (λ _. moving c v (readable v.image c.a1 (length_of_int (c_int c.a2))) (c_int c.a2)
        (λ n. write_to c v n shown.shown))) writes

    pub write-below : ((n : ℕ) → c_int c.a2 ≢ pos n) → write c v ≡ refused c v
    write-below none = asked-to ∙ moving-below c v (readable v.image c.a1 (length_of_int (c_int c.a2))) (c_int c.a2) (λ n. write_to c v n shown.shown) none

    pub write-nothing : c_int c.a2 ≡ pos 0 → write c v ≡ done c (pos 0) v
    write-nothing e = asked-to ∙ moving-nothing c v (readable v.image c.a1) (c_int c.a2) (λ n. write_to c v n shown.shown) e

    pub write-absent : (n : ℕ) → c_int c.a2 ≡ pos n → nat_eq n 0 ≡ false → readable l.image c.a1 n ≡ false → write c v ≡ refused c v
    unfolding view_of
    write-absent n e some absent = asked-to ∙ moving-absent c v (readable v.image c.a1) (c_int c.a2) (λ n. write_to c v n shown.shown) n e some absent

  -- the tests that read and write have in common
  pub shut-row : (end : End) → allows end x ≡ false → row_on end c v ≡ refused c v
  shut-row Reading shut = read-shut shut
  shut-row Writing shut = write-shut shut

  pub below-row : (end : End) → allows end x ≡ true → ((n : ℕ) → c_int c.a2 ≢ pos n) → row_on end c v ≡ refused c v
  below-row Reading allowed none = read-below allowed none
  below-row Writing allowed none = write-below allowed none

-- ---- what the open file is on

module _ {k : Kernel} {h : Hart} {c : Call} {file : ℕ} {x : OpenFile} {is_there : ℕ → Bool} {n : ℕ} (whole : IsWhole k h) (runs : IsRunning k) (on : OnFile k h c file x is_there n) where
  abbrev pub shown-at : Descriptor
  shown-at = rename (numbered (state_of k h) (live_now k h)) (record { file = file; read = x.read; write = x.write; shown = show (state_of k h) x.target })

  pub shown-there : (view_now k h).descriptors on.fd ≡ Some shown-at
  unfolding view_of
  shown-there = named_at (numbered (state_of k h) (live_now k h)) on.fd on.below
      ∙ ap (option_map (rename (numbered (state_of k h) (live_now k h))))
      (ap (descriptor_at (state_of k h)) on.named_file ∙ ap (descriptor_on (state_of k h) file) on.opened)

  module _ {i : ℕ} {end : End} (e : x.target ≡ Pipe_end i end) where
    opened-there : get (state_of k h).files file ≡ Some (record { read = x.read; write = x.write; target = Pipe_end i end })
    opened-there = on.opened ∙ ap (λ (t : Target). Some (record x { target = t })) e

    is-there : pipe_name (numbered (state_of k h) (live_now k h) on.fd) ≡ Some i
    is-there = ap (λ o. pipe_name (descriptor_at (state_of k h) o)) on.named_file ∙ ap (λ o. pipe_name (descriptor_on (state_of k h) file o)) opened-there

    named-least : (m : ℕ) × (least_on_pipe (numbered (state_of k h) (live_now k h)) i ≡ Some m)
    named-least = by (least_on_pipe (numbered (state_of k h) (live_now k h)) i) refl
        (least_there (numbered (state_of k h) (live_now k h)) i on.fd on.below is-there (least_on_pipe (numbered (state_of k h) (live_now k h)) i) refl)
      where
        by : (o : Option ℕ) → least_on_pipe (numbered (state_of k h) (live_now k h)) i ≡ o → is_some o ≡ true → (m : ℕ) × (least_on_pipe (numbered (state_of k h) (live_now k h)) i ≡ Some m)
        by None least some = let no : ⊥ = cc in absurd no
        by (Some m) least some = (m, least)

    its-pipe : (z : Pipe) × (get (state_of k h).pipes i ≡ Some z)
    its-pipe = by (get (state_of k h).pipes i) refl (whole.well.ends file i x end on.opened e)
      where
        by : (o : Option Pipe) → get (state_of k h).pipes i ≡ o → IsSome o → (z : Pipe) × (get (state_of k h).pipes i ≡ Some z)
        by None at some = let no : ⊥ = cc in absurd no
        by (Some z) at some = (z, at)

    abbrev on-it : OnPipe (state_of k h) (pid_now k) (live_now k h) on.fd i named-least.0 end its-pipe.0
    on-it = record {
      was = live-is k h whole.sound runs;
      below = on.below;
      file = file;
      named_file = on.named_file;
      read = x.read;
      write = x.write;
      opened = opened-there;
      pipe = its-pipe.1;
      names = named-least.1;
    }

-- a write to a pipe
pub writes-pipe : {k : Kernel} {h : Hart} {c : Call} {file : ℕ} {x : OpenFile} {n i : ℕ} {end : End} → IsWhole k h → IsRunning k
    → OnFile k h c file x (readable (live_now k h).image c.a1) n → x.write ≡ true → x.target ≡ Pipe_end i end → WritesPipe k h c i n
writes-pipe {end} whole runs on writes e = record {
  fd = on.fd;
  name = (named-least whole runs on e).0;
  end = end;
  pipe = (its-pipe whole runs on e).0;
  on = on-it whole runs on e;
  writes = writes;
  number = on.number;
  buffer = on.buffer;
}

-- a read from a pipe
pub reads-pipe : {k : Kernel} {h : Hart} {c : Call} {file : ℕ} {x : OpenFile} {n i : ℕ} {end : End} → IsWhole k h → IsRunning k
    → OnFile k h c file x (writable_now (live_now k h).image c.a1) n → x.read ≡ true → x.target ≡ Pipe_end i end → ReadsPipe k h c i n
reads-pipe {end} whole runs on reads e = record {
  fd = on.fd;
  name = (named-least whole runs on e).0;
  end = end;
  pipe = (its-pipe whole runs on e).0;
  on = on-it whole runs on e;
  reads = reads;
  number = on.number;
  buffer = on.buffer;
}

-- a program's file takes no bytes
pub program-refused : {k : Kernel} {h : Hart} {c : Call} {file : ℕ} {x : OpenFile} {n : ℕ} (program offset : ℕ) → IsWhole k h → IsRunning k
    → OnFile k h c file x (readable (live_now k h).image c.a1) n → x.write ≡ true → x.target ≡ File program offset
    → write c (view_now k h) ≡ refused c (view_now k h)
unfolding view_of
program-refused {k} {h} {c} {file} {x} {n} program offset whole runs on writes e =
    write_case c (view_now k h) (shown-at whole runs on) on.fd n on.number (shown-there whole runs on) on.buffer.0 on.buffer.1 writes on.buffer.2
    ∙ ap (λ t. write_to c (view_now k h) n (rename_shown (numbered (state_of k h) (live_now k h)) (show (state_of k h) t))) e

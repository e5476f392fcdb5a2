-- The call close, where a descriptor is in use: what it leaves makes the step that its row tells.
use Rattle.kcall_core.proofs.Prelude.{ℕ, ℤ, ◌+◌, ◌<◌, ◌∙◌, ◌≡◌, After, Alive, ap, AreCounted, Blocked, Bool, c_int, Call, Called, changed_at, changed_state, Channel, channel_of, close, close_at}
use Rattle.kcall_core.proofs.Prelude.{close_case, close_law, close_number, close_on, close_pipe_law, close_same, Closes, closes_wake, cond, Descriptor, descriptor_at, descriptor_on, end_of, fewer_at}
use Rattle.kcall_core.proofs.Prelude.{fewer_on, File, FilesLeft, FinMap, frame_count, freed_at, freed_on, get, get_same, Hart, in_call, inr, insert-twice, is_given_up, is_some, IsBlocked, IsLive}
use Rattle.kcall_core.proofs.Prelude.{IsRunning, IsSome, IsWhole, Kernel, least_on_pipe, least_there, length, Live, live_now, Makes, named_at, nat_cmp, negsuc, NOFILE, None, none-some, numbered}
use Rattle.kcall_core.proofs.Prelude.{OpenFile, Option, option_map, or_zero, Own, own_state, parted, pid_now, Pipe, Pipe_end, pipe_name, pipe_of_target, place_at, place_now, pos, Process, refl}
use Rattle.kcall_core.proofs.Prelude.{refused, rename, settled, show, slot_now, Some, State, state_of, status_of, subst, sym, Target, target_of_open, Terminal, true, unless_woken, View, view_now}
use Rattle.kcall_core.proofs.Prelude.{view_of, WellFormed, with_a0, with_answer, with_closed, woken_by, word}
use Rattle.kcall_core.proofs.table.States.{running}
use Rattle.kcall_core.proofs.turns.Turned.{live-is}
use Rattle.kcall_core.proofs.table.OnePlace.{ItsPlace, changed-place, place-counted, in-call-lives, in-call-channel}
use Rattle.kcall_core.proofs.turns.WhoRuns.{place-is, place-lives, now-is}
use Rattle.kcall_core.proofs.table.Woken.{woken_by-status, woken-channel}
use Rattle.kcall_core.proofs.making.CallAnswers.{IsDone}
use Rattle.kcall_core.proofs.files.Namings.{files-left}
use Rattle.kcall_core.proofs.files.AllClosed.{same-pid}
use Rattle.kcall_core.proofs.files.PipeOpens.{opens-on-pipes, fewer-wake}
use Rattle.kcall_core.proofs.making.Buffers.{no-call-keeps}
use Rattle.kcall_core.proofs.making.Filing.{Filed, filed-makes}
use Rattle.file_table.specs.OpenFiles as files
use Rattle.kernel_spec.proofs.well.WellLaws as well

-- ---- what its row tells, whatever the descriptor is on

module _ (k : Kernel) (h : Hart) (c : Call) (d g : ℕ) (x : OpenFile) (whole : IsWhole k h) (runs : IsRunning k) (below : d < NOFILE)
    (used : get (live_now k h).descriptors d ≡ Some g) (opened : get (state_of k h).files g ≡ Some x) where
  abbrev s : State
  s = state_of k h

  abbrev p : ℕ
  p = pid_now k

  abbrev l : Live
  l = live_now k h

  was : IsLive s p l
  was = live-is k h whole.sound runs

  -- what the process sees of it
  abbrev shown : Descriptor
  shown = rename (numbered s l) (record { file = g; read = x.read; write = x.write; shown = show s x.target })

  pub seen : (view_now k h).descriptors d ≡ Some shown
  unfolding view_of
  seen = named_at (numbered s l) d below ∙ ap (option_map (rename (numbered s l))) (ap (descriptor_at s) used ∙ ap (descriptor_on s g) opened)

  abbrev closed_to : Target → FinMap nat_cmp OpenFile → State
  closed_to target left = changed_state p (with_answer (pos 0) (with_closed d l)) left (fewer_on (Some target) s.pipes) s.console (s.free + freed_on (Some target) s.pipes) s

  law-at : (left : FinMap nat_cmp OpenFile) (target : Target) → x.target ≡ target → FilesLeft s (closed_to target left) → After s p l (close_at c (view_now k h) d shown) (closed_to target left)
  law-at left Terminal e ok = close_law (frame_count k) s p l c d g x shown left whole.well was below used opened (ap pipe_of_target e) seen ok
  law-at left (File program offset) e ok = close_law (frame_count k) s p l c d g x shown left whole.well was below used opened (ap pipe_of_target e) seen ok
  law-at left (Pipe_end i end) e ok = on-pipe (get s.pipes i) refl (whole.well.ends g i x end opened e)
    where
      opened-there : get s.files g ≡ Some (record { read = x.read; write = x.write; target = Pipe_end i end })
      opened-there = opened ∙ ap (λ (t : Target). Some (record x { target = t })) e

      is-there : pipe_name (numbered s l d) ≡ Some i
      is-there = ap (λ o. pipe_name (descriptor_at s o)) used ∙ ap (λ o. pipe_name (descriptor_on s g o)) opened-there

      on-pipe : (o : Option Pipe) → get s.pipes i ≡ o → IsSome o → After s p l (close_at c (view_now k h) d shown) (closed_to (Pipe_end i end) left)
      on-pipe None at some = let no : ⊥ = cc in absurd no
      on-pipe (Some z) at some = by (least_on_pipe (numbered s l) i) refl (least_there (numbered s l) i d below is-there (least_on_pipe (numbered s l) i) refl)
        where
          to : closed_to (Pipe_end i end) left ≡ changed_state p (with_answer (pos 0) (with_closed d l)) left
              (settled i (parted z end 1) s.pipes) s.console (s.free + cond (is_given_up (parted z end 1)) 1 0) s
          to = λ t. changed_state p (with_answer (pos 0) (with_closed d l)) left (fewer_at i end s.pipes (at t)) s.console (s.free + freed_at end (at t)) s

          by : (o : Option ℕ) → least_on_pipe (numbered s l) i ≡ o → is_some o ≡ true → After s p l (close_at c (view_now k h) d shown) (closed_to (Pipe_end i end) left)
          by None least some = let no : ⊥ = cc in absurd no
          by (Some n) least some = subst (After s p l (close_at c (view_now k h) d shown)) (sym to)
              (close_pipe_law (frame_count k) s p l c d i n end z shown left
              (record { was = was; below = below; file = g; named_file = used; read = x.read; write = x.write; opened = opened-there; pipe = at; names = least })
              whole.well seen (subst (FilesLeft s) to ok))

  -- ---- the code: the descriptor is closed, and the call is done

  module _ (k1 k' : Kernel) (h' : Hart) (closed : Closes k h d k1) (done : IsDone k1 h (pos 0) k' h') where
    abbrev left : FinMap nat_cmp OpenFile
    left = (state_of k1 h).files

    abbrev ends : FinMap nat_cmp Pipe
    ends = fewer_on (Some x.target) s.pipes

    abbrev free : ℕ
    free = s.free + freed_on (Some x.target) s.pipes

    abbrev wakes : Channel → Bool
    wakes = closes_wake s.pipes ends

    pid1 : pid_now k1 ≡ p
    pid1 = same-pid closed.remains

    slot1 : slot_now k1 ≡ slot_now k
    slot1 = ap or_zero closed.remains.current

    state1 : state_of k1 h ≡ changed_state p (with_closed d l) left ends s.console free s
    state1 = closed.state ∙ ap (λ (o : Option Target). changed_state p (with_closed d l) left (fewer_on o s.pipes) s.console
        (s.free + freed_on o s.pipes) s) (ap (end_of s) used ∙ ap target_of_open opened)

    live1 : live_now k1 h ≡ with_closed d l
    live1 = now-is k1 h (with_closed d l) closed.after.sound closed.after.running
        (ap (λ n. get (state_of k1 h).processes n) pid1 ∙ ap (λ (u : State). get u.processes p) state1 ∙ get_same s.processes p (Alive (with_closed d l)))

    after-state : state_of k' h' ≡ closed_to x.target left
    after-state =
        done.state ∙ (λ i. own_state (pid1 i) (with_answer (pos 0) (live1 i)) (state1 i))
        ∙ (λ i. record (closed_to x.target left) { processes = insert-twice s.processes p (Alive (with_closed d l)) (Alive (with_answer (pos 0) (with_closed d l))) i })

    -- its own place
    same-wakes : closes_wake s.pipes (state_of k1 h).pipes ≡ wakes
    same-wakes = ap (λ (u : State). closes_wake s.pipes u.pipes) state1

    place1 : (j : ℕ) → place_at k1.table j ≡ option_map (woken_by wakes) (place_at k.table j)
    place1 j = closed.remains.places j ∙ ap (λ w. option_map (woken_by w) (place_at k.table j)) same-wakes

    abbrev mid : Process
    mid = woken_by wakes (place_now k)

    mid-lives : status_of mid ≡ None
    mid-lives = woken_by-status wakes (place_now k) ∙ place-lives k h whole.sound runs

    its-place : ItsPlace k1.table k'.table (slot_now k) mid (in_call None mid)
    its-place =
        changed-place k1.table k'.table (slot_now k) mid (in_call None) closed.after.sound.table.places (running k h whole.sound runs).inside
        (place1 (slot_now k) ∙ ap (option_map (woken_by wakes)) (place-is k h whole.sound runs)) mid-lives refl (in-call-lives None mid mid-lives)
        (ap (λ (y : Kernel). y.table) done.kernel ∙ ap (λ n. changed_at n (in_call None) k1.table) slot1)

    awake : channel_of (in_call None mid) ≡ None
    awake =
        in-call-channel None mid ∙ woken-channel wakes (place_now k)
        ∙ ap (unless_woken wakes) (whole.awake (slot_now k) (place_now k) (running k h whole.sound runs).current (place-is k h whole.sound runs))

    counted : AreCounted k'.files k'.table
    counted = subst (λ f. AreCounted f k'.table) (sym (ap (λ (y : Kernel). y.files) done.kernel)) (place-counted its-place closed.after.counted)

    is-table : files.IsTable k'.files
    is-table = subst files.IsTable (sym (ap (λ (y : Kernel). y.files) done.kernel)) closed.after.files

    frames : frame_count k' ≡ frame_count k
    frames = ap (λ (y : Kernel). length y.memories.ram) done.kernel ∙ closed.remains.frames

    files-ok : FilesLeft s (closed_to x.target left)
    files-ok =
        subst (FilesLeft s) after-state
        (files-left k k' h h' done.sound counted is-table (λ file y there. closed.remains.files file y (sym (ap (λ (n : Kernel). files.open_file_at n.files file) done.kernel) ∙ there)))

    well-after : WellFormed (frame_count k) (closed_to x.target left)
    well-after =
        subst (WellFormed (frame_count k)) after-state
        (subst (WellFormed (frame_count k)) (sym done.state)
        (subst (λ n. WellFormed n (own_state (pid_now k1) (with_answer (pos 0) (live_now k1 h)) (state_of k1 h))) closed.remains.frames
        (well.alone (frame_count k1) (state_of k1 h) (pid_now k1) (live_now k1 h) (with_a0 (live_now k1 h).regs (word (pos 0)))
        (live_now k1 h).image None (live_now k1 h).killed (state_of k1 h).console (state_of k1 h).free closed.after.well
        (live-is k1 h closed.after.sound closed.after.running) refl (record { typed = closed.after.well.keys; sent_later = closed.after.well.to_send }))))

    not-blocked : IsBlocked (close_at c (view_now k h) d shown).answer → ⊥
    not-blocked b = let e : Called c.number (pos 0) ≡ Blocked b.0 = b.1 in cc

    closes : Filed k h k' h' (close_at c (view_now k h) d shown) wakes None (with_answer (pos 0) (with_closed d l)) left ends s.console free
    unfolding view_of
    closes = record {
      sound = done.sound;
      table = is-table;
      counted = counted;
      frames = frames;
      last = its-place.last ∙ closed.remains.last;
      after = in_call None mid;
      is = its-place.is;
      pid = refl;
      channel = awake;
      current = ap (λ (y : Kernel). y.current) done.kernel ∙ closed.remains.current ∙ (running k h whole.sound runs).current;
      others = λ j apart. its-place.others j apart ∙ place1 j;
      state = after-state;
      well = well-after;
      buffer = no-call-keeps None l.image refl;
      targets = inr files-ok;
      opens = opens-on-pipes s p l (with_answer (pos 0) (with_closed d l)) left ends free wakes was refl (fewer-wake (Some x.target) s.pipes);
      waits = λ on is. absurd (none-some on is);
      law = law-at left x.target refl files-ok;
      keeps = record { child = refl; stays = refl; pids = refl };
      blocked = λ b. absurd (not-blocked b);
      sleeps = λ some. let no : ⊥ = cc in absurd no;
    }

    pub close-makes : c_int c.a0 ≡ pos d → Makes k h (close c (view_now k h)) k' h'
    close-makes is-fd = subst (λ (o : Own). Makes k h o k' h') (sym (close_case c (view_now k h) shown d 0 is-fd seen)) (filed-makes whole runs closes)

  pub close-answer : c_int c.a0 ≡ pos d → (close c (view_now k h)).answer ≡ Called c.number (pos 0)
  close-answer is-fd = ap (λ (o : Own). o.answer) (close_case c (view_now k h) shown d 0 is-fd seen)

-- ---- no descriptor in use

close-unused : (c : Call) (v : View) (z : ℤ) → ((d : ℕ) → z ≡ pos d → v.descriptors d ≡ None) → close_number c v z ≡ refused c v
close-unused c v (pos d) none = ap (close_on c v d) (none d refl)
close-unused c v (negsuc k) none = refl

pub close-refused : (c : Call) (v : View) → ((d : ℕ) → c_int c.a0 ≡ pos d → v.descriptors d ≡ None) → close c v ≡ refused c v
close-refused c v none = close_same c v ∙ close-unused c v (c_int c.a0) none

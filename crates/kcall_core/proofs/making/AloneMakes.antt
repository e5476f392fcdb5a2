-- A step that changes only the process that runs, which goes on or sleeps: what it does to the kernel.
use Rattle.kcall_core.proofs.Prelude.{ℕ, ℤ, ◌+◌, ◌||◌, ◌∙◌, ◌≡◌, ◌≢◌, After, Alive, alone_law, alone_state, ap, AreCounted, asleep, Blocked, by_own, Call, Called, changed_at, Channel, channel_of}
use Rattle.kcall_core.proofs.Prelude.{cond, Condition, Console, done, false, false_from_ne_true, frame_count, get, get_other, get_same, goes_on, halts_with, Hart, Image, in_call, insert-twice, is_for}
use Rattle.kcall_core.proofs.Prelude.{is_open, is_some, IsBlocked, IsRunning, IsSome, IsSound, IsWhole, KeepsBuffer, Kernel, length, Live, live, live_now, live_part, Makes, mid_after, None, none-some}
use Rattle.kcall_core.proofs.Prelude.{opens_nothing, Option, option_map, or_nobody, or_zero, Own, pid_now, place_at, place_now, price, Process, ready, refl, Registers, same_Some, Sleeps, slot_now}
use Rattle.kcall_core.proofs.Prelude.{Slots, Some, State, state_of, status_of, Step_of, subst, sym, true, Turns, turns_of, TurnsAfter, view_alone, view_now, view_of, waiting, waits, waits_for}
use Rattle.kcall_core.proofs.Prelude.{WakesWhereDue, WellFormed, with_a0, with_answer, word, world_of, Zombie}
use Rattle.std.proofs.Math.ListN.{length-set}
use Rattle.kcall_core.proofs.table.States.{running}
use Rattle.kcall_core.proofs.turns.Turned.{live-is}
use Rattle.kcall_core.proofs.table.OnePlace.{ItsPlace, place-slots, place-counted, place-sleepers, changed-place, in-call-lives, in-call-channel, asleep-lives, asleep-channel, place-join}
use Rattle.kcall_core.proofs.turns.WhoRuns.{place-is, place-lives, now-is}
use Rattle.kcall_core.proofs.turns.StepSlots.{KeepsAll, slots-kept}
use Rattle.kcall_core.proofs.making.Buffers.{no-call-keeps, changed-buffers}
use Rattle.kcall_core.proofs.making.Making.{Itself, Others, Leaves, leaves-whole, made}
use Rattle.file_table.specs.OpenFiles as files
use Rattle.kernel_spec.proofs.well.WellLaws as well

-- what the records below have in common: process `after` stands where the process that runs stood, and sleeps on this channel, if any
record ItsStep (k : Kernel) (h : Hart) (k' : Kernel) (h' : Hart) (after : Process) (on : Option Channel) : Type 0 where
  regs : Registers
  image : Image
  call : Option Call
  free : ℕ
  sound : IsSound k' h'
  place : ItsPlace k.table k'.table (slot_now k) (place_now k) after
  channel : channel_of after ≡ on
  current : k'.current ≡ cond (is_some on) None (Some (slot_now k))
  files : k'.files ≡ k.files
  frames : frame_count k' ≡ frame_count k
  state : state_of k' h' ≡ alone_state (pid_now k) (record (live_now k h) { regs = regs; image = image; call = call }) (state_of k h).console free (state_of k h)
  paid : free + (price image + 1) ≡ (state_of k h).free + (price (live_now k h).image + 1)
  buffer : KeepsBuffer call image
  waits : (c : Channel) → on ≡ Some c
      → (is_for (waits_for (state_of k' h') (pid_now k) (record (live_now k h) { regs = regs; image = image; call = call })) c ≡ true)
      × (ready (view_of (state_of k' h') (pid_now k) (record (live_now k h) { regs = regs; image = image; call = call })) ≡ false)

module _ {k : Kernel} {h : Hart} {k' : Kernel} {h' : Hart} {after : Process} {on : Option Channel} (whole : IsWhole k h) (runs : IsRunning k) (x : ItsStep k h k' h' after on) where
  abbrev s : State
  s = state_of k h

  abbrev t : State
  t = state_of k' h'

  abbrev pid : ℕ
  pid = pid_now k

  abbrev now : Live
  now = live_now k h

  abbrev next : Live
  next = record now { regs = x.regs; image = x.image; call = x.call }

  was-live : get s.processes pid ≡ Some (Alive now)
  was-live = live-is k h whole.sound runs

  live-here : live t pid ≡ Some next
  live-here = ap (λ (u : State). live u pid) x.state ∙ ap live_part (get_same s.processes pid (Alive next))

  -- each other process is what it was
  same-live : (q : ℕ) (l m : Live) → q ≢ pid → live s q ≡ Some l → live t q ≡ Some m → m ≡ l
  same-live q l m other was is = same_Some m l (sym is ∙ ap (λ (u : State). live u q) x.state ∙ ap live_part (get_other s.processes pid (Alive next) q other) ∙ was)

  -- and nothing opens
  still : (c : Condition) → is_open s c ≡ false → is_open t c ≡ false
  still c shut = false_from_ne_true (is_open t c) (λ opens. opens_nothing s pid now next s.files x.free was-live refl c shut (sym (ap (λ (u : State). is_open u c) x.state) ∙ opens))

  itself : Itself k h k' h' on
  itself = record {
    after = after;
    is = x.place.is;
    pid = x.place.pid;
    channel = x.channel;
    current = x.current;
    waits = λ c m is-on lives. subst (λ (l : Live). (is_for (waits_for t pid l) c ≡ true) × (ready (view_of t pid l) ≡ false)) (same_Some next m (sym live-here ∙ lives)) (x.waits c is-on);
  }

  others : Others k h k' h' (λ q c. false)
  others = record {
    stays = λ j y c other at on-it. (y, x.place.others j other ∙ at, refl, on-it);
    slept = λ j y c other at on-it. (y, sym (x.place.others j other) ∙ at, refl, on-it);
    waits = λ q l m other was is.
        let same = same-live q l m other was is in
        (ap (waits_for t q) same ∙ ap (λ (u : State). waits_for u q l) x.state, λ marked. ap (λ (y : Live). y.killed) same ∙ marked);
    due = λ q l m c other was is its unmarked shut. sym
        ((λ i. (ap (λ (y : Live). y.killed) (same-live q l m other was is) ∙ unmarked) i || is_open t (waits_for s q l)) ∙ still (waits_for s q l) shut);
  }

  alone : Leaves k h k' h' (λ q c. false) on
  alone = record {
    sound = x.sound;
    well = subst (WellFormed (frame_count k)) (sym x.state)
        (well.alone (frame_count k) s pid now x.regs x.image x.call now.killed s.console x.free whole.well was-live x.paid (record { typed = whole.well.keys; sent_later = whole.well.to_send }));
    files = subst files.IsTable (sym x.files) whole.files;
    counted = subst (λ f. AreCounted f k'.table) (sym x.files) (place-counted x.place whole.counted);
    frames = x.frames;
    buffers = changed-buffers s t pid next (ap (λ (u : State). u.processes) x.state) x.buffer whole.buffers;
    itself = itself;
    others = others;
  }

  alone-makes : (o : Own) → KeepsAll s o → (IsBlocked o.answer → IsSome on) → (IsSome on → IsBlocked o.answer) → After s pid now o t → Makes k h o k' h'
  alone-makes o keeps blocked sleeps law = made whole runs (record {
    leaves = alone;
    last = x.place.last;
    slots = slots-kept k h k' o whole.sound.table (place-slots x.place) keeps;
    after = law;
    alive = keeps.stays;
    blocked = blocked;
    sleeps = sleeps;
  })

-- ---- it goes on

-- The process that runs goes on running, with these registers, this image and this call in progress; nothing else of the kernel is another, but the free frames, from which the image is paid
pub record OnlyItself (k : Kernel) (h : Hart) (k' : Kernel) (h' : Hart) : Type 0 where
  pub regs : Registers
  pub image : Image
  pub call : Option Call
  pub free : ℕ
  pub sound : IsSound k' h'
  pub table : k'.table ≡ changed_at (slot_now k) (in_call call) k.table
  pub current : k'.current ≡ k.current
  pub files : k'.files ≡ k.files
  pub frames : length k'.memories.ram ≡ length k.memories.ram
  pub state : state_of k' h' ≡ alone_state (pid_now k) (record (live_now k h) { regs = regs; image = image; call = call }) (state_of k h).console free (state_of k h)
  pub paid : free + (price image + 1) ≡ (state_of k h).free + (price (live_now k h).image + 1)
  pub buffer : KeepsBuffer call image

module _ {k : Kernel} {h : Hart} {k' : Kernel} {h' : Hart} (whole : IsWhole k h) (runs : IsRunning k) (x : OnlyItself k h k' h') where
  abbrev goes_on_so : Process
  goes_on_so = in_call x.call (place_now k)

  its-step : ItsStep k h k' h' goes_on_so None
  its-step =
      let r = running k h whole.sound runs in
      let place = place-is k h whole.sound runs in
      let lives = place-lives k h whole.sound runs in
      record {
        regs = x.regs;
        image = x.image;
        call = x.call;
        free = x.free;
        sound = x.sound;
        place = changed-place k.table k'.table (slot_now k) (place_now k) (in_call x.call) whole.sound.table.places r.inside place lives refl (in-call-lives x.call (place_now k) lives) x.table;
        channel = in-call-channel x.call (place_now k) ∙ whole.awake (slot_now k) (place_now k) r.current place;
        current = x.current ∙ r.current;
        files = x.files;
        frames = x.frames;
        state = x.state;
        paid = x.paid;
        buffer = x.buffer;
        waits = λ c is. absurd (none-some c is);
      }

  -- the same pid runs
  pub only-pid : pid_now k' ≡ pid_now k
  only-pid = ap (λ o. (or_nobody (place_at k'.table (or_zero o))).pid) x.current ∙ ap (λ o. (or_nobody o).pid) its-step.place.is

  -- the turn part is the same
  only-turns : turns_of k' None ≡ turns_of k None
  unfolding turns_of
  only-turns =
      let slots = place-slots its-step.place in
      let sleepers = place-sleepers its-step.place (in-call-channel x.call (place_now k)) in
      λ i. record { slots = slots i; sleepers = sleepers i; last = its-step.place.last i; current = option_map (λ _. only-pid i) (x.current i); halted = None }

  -- what is true of every kernel stays so
  pub only-whole : IsWhole k' h'
  only-whole = leaves-whole whole runs (alone whole runs its-step)

  -- so it makes the step
  pub only-makes : (o : Own) → KeepsAll (state_of k h) o → ¬ IsBlocked o.answer → After (state_of k h) (pid_now k) (live_now k h) o (state_of k' h') → Makes k h o k' h'
  only-makes o keeps goes law = alone-makes whole runs its-step o keeps (λ is. absurd (goes is)) (λ some. let no : ⊥ = cc in absurd no) law

-- ---- a call that is done

-- A call of the process that runs is done with this answer, once the process had these registers and this image, and so many frames were free
pub record IsAnswered (k : Kernel) (h : Hart) (k' : Kernel) (h' : Hart) (value : ℤ) (regs : Registers) (image : Image) (free : ℕ) : Type 0 where
  pub sound : IsSound k' h'
  pub table : k'.table ≡ changed_at (slot_now k) (in_call None) k.table
  pub current : k'.current ≡ k.current
  pub files : k'.files ≡ k.files
  pub frames : length k'.memories.ram ≡ length k.memories.ram
  pub state : state_of k' h' ≡ alone_state (pid_now k) (with_answer value (record (live_now k h) { regs = regs; image = image })) (state_of k h).console free (state_of k h)
  pub paid : free + (price image + 1) ≡ (state_of k h).free + (price (live_now k h).image + 1)

answered-only : {k : Kernel} {h : Hart} {k' : Kernel} {h' : Hart} {value : ℤ} {regs : Registers} {image : Image} {free : ℕ} → IsAnswered k h k' h' value regs image free → OnlyItself k h k' h'
answered-only {k} {h} {k'} {h'} {value} {regs} {image} {free} x = record {
  regs = with_a0 regs (word value);
  image = image;
  call = None;
  free = free;
  sound = x.sound;
  table = x.table;
  current = x.current;
  files = x.files;
  frames = x.frames;
  state = x.state;
  paid = x.paid;
  buffer = no-call-keeps None image refl;
}

-- with other registers, another image and other free frames before its answer
pub done-makes : (k : Kernel) (h : Hart) (k' : Kernel) (h' : Hart) (c : Call) (value : ℤ) (regs : Registers) (image : Image) (free : ℕ) (o : Own)
    → IsWhole k h → IsRunning k → IsAnswered k h k' h' value regs image free
    → o ≡ done c value (record (view_now k h) { regs = regs; image = image; free = free }) → Makes k h o k' h'
unfolding view_of
done-makes k h k' h' c value regs image free o whole runs x is =
    let s = state_of k h in
    let l = live_now k h in
    let was = live-is k h whole.sound runs in
    let r = with_a0 regs (word value) in
    let after : After s (pid_now k) l (done c value (record (view_now k h) { regs = regs; image = image; free = free })) (state_of k' h') =
    subst (After s (pid_now k) l (done c value (record (view_now k h) { regs = regs; image = image; free = free }))) (sym x.state)
    (by_own s (alone_state (pid_now k) (with_answer value (record l { regs = regs; image = image })) s.console free s) (view_of s (pid_now k) l)
    (done c value (record (view_now k h) { regs = regs; image = image; free = free }))
    (goes_on (Called c.number value) (view_of (alone_state (pid_now k)
    (with_answer value (record l { regs = regs; image = image })) s.console free s) (pid_now k)
    (with_answer value (record l { regs = regs; image = image }))))
    (ap (goes_on (Called c.number value)) (view_alone s (pid_now k) l was r image None l.killed s.console free))
    (alone_law s (pid_now k) l was r image None l.killed s.console free (Called c.number value) refl)) in
    subst (λ (u : Own). Makes k h u k' h') (sym is)
    (only-makes whole runs (answered-only x) (done c value (record (view_now k h) { regs = regs; image = image; free = free })) (record { child = refl; stays = refl; pids = refl }) not-blocked after)
  where
    not-blocked : ¬ IsBlocked (Called c.number value)
    not-blocked b = let e : Called c.number value ≡ Blocked b.0 = b.1 in cc

-- with its answer alone
pub answer-makes : (k : Kernel) (h : Hart) (k' : Kernel) (h' : Hart) (c : Call) (value : ℤ) (o : Own) → IsWhole k h → IsRunning k
    → IsAnswered k h k' h' value (live_now k h).regs (live_now k h).image (state_of k h).free
    → o ≡ done c value (view_now k h) → Makes k h o k' h'
unfolding view_of
answer-makes k h k' h' c value o whole runs x is = done-makes k h k' h' c value (live_now k h).regs (live_now k h).image (state_of k h).free o whole runs x is

-- a process that changes itself twice is what it was last
pub alone-twice : (s : State) (p : ℕ) (l m : Live) (console after : Console) (free left : ℕ) → alone_state p m after left (alone_state p l console free s) ≡ alone_state p m after left s
alone-twice s p l m console after free left = λ i. record (alone_state p m after left s) { processes = insert-twice s.processes p (Alive l) (Alive m) i }

-- ---- a state in between

-- Where only the process that runs is another, as where its call is begun or pages are touched, what is made from there on is what the step makes
pub mid-makes : (k : Kernel) (h : Hart) (k1 : Kernel) (h1 : Hart) (k' : Kernel) (h' : Hart) (o : Own) → IsWhole k h → IsRunning k → OnlyItself k h k1 h1 → Makes k1 h1 o k' h' → Makes k h o k' h'
mid-makes k h k1 h1 k' h' o whole runs x made =
    let s = state_of k h in
    let l = live_now k h in
    let mid : Live = record l { regs = x.regs; image = x.image; call = x.call } in
    let pid : pid_now k1 ≡ pid_now k = only-pid whole runs x in
    let turns : turns_of k1 None ≡ turns_of k None = only-turns whole runs x in
    let runs1 : IsRunning k1 = subst (λ c. IsSome c) (sym x.current) runs in
    let live1 : live_now k1 h1 ≡ mid = now-is k1 h1 mid x.sound runs1
    (ap (λ n. get (state_of k1 h1).processes n) pid ∙ ap (λ (t : State). get t.processes (pid_now k)) x.state
    ∙ get_same s.processes (pid_now k) (Alive mid)) in
    record {
      whole = made.whole;
      state = mid_after s (pid_now k) l (live-is k h whole.sound runs) x.regs x.image x.call x.free o (state_of k' h')
          (subst (λ (y : State × ℕ × Live). After y.0 y.1 y.2 o (state_of k' h')) (λ i. (x.state i, pid i, live1 i)) made.state);
      turns = subst (λ (y : Turns × ℕ). TurnsAfter y.0 y.1 o (turns_of k' (halts_with y.1 o.answer))) (λ i. (turns i, pid i)) made.turns;
      wakes = subst (λ n. WakesWhereDue (world_of k h None) (Step_of n o.answer) (world_of k' h' (halts_with n o.answer))) pid
          (λ p v asleep see. made.wakes p v (subst (λ (y : Turns). Sleeps y p) (sym turns) asleep) see);
      kept = λ status is. ap (get (state_of k' h').processes) (sym pid) ∙ made.kept status is ∙ ap (λ (m : Live). Some (Zombie m.parent status)) live1;
      frames = made.frames ∙ x.frames;
    }

-- ---- a call that waits

-- the call in progress has moved so many bytes, and the process has this image
pub record IsWaiting (k : Kernel) (h : Hart) (k' : Kernel) (h' : Hart) (call : Call) (image : Image) (free : ℕ) (channel : Channel) : Type 0 where
  pub sound : IsSound k' h'
  pub table : k'.table ≡ changed_at (slot_now k) (asleep channel) (changed_at (slot_now k) (in_call (Some call)) k.table)
  pub current : k'.current ≡ None
  pub files : k'.files ≡ k.files
  pub frames : length k'.memories.ram ≡ length k.memories.ram
  pub state : state_of k' h' ≡ alone_state (pid_now k) (record (live_now k h) { image = image; call = Some call }) (state_of k h).console free (state_of k h)
  pub paid : free + (price image + 1) ≡ (state_of k h).free + (price (live_now k h).image + 1)
  pub buffer : KeepsBuffer (Some call) image
  pub waits : is_for (waits_for (state_of k' h') (pid_now k) (record (live_now k h) { image = image; call = Some call })) channel ≡ true
  pub unready : ready (view_of (state_of k' h') (pid_now k) (record (live_now k h) { image = image; call = Some call })) ≡ false

module _ {k : Kernel} {h : Hart} {k' : Kernel} {h' : Hart} {call : Call} {image : Image} {free : ℕ} {channel : Channel} (whole : IsWhole k h)
    (runs : IsRunning k) (x : IsWaiting k h k' h' call image free channel) where
  abbrev called : Process
  called = in_call (Some call) (place_now k)

  abbrev between : Slots
  between = changed_at (slot_now k) (in_call (Some call)) k.table

  called-lives : status_of called ≡ None
  called-lives = in-call-lives (Some call) (place_now k) (place-lives k h whole.sound runs)

  called-place : ItsPlace k.table between (slot_now k) (place_now k) called
  called-place =
      changed-place k.table between (slot_now k) (place_now k) (in_call (Some call)) whole.sound.table.places (running k h whole.sound runs).inside
      (place-is k h whole.sound runs) (place-lives k h whole.sound runs) refl called-lives refl

  sleeper-place : ItsPlace between k'.table (slot_now k) called (asleep channel called)
  sleeper-place =
      changed-place between k'.table (slot_now k) called (asleep channel)
      (length-set k.table.places (slot_now k) (option_map (in_call (Some call)) (place_at k.table (slot_now k))) ∙ whole.sound.table.places)
      (running k h whole.sound runs).inside called-place.is called-lives refl (asleep-lives channel called called-lives) x.table

  waiting-step : ItsStep k h k' h' (asleep channel called) (Some channel)
  waiting-step = record {
    regs = (live_now k h).regs;
    image = image;
    call = Some call;
    free = free;
    sound = x.sound;
    place = place-join called-place sleeper-place;
    channel = asleep-channel channel called called-lives;
    current = x.current;
    files = x.files;
    frames = x.frames;
    state = x.state;
    paid = x.paid;
    buffer = x.buffer;
    waits = λ c is.
        let l : Live = record (live_now k h) { image = image; call = Some call } in
        subst (λ (d : Channel). (is_for (waits_for (state_of k' h') (pid_now k) l) d ≡ true) × (ready (view_of (state_of k' h') (pid_now k) l) ≡ false)) (same_Some channel c is) (x.waits, x.unready);
  }

  waits-makes : (o : Own) (number : ℤ) → KeepsAll (state_of k h) o → o.answer ≡ Blocked number → After (state_of k h) (pid_now k) (live_now k h) o (state_of k' h') → Makes k h o k' h'
  waits-makes o number keeps blocked law = alone-makes whole runs waiting-step o keeps (λ is. refl) (λ some. (number, blocked)) law

pub wait-makes : (k : Kernel) (h : Hart) (k' : Kernel) (h' : Hart) (c : Call) (moved : ℕ) (image : Image) (free : ℕ) (channel : Channel) (o : Own)
    → IsWhole k h → IsRunning k → IsWaiting k h k' h' (record c { moved = moved }) image free channel
    → o ≡ waits c moved (record (view_now k h) { image = image; free = free }) → Makes k h o k' h'
unfolding view_of
wait-makes k h k' h' c moved image free channel o whole runs x is =
    let s = state_of k h in
    let l = live_now k h in
    let row : Own = waits c moved (record (view_now k h) { image = image; free = free }) in
    let law : After s (pid_now k) l row (state_of k' h') = subst (After s (pid_now k) l row) (sym x.state) (waiting s (pid_now k) l c moved image s.console free (live-is k h whole.sound runs)) in
    subst (λ (u : Own). Makes k h u k' h') (sym is) (waits-makes whole runs x row c.number (record { child = refl; stays = refl; pids = refl }) refl law)

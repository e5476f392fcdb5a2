-- A row that gives its process another image and other registers, and then is done.
use Rattle.kcall_core.proofs.Prelude.{ℕ, ℤ, ◌+◌, ◌∙◌, ◌≡◌, alone_state, ap, arith, Call, changed_at, descriptors_at, done, each_of, Hart, held_at, Image, IsRunning, IsSound, IsWhole, Kernel, length}
use Rattle.kcall_core.proofs.Prelude.{live_now, live_of, Makes, Memories, None, or_nobody, or_nothing, or_zero, Own, own_state, pid_now, place_at, place_now, price, refl, Registers, RunsIn, Same}
use Rattle.kcall_core.proofs.Prelude.{slot_now, SlotChanges, Some, State, state_of, view_now, with_answer, with_image}
use Rattle.kcall_core.proofs.table.States.{changed-here}
use Rattle.kcall_core.proofs.making.Answered.{answered-same, answered-anew}
use Rattle.kcall_core.proofs.making.AloneMakes.{done-makes, alone-twice}
use Rattle.proc_table.specs.Processes as process

-- Before its answer: the process that runs has this image and these registers, paid from the free frames, and its call is in progress still
pub record Prepared (k : Kernel) (h : Hart) (k1 : Kernel) (h1 : Hart) (image : Image) (regs : Registers) (free : ℕ) : Type 0 where
  pub sound : IsSound k1 h1
  pub table : k1.table ≡ k.table
  pub current : k1.current ≡ k.current
  pub files : k1.files ≡ k.files
  pub frames : length k1.memories.ram ≡ length k.memories.ram
  pub live : live_now k1 h1 ≡ record (live_now k h) { image = image; regs = regs }
  pub state : state_of k1 h1 ≡ alone_state (pid_now k) (record (live_now k h) { image = image; regs = regs }) (state_of k h).console free (state_of k h)
  pub paid : free + (price image + 1) ≡ (state_of k h).free + (price (live_now k h).image + 1)

-- ---- the memories are others

-- the kernel with other memories
abbrev pub over : Kernel → Memories → Kernel
over k m = record k { memories = m }

module _ {k : Kernel} {h h1 : Hart} {m : Memories} {image : Image} {regs : Registers} (sound : IsSound k h) (runs : IsRunning k) where
  -- the image in the slot that runs is another
  pub prepared-anew : SlotChanges k.memories m (slot_now k) (Some (with_image image (held_at (each_of k.memories) (slot_now k)))) → RunsIn m (slot_now k) h1 → h1.regs ≡ regs
      → Prepared k h (over k m) h1 image regs (state_of (over k m) h1).free
  prepared-anew changes runs' e =
      let both = answered-anew k (over k m) h h1 regs image sound runs changes runs' refl refl (record { files = refl; console = refl; programs = refl; clock = refl }) e in
      let here : held_at (each_of m) (slot_now k) ≡ with_image image (held_at (each_of k.memories) (slot_now k)) = ap or_nothing (changed-here (over k m) sound runs refl refl changes) in
      record {
        sound = both.0;
        table = refl;
        current = refl;
        files = refl;
        frames = changes.frames;
        live = λ t. live_of (place_now k) (descriptors_at k.table (slot_now k)) (here t) (e t);
        state = both.1.state;
        paid = omega (arith, both.1.free);
      }

-- the image is the same
pub prepared-same : {k : Kernel} {h : Hart} {m : Memories} → IsSound k h → IsRunning k → Same k.memories m → Prepared k h (over k m) h (live_now k h).image h.regs (state_of k h).free
prepared-same {k} {h} {m} sound runs same =
    let both = answered-same k (over k m) h h h.regs sound runs same refl refl (record { files = refl; console = refl; programs = refl; clock = refl }) refl in
    record {
      sound = both.0;
      table = refl;
      current = refl;
      files = refl;
      frames = same.frames;
      live = ap (λ each. live_of (place_now k) (descriptors_at k.table (slot_now k)) (held_at each (slot_now k)) h.regs) same.each;
      state = both.1;
      paid = refl;
    }

-- ---- the answer

-- then its call is done: the row is `done` of what was prepared
pub prepared-makes : {k k1 k2 : Kernel} {h h1 h2 : Hart} {image : Image} {regs : Registers} {free : ℕ} (c : Call) (value : ℤ) (o : Own) → IsWhole k h → IsRunning k → Prepared k h k1 h1 image regs free
    → IsSound k2 h2 → k2 ≡ record k1 { table = changed_at (slot_now k1) (process.in_call None) k1.table }
    → state_of k2 h2 ≡ own_state (pid_now k1) (with_answer value (live_now k1 h1)) (state_of k1 h1)
    → o ≡ done c value (record (view_now k h) { regs = regs; image = image; free = free }) → Makes k h o k2 h2
prepared-makes {k} {k1} {k2} {h} {h1} {h2} {image} {regs} {free} c value o whole runs p sound kernel state is =
    let s : State = state_of k h in
    let m = record (live_now k h) { image = image; regs = regs } in
    let pid : pid_now k1 ≡ pid_now k = λ t. (or_nobody (place_at (p.table t) (or_zero (p.current t)))).pid in
    let told : state_of k2 h2 ≡ own_state (pid_now k) (with_answer value m) (alone_state (pid_now k) m s.console free s) = state
    ∙ (λ t. own_state (pid t) (with_answer value (p.live t)) (p.state t)) in
    done-makes k h k2 h2 c value regs image free o whole runs
    (record {
      sound = sound;
      table = ap (λ (x : Kernel). x.table) kernel ∙ (λ t. changed_at (or_zero (p.current t)) (process.in_call None) (p.table t));
      current = ap (λ (x : Kernel). x.current) kernel ∙ p.current;
      files = ap (λ (x : Kernel). x.files) kernel ∙ p.files;
      frames = ap (λ (x : Kernel). length x.memories.ram) kernel ∙ p.frames;
      state = told ∙ alone-twice s (pid_now k) m (with_answer value m) s.console s.console free free;
      paid = p.paid;
    }) is

-- One instruction of the process that runs, as a step of its own and nothing else.
use Rattle.kcall_core.proofs.Prelude.{ℕ, ℤ, ◌+◌, ◌<◌, ◌∙◌, ◌≡◌, ◌≢◌, After, Alive, ap, arith, before-next, begins, Blocked, call_of, changed_at, Channel, channel_of, descriptors_at, each_of, Ecall}
use Rattle.kcall_core.proofs.Prelude.{Fault, get, goes_on, Hart, held_at, Holds, Image, in_call, insert_again, instruction, is_for, IsRunning, IsSound, IsWhole, KeepBuffers, Kernel, length, Live}
use Rattle.kcall_core.proofs.Prelude.{live, live_now, live_of, Makes, Memories, Next, next_instruction, next_of_stop, None, Option, option_map, or_nobody, or_nothing, Own, own, pid_now, place_at}
use Rattle.kcall_core.proofs.Prelude.{place_now, price, Process, refl, Registers, regs_after, set, set_live, slot_now, Slots, Some, State, state_after, state_call, state_in_call, state_of, Stays}
use Rattle.kcall_core.proofs.Prelude.{Step, step_in, Stepped, stepped, Steps, Stop, stop_of, stored, subst, sym, true, turns_of, View, view, view_now, view_of, waits_for, WellFormed, with_image}
use Rattle.kcall_core.proofs.Prelude.{with_store}
use Rattle.rv64i_core.specs.Memory.{Store}
use Rattle.kcall_core.proofs.memory.Lists.{set-read}
use Rattle.kcall_core.proofs.table.States.{running, Goes, goes-sound, goes-state, changed-here, changed-has, changed-goes}
use Rattle.kcall_core.proofs.turns.Turned.{live-is}
use Rattle.kernel_spec.proofs.well.WellLaws.{stores_take_nothing}
use Rattle.kcall_core.proofs.turns.StepSlots.{KeepsAll}
use Rattle.kcall_core.proofs.making.Buffers.{no-call-keeps}
use Rattle.kcall_core.proofs.making.AloneMakes.{OnlyItself, only-makes}
use Rattle.rv64i_core.specs.declared.execution.Stop.TheVariants as stops
use Rattle.proc_table.specs.declared.process.State as table
use Rattle.proc_table.specs.declared.process.State.TheVariants as table_state
use Rattle.kernel_spec.specs.steps.Cases as laws

-- the process after a step
abbrev pub after_step : Step → Live → Live
after_step step l = record l { regs = regs_after l.regs step; image = state_after with_store l.image step }

pub after-next : (l : Live) (r : Registers) (st : Option Store) → after_step (Next r st) l ≡ stepped r st l
after-next l r None = refl
after-next l r (Some st) = refl

-- any other one leaves the process as it is
pub after-stop : (l : Live) (step : Step) → stop_of step ≢ stops.Next → after_step step l ≡ l
after-stop l (Next r st) other = absurd (other refl)
after-stop l Ecall other = refl
after-stop l (Fault cause) other = refl

pub set-again : (s : State) (p : ℕ) (l : Live) → get s.processes p ≡ Some (Alive l) → set_live p l s ≡ s
set-again s p l is = λ t. record s { processes = insert_again s.processes p (Alive l) is t }

-- ---- the memories become others, and the state is the same

-- who sleeps does so on its channel, as the state stands
abbrev SleepSo : Slots → State → Type 0
SleepSo t s = (slot : ℕ) (p : Process) (l : Live) (channel : Channel) → Holds t slot p → live s p.pid ≡ Some l → channel_of p ≡ Some channel → is_for (waits_for s p.pid l) channel ≡ true

module _ (k : Kernel) (m : Memories) (h h' : Hart) (whole : IsWhole k h) (frames : length m.ram ≡ length k.memories.ram)
    (sound : IsSound (record k { memories = m }) h') (same : state_of (record k { memories = m }) h' ≡ state_of k h) where
  whole-same : IsWhole (record k { memories = m }) h'
  unfolding turns_of
  whole-same = record {
    sound = sound;
    well = subst (λ n. WellFormed n (state_of (record k { memories = m }) h')) (sym frames) (subst (WellFormed (length k.memories.ram)) (sym same) whole.well);
    files = whole.files;
    counted = whole.counted;
    channels = subst (SleepSo k.table) (sym same) whole.channels;
    awake = whole.awake;
    unready = λ q v asleep see. whole.unready q v asleep (sym (ap (λ (s : State). view s q) same) ∙ see);
    buffers = subst KeepBuffers (sym same) whole.buffers;
  }

  pub stays-same : Stays k h (record k { memories = m }) h'
  unfolding turns_of
  stays-same = record { whole = whole-same; world = λ t. record { state = same t; turns = turns_of k None }; frames = frames }

-- ---- an instruction that is done

not-blocked : (number : ℤ) → Stepped ≡ Blocked number → ⊥
not-blocked number e = cc

-- who stays in the call that it is in is the same
in-call-again : (p : Process) → in_call (call_of p) p ≡ p
in-call-again p = λ t. record p { state = again p.state t }
  where
    again : (s : table.State) → state_in_call (state_call s) s ≡ s
    again (table_state.Live life) = refl
    again (table_state.Zombie status) = refl

pub table-again : (t : Slots) (slot : ℕ) (p : Process) → slot < length t.places → place_at t slot ≡ Some p → t ≡ changed_at slot (in_call (call_of p)) t
table-again t slot p inside is = sym (λ i. record t { places = places i })
  where
    places : set t.places slot (option_map (in_call (call_of p)) (place_at t slot)) ≡ t.places
    places = ap (λ o. set t.places slot (option_map (in_call (call_of p)) o)) is ∙ ap (λ q. set t.places slot (Some q)) (in-call-again p) ∙ set-read t.places slot (Some p) None inside is

takes-nothing : (image : Image) (r : Registers) (st : Option Store) → price (state_after with_store image (Next r st)) ≡ price image
takes-nothing image r None = refl
takes-nothing image r (Some st) = stores_take_nothing image st

same-pids : (v : View) (r : Registers) (st : Option Store) → (stored v r st).pids ≡ v.pids
same-pids v r None = refl
same-pids v r (Some st) = refl

module _ (k : Kernel) (m : Memories) (h h' : Hart) (r : Registers) (st : Option Store) (whole : IsWhole k h) (runs : IsRunning k)
    (free : laws.IsBetweenCalls (live_now k h)) (is : next_instruction (live_now k h).regs (live_now k h).image ≡ Next r st)
    (frames : length m.ram ≡ length k.memories.ram) (sound : IsSound (record k { memories = m }) h')
    (same : state_of (record k { memories = m }) h' ≡ set_live (pid_now k) (after_step (Next r st) (live_now k h)) (state_of k h)) where
  itself : OnlyItself k h (record k { memories = m }) h'
  itself =
      let i = running k h whole.sound runs in
      let place : i.is.process ≡ place_now k = ap or_nobody (sym i.is.is) in
      record {
        regs = r;
        image = state_after with_store (live_now k h).image (Next r st);
        call = (live_now k h).call;
        free = (state_of k h).free;
        sound = sound;
        table = table-again k.table (slot_now k) (place_now k) (omega (arith, whole.sound.table.places, i.inside)) (i.is.is ∙ ap Some place);
        current = refl;
        files = refl;
        frames = frames;
        state = same;
        paid = ap (λ n. (state_of k h).free + (n + 1)) (takes-nothing (live_now k h).image r st);
        buffer = no-call-keeps (live_now k h).call (state_after with_store (live_now k h).image (Next r st)) free.1;
      }

  comes : own (view_now k h) ≡ goes_on Stepped (stored (view_now k h) r st)
  comes = begins (state_of k h) (pid_now k) (live_now k h) free (before-next (state_of k h) (pid_now k) (live_now k h) r st is) (Next r st) is

  keeps : KeepsAll (state_of k h) (own (view_now k h))
  unfolding view_of
  keeps = subst (KeepsAll (state_of k h)) (sym comes) (record { child = refl; stays = refl; pids = same-pids (view_now k h) r st })

  pub instruction-makes : Makes k h (own (view_now k h)) (record k { memories = m }) h'
  instruction-makes =
      only-makes whole runs itself (own (view_now k h)) keeps (λ b. not-blocked b.0 (sym (ap (λ (o : Own). o.answer) comes) ∙ b.1))
      (subst (After (state_of k h) (pid_now k) (live_now k h) (own (view_now k h))) (sym (same ∙ ap (λ l. set_live (pid_now k) l (state_of k h)) (after-next (live_now k h) r st)))
      (instruction (state_of k h) (pid_now k) (live_now k h) r st (live-is k h whole.sound runs) free is))

-- ---- what the memories' step comes to for the kernel

module _ (k : Kernel) (new : Memories) (h h' : Hart) (stop : Stop) (whole : IsWhole k h) (runs : IsRunning k) (s : Steps k.memories new (slot_now k) h h' stop) where
  abbrev step : Step
  step = step_in k.memories (slot_now k) h.regs

  goes : Goes k (record k { memories = new })
  goes = changed-goes (record k { memories = new }) whole.sound runs refl refl s.changes

  step-sound : IsSound (record k { memories = new }) h'
  step-sound = goes-sound k (record k { memories = new }) h h' whole.sound runs goes s.changes.sound (changed-has (record k { memories = new }) whole.sound runs refl refl s.changes) s.runs

  step-state : state_of (record k { memories = new }) h' ≡ set_live (pid_now k) (after_step step (live_now k h)) (state_of k h)
  unfolding state_of
  step-state =
      let held = held_at (each_of k.memories) (slot_now k) in
      let here : held_at (each_of new) (slot_now k) ≡ with_image (state_after with_store held.image step) held =
      ap or_nothing (changed-here (record k { memories = new }) whole.sound runs refl refl s.changes) in
      goes-state k (record k { memories = new }) h h' whole.sound runs (record { goes = goes; files = refl; pipes = s.changes.pipes; console = refl; programs = refl; clock = refl })
      ∙ (λ t. record (set_live (pid_now k) (live_of (place_now k) (descriptors_at k.table (slot_now k)) (here t) (s.regs t)) (state_of k h)) { free = s.free t })

  pub step-done : laws.IsBetweenCalls (live_now k h) → stop ≡ stops.Next → Makes k h (own (view_now k h)) (record k { memories = new }) h'
  step-done free ends =
      let n = next_of_stop step (sym s.ends ∙ ends) in
      instruction-makes k new h h' n.0 n.1 whole runs free n.2 s.changes.frames step-sound (step-state ∙ ap (λ x. set_live (pid_now k) (after_step x (live_now k h)) (state_of k h)) n.2)

  pub step-stays : stop ≢ stops.Next → Stays k h (record k { memories = new }) h'
  step-stays other =
      stays-same k new h h' whole s.changes.frames step-sound
      (step-state ∙ ap (λ l. set_live (pid_now k) l (state_of k h)) (after-stop (live_now k h) step (λ e. other (s.ends ∙ e)))
      ∙ set-again (state_of k h) (pid_now k) (live_now k h) (live-is k h whole.sound runs))

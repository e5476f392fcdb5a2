-- A turn: the slot that runs next is noted, and nothing else of the state is another.
use Rattle.kcall_core.proofs.Prelude.{ℕ, ◌<◌, ◌∙◌, ◌≡◌, ap, false≢true, Hart, IsSound, Kernel, Live_state as Live, None, none-some, NPROC, Option, option_map, or_nobody, pid_at, pid_now, place_at}
use Rattle.kcall_core.proofs.Prelude.{place_is_runnable, Process, process_pid, refl, slot_now, Slots, Some, state_of, state_runnable, state_status, status_of, subst, sym, true, Zombie_state as Zombie}
use Rattle.proc_table.specs.declared.process.State.{State}

pub live-state : (s : State) → state_runnable s ≡ true → state_status s ≡ None
live-state (Live life) e = refl
live-state (Zombie status) e = absurd (false≢true e)

-- a process that may run is live
pub chosen : (o : Option Process) → place_is_runnable o ≡ true → (p : Process) × (o ≡ Some p) × (status_of p ≡ None)
chosen None e = absurd (false≢true e)
chosen (Some p) e = (p, refl, live-state p.state e)

-- the kernel with another slot that ran last
abbrev pub noted : Kernel → Slots → Kernel
noted k table = record k { table = table }

pub noted-sound : (k : Kernel) (h : Hart) (i : ℕ) (table : Slots) → IsSound k h → i < NPROC → table ≡ record k.table { last = i } → IsSound (noted k table) h
noted-sound k h i table sound lt e = subst (λ t. IsSound (noted k t) h) (sym e) (record {
  memories = sound.memories;
  table = record { places = sound.table.places; descriptors = sound.table.descriptors; last = lt; first = sound.table.first; next = sound.table.next; pids = sound.table.pids };
  lives = sound.lives;
  ended = sound.ended;
  vacant = sound.vacant;
  current = λ slot at. let c = sound.current slot at in record { process = c.process; is = c.is; live = c.live; runs = c.runs };
  idle = sound.idle;
})

pub noted-state : (k : Kernel) (h : Hart) (i : ℕ) (table : Slots) → table ≡ record k.table { last = i } → state_of (noted k table) h ≡ state_of k h
unfolding state_of
noted-state k h i table e = ap (λ t. state_of (noted k t) h) e

told-pid : (o : Option Process) (pid : ℕ) → option_map process_pid o ≡ Some pid → (or_nobody o).pid ≡ pid
told-pid None pid e = absurd (none-some pid e)
told-pid (Some p) pid e = cc

-- the pid of the slot that runs
pub pid-told : (k : Kernel) (slot pid : ℕ) → slot_now k ≡ slot → pid_at k.table slot ≡ Some pid → pid_now k ≡ pid
pid-told k slot pid e told = ap (λ n. (or_nobody (place_at k.table n)).pid) e ∙ told-pid (place_at k.table slot) pid told

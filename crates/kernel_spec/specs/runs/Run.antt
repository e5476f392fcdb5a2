-- Runs of the machine: lists of events, with what each gives, that lead from one state to another.
use Rattle.std.specs.Prelude.{◌≡◌, ◌≢◌, ℕ, ℤ, ◌+◌, ◌%◌, ◌⊎◌, if◌then◌else◌, List, [], ◌∷◌, drop, Option, None, Some, IsSome, MatchOption, flat_map, nat_eq, Contains}
use Rattle.std.specs.FinMap.{get, keys}
use Rattle.xk_base.specs.Chains.{Leads}
use Rattle.console_core.specs.Lists.{Console}
use Rattle.console_core.specs.Keys.{line}
use Rattle.kernel_spec.specs.views.Words.{CLOCK_ROUND}
use Rattle.kernel_spec.specs.views.State.{State}
use Rattle.kernel_spec.specs.waking.Turns.{Turns, Sleeps, HasSlot, IsLowestFree}
use Rattle.kernel_spec.specs.views.View.{View, view}
use Rattle.kernel_spec.specs.steps.Own.{Own, Left, Answer, Stepped, Called, Blocked, gone_with}
use Rattle.kernel_spec.specs.steps.Step.{own}
use Rattle.kernel_spec.specs.others.Quiet.{file_at, pipe_at, Quiet}

-- what a machine stands for: the state of its kernel, and whose turn it is
pub record World : Type 0 where
  pub state : State
  pub turns : Turns

-- what happens to a machine
pub data Event : Type 0 where
  -- one step of the current process, or a turn
  Run : Event
  -- the timer interrupts
  Tick : Event
  -- a key is typed
  Key : (byte : ℕ) → Event
  -- the terminal can take a byte
  Send : Event

-- what the machine answers
pub data Outcome : Type 0 where
  -- this process made a step, with this answer
  Step_of : (pid : ℕ) → Answer → Outcome
  -- it has the turn now
  Turn : (pid : ℕ) → Outcome
  -- no process may run
  Idle : Outcome
  Ticked : Outcome
  -- what the console showed for the key
  Typed : (echo : List ℕ) → Outcome
  -- the byte that left, if there was one
  Sent : Option ℕ → Outcome
  -- pid 1 has gone
  Halted : Outcome

-- ---- the turn part

-- sleepers may wake, and no process falls asleep
abbrev pub OnlyWake : Turns → Turns → Type 0
OnlyWake before after = (p : ℕ) → Sleeps after p → Sleeps before p

-- but for sleepers that wake, the turn part is this
abbrev pub IsButWoken : Turns → Turns → Type 0
IsButWoken turns after = (after ≡ record turns { sleepers = after.sleepers }) × OnlyWake turns after

-- who runs after this answer of process p: p, unless it waits or is gone
abbrev pub stays_current : ℕ → Answer → Option ℕ
stays_current p Stepped = Some p
stays_current p (Called number value) = Some p
stays_current p _ = None

-- this status, where p is process 1
abbrev pub of_first : (p : ℕ) → Option ℤ → Option ℤ
of_first p None = None
of_first p (Some status) = if nat_eq p 1 then Some status else None

-- the status with which the machine is halted by a step of p that answers so
abbrev pub halts_with : (p : ℕ) → Answer → Option ℤ
halts_with p answer = of_first p (gone_with answer)

-- the status with which process 1 goes, where it does
abbrev pub halted_by : Outcome → Option ℤ
halted_by (Step_of p answer) = halts_with p answer
halted_by _ = None

abbrev pub IsBlocked : Answer → Type 0
IsBlocked answer = (number : ℤ) × (answer ≡ Blocked number)

-- The turn part after a step of p. Slots stay held, but a zombie that is waited for gives up its slot, and a newborn takes the lowest free one
pub record TurnsAfter (before : Turns) (p : ℕ) (o : Own) (after : Turns) : Type 0 where
  pub last : after.last ≡ before.last
  pub current : after.current ≡ stays_current p o.answer
  pub halted : after.halted ≡ halts_with p o.answer
  pub held : (q : ℕ) → Contains o.left.pids q → IsSome (get before.slots q) → get after.slots q ≡ get before.slots q
  pub given_up : (q : ℕ) → ¬ Contains o.left.pids q → get after.slots q ≡ None
  pub newborn : MatchOption o.child (Unit {0}) (λ c. ((slot : ℕ) × HasSlot after c.pid slot × IsLowestFree before slot) × ¬ Sleeps after c.pid)
  pub blocked : IsBlocked o.answer → Sleeps after p
  pub awake : (q : ℕ) → Sleeps after q → Sleeps before q ⊎ ((q ≡ p) × IsBlocked o.answer)

-- ---- what the step leaves to all

-- The state holds what `own` leaves, also where no process is left to see it; the clock and the programs stay
pub record IsLeft (left : Left) (s t : State) : Type 0 where
  pub console : t.console ≡ left.console
  pub pids : keys t.processes ≡ left.pids
  pub next_pid : t.next_pid ≡ left.next_pid
  pub free : t.free ≡ left.free
  pub clock : t.clock ≡ s.clock
  pub programs : t.programs ≡ s.programs

-- ---- which open file each descriptor names

-- what a descriptor of a process is on, by the kernel's own numbers: an open file (`file_at`), or a pipe (`pipe_at`)
abbrev pub Naming : Type 0
Naming = State → (p d : ℕ) → Option ℕ

-- a descriptor that stays in use is on the same
abbrev pub StaysOn : Naming → State → State → Type 0
StaysOn on s t = (q d f g : ℕ) → on s q d ≡ Some f → on t q d ≡ Some g → f ≡ g

-- what p is on then, and wasn't on before, no other process is on
abbrev pub IsNewTo : ℕ → Naming → State → State → Type 0
IsNewTo p on s t = (q d e f : ℕ) → on t p d ≡ Some f → ((k : ℕ) → on s p k ≢ Some f) → on t q e ≡ Some f → q ≡ p

-- The open files and pipes that descriptors are on after a step of p, which comes to o
pub record FilesAfter (s : State) (p : ℕ) (o : Own) (t : State) : Type 0 where
  pub same_file : StaysOn file_at s t
  pub same_pipe : StaysOn pipe_at s t
  pub new_file : IsNewTo p file_at s t
  pub new_pipe : IsNewTo p pipe_at s t
  -- a newborn's descriptors name its parent's open files
  pub newborn : MatchOption o.child (Unit {0}) (λ c. (d : ℕ) → file_at t c.pid d ≡ file_at s p d)

-- ---- one step of the current process

abbrev pub IsNewbornOf : Own → ℕ → Type 0
IsNewbornOf o q = MatchOption o.child ⊥ (λ c. q ≡ c.pid)

-- The state t after a step of the process of view v in the state s, which comes to o
pub record StateAfter (s : State) (v : View) (o : Own) (t : State) : Type 0 where
  -- its own view, and that of a process that it made
  pub next : view t v.pid ≡ o.next
  pub newborn : MatchOption o.child (Unit {0}) (λ c. view t c.pid ≡ Some c)
  -- every other live process stays live, and sees of the step only that; nobody else comes to life
  pub others : Quiet s v o t
  pub no_more : (q : ℕ) → IsSome (view t q) → (q ≡ v.pid) ⊎ IsSome (view s q) ⊎ IsNewbornOf o q
  -- what all see
  pub left : IsLeft o.left s t
  pub files : FilesAfter s v.pid o t

-- process p makes the step that its view tells
pub record StepOf (w : World) (p : ℕ) (outcome : Outcome) (t : World) : Type 0 where
  pub before : View
  pub was : view w.state p ≡ Some before
  pub answer : outcome ≡ Step_of p (own before).answer
  pub state : StateAfter w.state before (own before) t.state
  pub turns : TurnsAfter w.turns p (own before) t.turns

-- ---- the other events

-- p becomes current, and its slot the last one run; or nothing changes. That p may run, and is the nearest, is said in `Wakes`
abbrev pub TurnTaken : World → Outcome → World → Type 0
TurnTaken w (Turn p) t = (slot : ℕ) × HasSlot w.turns p slot × IsSome (view w.state p) × (t ≡ record w { turns = record w.turns { current = Some p; last = slot } })
TurnTaken w Idle t = t ≡ w
TurnTaken w _ t = ⊥

abbrev pub first_sent : List ℕ → Option ℕ
first_sent [] = None
first_sent (b ∷ bs) = Some b

abbrev pub sent : Console → Console
sent c = record c { to_send = drop 1 c.to_send }

abbrev pub HaltedRun : World → Outcome → World → Type 0
HaltedRun w outcome t = (outcome ≡ Halted) × (t ≡ w)

-- by the status of pid 1, where it is gone, and by the current process
abbrev pub RunHappens : World → Option ℤ → Option ℕ → Outcome → World → Type 0
RunHappens w (Some status) current outcome t = HaltedRun w outcome t
RunHappens w None (Some p) outcome t = StepOf w p outcome t
RunHappens w None None outcome t = TurnTaken w outcome t

abbrev pub TickHappens : World → Option ℤ → Outcome → World → Type 0
TickHappens w (Some status) outcome t = HaltedRun w outcome t
TickHappens w None outcome t =
    (outcome ≡ Ticked)
    × (t.state ≡ record w.state { clock = (w.state.clock + 1) % CLOCK_ROUND })
    × IsButWoken (record w.turns { current = None }) t.turns

abbrev pub KeyHappens : World → Option ℤ → ℕ → Outcome → World → Type 0
KeyHappens w (Some status) b outcome t = HaltedRun w outcome t
KeyHappens w None b outcome t =
    (outcome ≡ Typed (line w.state.console b).1)
    × (t.state ≡ record w.state { console = (line w.state.console b).0 })
    × IsButWoken w.turns t.turns

abbrev pub SendHappens : World → Outcome → World → Type 0
SendHappens w outcome t =
    (outcome ≡ Sent (first_sent w.state.console.to_send))
    × (t.state ≡ record w.state { console = sent w.state.console })
    × IsButWoken w.turns t.turns

-- The event may give this outcome and lead from w to t. Which sleepers wake, and whose turn it is, is said in `Wakes`; both together are `Promised`
abbrev pub Happens : World → Event → Outcome → World → Type 0
Happens w Run outcome t = RunHappens w w.turns.halted w.turns.current outcome t
Happens w Tick outcome t = TickHappens w w.turns.halted outcome t
Happens w (Key b) outcome t = KeyHappens w w.turns.halted b outcome t
Happens w Send outcome t = SendHappens w outcome t

-- the list of events and outcomes leads from w to t
abbrev pub IsRun : World → List (Event × Outcome) → World → Type 0
IsRun w es t = Leads (λ (v : World) (e : Event × Outcome) (u : World). Happens v e.0 e.1 u) w es t

-- ---- what comes out of a run

abbrev pub bytes_out : Outcome → List ℕ
bytes_out (Typed echo) = echo
bytes_out (Sent (Some b)) = b ∷ []
bytes_out _ = []

abbrev pub out : List (Event × Outcome) → List ℕ
out es = flat_map (λ e. bytes_out e.1) es

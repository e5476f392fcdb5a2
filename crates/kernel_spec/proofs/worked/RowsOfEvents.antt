-- Worked cases of the events: a tick, a key, a byte to be sent, on a machine that goes on and on one that is halted; slots and turns; and what a run shows.
-- Processes, open files, pipes and slots are any.
use Rattle.kernel_spec.proofs.Prelude.{[], ℕ, ◌-◌, ◌<◌, ◌^◌, ◌∙◌, ◌∷◌, ◌≡◌, ◌≢◌, ◌≤◌, ap, arith, Blocked, Call, Called, codes, Console, Contains, contains, distance, empty_console, Exited, false}
use Rattle.kernel_spec.proofs.Prelude.{Faulted, FinMap, FinSet, Halted, halted_by, Happens, HasSlot, Idle, inl, inr, IsFreeSlot, IsLowestFree, IsRunnable, IsSome, Key, List, LoadPageFault, map}
use Rattle.kernel_spec.proofs.Prelude.{MatchOption, nat_cmp, negsuc, None, none-some, OpenFile, Option, out, Outcome, Own, Pipe, pos, Process, ready, refl, Run, same_Some, Send, Sent, Sleeps, Some}
use Rattle.kernel_spec.proofs.Prelude.{State, stays_current, Step_of, Stepped, subst, sym, TakesNearest, Tick, Ticked, true, Turn, Turns, TurnsAfter, Typed, View, view, WakesWhereDue, World}
use Rattle.kernel_spec.proofs.worked.WorkedViews.{call}

-- ---- a world with these parts

module _ (processes : FinMap nat_cmp Process) (files : FinMap nat_cmp OpenFile) (pipes : FinMap nat_cmp Pipe) (slots : FinMap nat_cmp ℕ)
    (asleep fewer : FinSet nat_cmp) (wakes : (p : ℕ) → contains fewer p ≡ true → contains asleep p ≡ true) where
  stated : (clock : ℕ) → Console → State
  stated clock console = record { processes = processes; files = files; pipes = pipes; console = console; clock = clock; next_pid = 4; free = 9; programs = [] }

  turned : (current : Option ℕ) → FinSet nat_cmp → Turns
  turned current sleepers = record { slots = slots; sleepers = sleepers; last = 5; current = current; halted = None }

  -- process 1 runs, and whoever is in `asleep` sleeps
  at : (clock : ℕ) → Console → World
  at clock console = record { state = stated clock console; turns = turned (Some 1) asleep }

  -- the same, halted
  ended : World
  ended = record { state = stated 7 empty_console; turns = record (turned None asleep) { halted = Some (pos 0) } }

  -- ---- Tick: nobody runs, and sleepers may wake

  tick : Happens (at 7 empty_console) Tick Ticked (record { state = stated 8 empty_console; turns = turned None fewer })
  unfolding at stated turned
  tick = (refl, refl, (refl, wakes))

  -- the clock goes round
  tick_round : Happens (at (2 ^ 32 - 1) empty_console) Tick Ticked (record { state = stated 0 empty_console; turns = turned None asleep })
  unfolding at stated turned
  tick_round = (refl, refl, (refl, λ p is. is))

  module _ (o : Outcome) (t : World) (h : Happens (at 7 empty_console) Tick o t) where
    ticked : o ≡ Ticked
    unfolding at stated turned
    ticked = h.0

    tick_clock : t.state.clock ≡ 8
    unfolding at stated turned
    tick_clock = ap (λ (s : State). s.clock) h.1

    tick_processes : t.state.processes ≡ processes
    unfolding at stated turned
    tick_processes = ap (λ (s : State). s.processes) h.1

    tick_current : t.turns.current ≡ None
    unfolding at stated turned
    tick_current = ap (λ (u : Turns). u.current) h.2.0

    tick_last : t.turns.last ≡ 5
    unfolding at stated turned
    tick_last = ap (λ (u : Turns). u.last) h.2.0

    tick_slots : t.turns.slots ≡ slots
    unfolding at stated turned
    tick_slots = ap (λ (u : Turns). u.slots) h.2.0

    tick_sleepers : (p : ℕ) → contains t.turns.sleepers p ≡ true → contains asleep p ≡ true
    unfolding at stated turned
    tick_sleepers = h.2.1

  -- ---- Key: the console takes it and shows it; who runs goes on

  -- `a` is shown; Enter shows byte 10 and commits; Ctrl-U takes two bytes back; key 0 does nothing
  abbrev typed : (committed uncommitted : List ℕ) → Console
  typed committed uncommitted = record { committed = committed; uncommitted = uncommitted; to_send = [] }

  key_a : Happens (at 7 empty_console) (Key 97) (Typed (97 ∷ [])) (record { state = stated 7 (typed [] (codes "a")); turns = turned (Some 1) asleep })
  unfolding at stated turned
  key_a = (refl, refl, (refl, λ p is. is))

  key_enter : Happens (at 7 (typed [] (codes "ab"))) (Key 13) (Typed (10 ∷ [])) (record { state = stated 7 (typed (codes "ab\n") []); turns = turned (Some 1) fewer })
  unfolding at stated turned
  key_enter = (refl, refl, (refl, wakes))

  key_erase_line : Happens (at 7 (typed [] (codes "ab"))) (Key 21) (Typed (8 ∷ 32 ∷ 8 ∷ 8 ∷ 32 ∷ 8 ∷ [])) (at 7 empty_console)
  unfolding at stated turned
  key_erase_line = (refl, refl, (refl, λ p is. is))

  key_0 : Happens (at 7 (typed [] (codes "ab"))) (Key 0) (Typed []) (at 7 (typed [] (codes "ab")))
  unfolding at stated turned
  key_0 = (refl, refl, (refl, λ p is. is))

  module _ (o : Outcome) (t : World) (h : Happens (at 7 empty_console) (Key 97) o t) where
    key_echo : o ≡ Typed (97 ∷ [])
    unfolding at stated turned
    key_echo = h.0

    key_state : t.state ≡ stated 7 (typed [] (codes "a"))
    unfolding at stated turned
    key_state = h.1

    key_current : t.turns.current ≡ Some 1
    unfolding at stated turned
    key_current = ap (λ (u : Turns). u.current) h.2.0

    key_sleepers : (p : ℕ) → contains t.turns.sleepers p ≡ true → contains asleep p ≡ true
    unfolding at stated turned
    key_sleepers = h.2.1

  -- ---- Send: the first byte leaves

  abbrev to_send : List ℕ → Console
  to_send bytes = record { committed = codes "x"; uncommitted = []; to_send = bytes }

  send_0 : Happens (at 7 (to_send (0 ∷ 104 ∷ 105 ∷ []))) Send (Sent (Some 0)) (record { state = stated 7 (to_send (104 ∷ 105 ∷ [])); turns = turned (Some 1) fewer })
  unfolding at stated turned
  send_0 = (refl, refl, (refl, wakes))

  send_32 : Happens (at 7 (to_send (32 ∷ []))) Send (Sent (Some 32)) (at 7 (to_send []))
  unfolding at stated turned
  send_32 = (refl, refl, (refl, λ p is. is))

  send_none : Happens (at 7 (to_send [])) Send (Sent None) (at 7 (to_send []))
  unfolding at stated turned
  send_none = (refl, refl, (refl, λ p is. is))

  module _ (o : Outcome) (t : World) (h : Happens (at 7 (to_send (0 ∷ 104 ∷ 105 ∷ []))) Send o t) where
    sent_0 : o ≡ Sent (Some 0)
    unfolding at stated turned
    sent_0 = h.0

    sent_state : t.state ≡ stated 7 (to_send (104 ∷ 105 ∷ []))
    unfolding at stated turned
    sent_state = h.1

    sent_current : t.turns.current ≡ Some 1
    unfolding at stated turned
    sent_current = ap (λ (u : Turns). u.current) h.2.0

    sent_sleepers : (p : ℕ) → contains t.turns.sleepers p ≡ true → contains asleep p ≡ true
    unfolding at stated turned
    sent_sleepers = h.2.1

  -- ---- a halted machine: Run, Tick and Key change nothing, and Send works

  ended_run : Happens ended Run Halted ended
  unfolding ended turned
  ended_run = (refl, refl)

  ended_tick : Happens ended Tick Halted ended
  unfolding ended turned
  ended_tick = (refl, refl)

  ended_key : Happens ended (Key 97) Halted ended
  unfolding ended turned
  ended_key = (refl, refl)

  ended_send : Happens (record ended { state = stated 7 (to_send (104 ∷ [])) }) Send (Sent (Some 104)) (record ended { state = stated 7 (to_send []) })
  unfolding ended stated turned
  ended_send = (refl, refl, (refl, λ p is. is))

  ended_stays : (o : Outcome) (t : World) → Happens ended Tick o t → (o ≡ Halted) × (t ≡ ended)
  unfolding ended turned
  ended_stays o t h = h

-- ---- who runs after a step, and which step halts the machine

runs_on : map (stays_current 3) (Stepped ∷ Called (pos 1) (pos 0) ∷ Blocked (pos 3) ∷ Exited (pos 0) ∷ Faulted LoadPageFault ∷ []) ≡ Some 3 ∷ Some 3 ∷ None ∷ None ∷ None ∷ []
runs_on = refl

halting : map halted_by (Step_of 1 Stepped ∷ Step_of 1 (Blocked (pos 3)) ∷ Step_of 1 (Exited (pos 7)) ∷ Step_of 1 (Faulted LoadPageFault) ∷ Step_of 2
    (Exited (pos 7)) ∷ Step_of 2 (Faulted LoadPageFault) ∷ Idle ∷ Halted ∷ [])
    ≡ None ∷ None ∷ Some (pos 7) ∷ Some (negsuc 0) ∷ None ∷ None ∷ None ∷ None ∷ []
halting = refl

-- ---- slots: slots 0 and 1 are held, and 2 is free, and so are some above it

module _ (t : Turns) (p q : ℕ) (first : HasSlot t p 0) (second : HasSlot t q 1) (free : IsFreeSlot t 2) where
  not_0 : (k : ℕ) → IsFreeSlot t k → k ≢ 0
  not_0 k is e = is p (first ∙ ap Some (sym e))

  not_1 : (k : ℕ) → IsFreeSlot t k → k ≢ 1
  not_1 k is e = is q (second ∙ ap Some (sym e))

  lowest_is_2 : IsLowestFree t 2
  lowest_is_2 = (omega arith, free, λ k is. let a : k ≢ 0 = not_0 k is in let b : k ≢ 1 = not_1 k is in omega arith)

  lowest_is_only : (slot : ℕ) → IsLowestFree t slot → slot ≡ 2
  lowest_is_only slot (below, is, least) = let a : slot ≢ 0 = not_0 slot is in let b : slot ≢ 1 = not_1 slot is in let c : slot ≤ 2 = least 2 free in omega arith

-- with all 64 slots held there is none
no_lowest : (t : Turns) → ((k : ℕ) → k < 64 → (p : ℕ) × HasSlot t p k) → (slot : ℕ) → IsLowestFree t slot → ⊥
no_lowest t held slot (below, is, least) = let h = held slot below in is h.0 h.1

-- a newborn takes it, and doesn't sleep
module _ (before after : Turns) (p q r : ℕ) (o : Own) (c : View) (made : o.child ≡ Some c) (h : TurnsAfter before r o after) where
  abbrev Born : Option View → Type 0
  Born child = MatchOption child (Unit {0}) (λ c. ((slot : ℕ) × HasSlot after c.pid slot × IsLowestFree before slot) × ¬ Sleeps after c.pid)

  newborn_slot : HasSlot before p 0 → HasSlot before q 1 → IsFreeSlot before 2 → HasSlot after c.pid 2
  newborn_slot first second free =
      let born : Born (Some c) = subst Born made h.newborn in let (slot, has, lowest) = born.0 in has ∙ ap Some (lowest_is_only before p q first second free slot lowest)

  newborn_runs : Sleeps after c.pid → ⊥
  newborn_runs = let born : Born (Some c) = subst Born made h.newborn in born.1

-- who waits sleeps then, and nobody runs; who goes on runs; the turn isn't another's; slots stay, and the pid that was waited for has none
module _ (before after : Turns) (r : ℕ) (o : Own) (h : TurnsAfter before r o after) where
  blocked_sleeps : o.answer ≡ Blocked (pos 3) → Sleeps after r
  blocked_sleeps is = h.blocked (pos 3, is)

  blocked_stops : o.answer ≡ Blocked (pos 3) → after.current ≡ None
  blocked_stops is = h.current ∙ ap (stays_current r) is

  called_runs : o.answer ≡ Called (pos 3) (pos 2) → after.current ≡ Some r
  called_runs is = h.current ∙ ap (stays_current r) is

  same_last : after.last ≡ before.last
  same_last = h.last

  same_slot : (q : ℕ) → Contains o.left.pids q → HasSlot before q 5 → HasSlot after q 5
  same_slot q there has = h.held q there (subst IsSome (sym has) refl) ∙ has

  slot_given_up : (q : ℕ) → ¬ Contains o.left.pids q → (slot : ℕ) → ¬ HasSlot after q slot
  slot_given_up q gone slot has = none-some slot (sym (h.given_up q gone) ∙ has)

  nobody_else_sleeps : (q : ℕ) → q ≢ r → Sleeps after q → Sleeps before q
  nobody_else_sleeps q apart sleeps = elim (h.awake q sleeps) [ inl was ↦ was | inr own ↦ absurd (apart own.0) ]

-- ---- turns go upwards, and round from slot 63 to slot 0; who had the last turn comes last

distances : distance 62 63 ∷ distance 63 0 ∷ distance 62 0 ∷ distance 0 1 ∷ distance 0 63 ∷ distance 3 2 ∷ distance 0 0 ∷ distance 63 63 ∷ [] ≡ 0 ∷ 0 ∷ 1 ∷ 0 ∷ 62 ∷ 62 ∷ 63 ∷ 63 ∷ []
distances = refl

-- slot 62 had the last turn, and p in slot 63 and q in slot 0 may run: the turn isn't q's
past_the_last : (w : World) (p q : ℕ) → w.turns.last ≡ 62 → w.turns.halted ≡ None → w.turns.current ≡ None → IsRunnable w p → IsRunnable w q → HasSlot w.turns p 63 → HasSlot w.turns q 0
    → TakesNearest w Run (Turn q) → ⊥
past_the_last w p q last halted current p_may q_may p_has q_has takes =
    let near : distance w.turns.last 0 ≤ distance w.turns.last 63 = let is = (takes refl halted current).1 q refl in is.1 p 0 63 p_may q_has p_has in
    let numbers : 1 ≤ 0 = subst (λ (n : ℕ). distance n 0 ≤ distance n 63) last near in omega arith

-- a process that may run has a turn: the machine isn't idle
not_idle : (w : World) (p : ℕ) → w.turns.halted ≡ None → w.turns.current ≡ None → IsRunnable w p → TakesNearest w Run Idle → ⊥
not_idle w p halted current may takes = let is = (takes refl halted current).0 in is.0 refl p may

-- ---- who wakes

module _ (w t : World) (o : Outcome) (due : WakesWhereDue w o t) (p : ℕ) (v : View) (asleep : Sleeps w.turns p) (sees : view t.state p ≡ Some v) where
  -- who could go on; who counts ticks, at each tick
  ready_wakes : ready v ≡ true → ¬ Sleeps t.turns p
  ready_wakes is = (due p v asleep sees).1 (inl is)

  counter_wakes : v.call ≡ Some (call 13 5 0 0) → o ≡ Ticked → ¬ Sleeps t.turns p
  counter_wakes is tick = (due p v asleep sees).1 (inr (inl ((call 13 5 0 0, is, refl), tick)))

  -- process 1 in wait, where any process ends
  first_wakes : p ≡ 1 → v.call ≡ Some (call 3 0 0 0) → o ≡ Step_of 7 (Faulted LoadPageFault) → ¬ Sleeps t.turns p
  first_wakes one is ends = (due p v asleep sees).1 (inr (inr (one, (call 3 0 0 0, is, refl), (7, Faulted LoadPageFault, ends, refl))))

  -- nobody else: another process in wait, whose child still runs, sleeps on, whatever happens
  other_sleeps : p ≡ 2 → ready v ≡ false → v.call ≡ Some (call 3 0 0 0) → (¬ Sleeps t.turns p) → ⊥
  other_sleeps two unready is woken = elim ((due p v asleep sees).0 woken) [
    | inl could ↦ let bad : false ≡ true = sym unready ∙ could in let contradiction : ⊥ = cc in contradiction
    | inr rest ↦ elim rest [
      | inl counts ↦ let (c, call_is, number) = counts.0 in
          let same : pos 3 ≡ pos 13 = ap (λ (c : Call). c.number) (same_Some (call 3 0 0 0) c (sym is ∙ call_is)) ∙ number in
          let contradiction : ⊥ = cc in contradiction
      | inr first ↦ let numbers : ◌≡◌ {A = ℕ} 2 1 = sym two ∙ first.0 in let contradiction : ⊥ = cc in contradiction
    ]
  ]

-- ---- what a run shows: echoes and bytes that were sent, byte 0 too

shows : out ((Key 97, Typed (97 ∷ [])) ∷ (Send, Sent (Some 0)) ∷ (Run, Turn 2) ∷ (Send, Sent (Some 32)) ∷ (Send, Sent None) ∷
    (Key 21, Typed (8 ∷ 32 ∷ 8 ∷ [])) ∷ (Tick, Ticked) ∷ (Run, Step_of 2 (Exited (pos 7))) ∷ (Run, Idle) ∷ (Run, Halted) ∷ [])
    ≡ 97 ∷ 0 ∷ 32 ∷ 8 ∷ 32 ∷ 8 ∷ []
shows = refl

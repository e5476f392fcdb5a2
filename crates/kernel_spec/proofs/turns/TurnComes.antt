-- The turn of a process that may run comes.
use Rattle.kernel_spec.proofs.Prelude.{[], ℕ, ℤ, ◌+◌, ◌-◌, ◌<◌, ◌∙◌, ◌∷◌, ◌≡◌, ◌≢◌, ◌≤◌, Answer, ap, arith, Blocked, Bool, Called, cond, distance, Event, Exited, false, Faulted, get, Halted, Happens}
use Rattle.kernel_spec.proofs.Prelude.{HasSlot, HasSlots, Idle, inl, inr, is_turn, IsButWoken, IsPromised, IsRunnable, Key, KeyHappens, List, None, NPROC, Option, Outcome, own, refl, Run, RunHappens}
use Rattle.kernel_spec.proofs.Prelude.{same_Some, Send, Sent, Some, stays_current, Step_of, StepOf, Stepped, subst, sym, TakesNearest, Tick, Ticked, TickHappens, Turn, TurnComes, Turns, turns_taken}
use Rattle.kernel_spec.proofs.Prelude.{TurnTaken, Typed, WaitsAtMost, World}
use Rattle.kernel_spec.proofs.waking.NoLost.{stays_runnable, ready_may_run}
use Rattle.kernel_spec.proofs.turns.Nearer.{comes_nearer, is_near}
use Rattle.kernel_spec.proofs.well.FirstWell.{first_slots}
use Rattle.kernel_spec.proofs.turns.KeepsSlots.{slots_stay, kept_slot, process_seen}
use Rattle.kernel_spec.proofs.Common.{the_value}

-- p waits for its turn still, in its slot, which is no further away, and nearer where another has had a turn
record Still (w t : World) (o : Outcome) (p i : ℕ) : Type 0 where
  slot : HasSlot t.turns p i
  current : t.turns.current ≢ Some p
  nearer : cond (is_turn o) 1 0 + distance t.turns.last i ≤ distance w.turns.last i

-- no turn: the last slot stays
no_nearer : (last now i : ℕ) → now ≡ last → 0 + distance now i ≤ distance last i
no_nearer last now i e = subst (λ (k : ℕ). 0 + distance k i ≤ distance last i) (sym e) (let d : ℕ = distance last i in let goal : 0 + d ≤ d = omega arith in goal)

by_number : (n : ℕ) (a : Answer) (p : ℕ) → n ≢ p → stays_current n a ≡ Some p → ⊥
by_number n Stepped p apart e = apart (same_Some n p e)
by_number n (Called number value) p apart e = apart (same_Some n p e)
by_number n (Blocked number) p apart e = cc
by_number n (Exited status) p apart e = cc
by_number n (Faulted cause) p apart e = cc

module _ (w t : World) (o : Outcome) (p i : ℕ) (slots : HasSlots w.state w.turns) (can : IsRunnable w p) (idle : w.turns.current ≢ Some p) (mine : HasSlot w.turns p i) (other : o ≢ Turn p) where
  unchanged : is_turn o ≡ false → t ≡ w → Still w t o p i
  unchanged none e = record {
    slot = ap (λ (u : World). get u.turns.slots p) e ∙ mine;
    current = λ is. idle (sym (ap (λ (u : World). u.turns.current) e) ∙ is);
    nearer = subst (λ (b : Bool). cond b 1 0 + distance t.turns.last i ≤ distance w.turns.last i) (sym none) (no_nearer w.turns.last t.turns.last i (ap (λ (u : World). u.turns.last) e));
  }

  woken : is_turn o ≡ false → (current : Option ℕ) → current ≢ Some p → IsButWoken (record w.turns { current = current }) t.turns → Still w t o p i
  woken none current apart h = record {
    slot = ap (λ (u : Turns). get u.slots p) h.0 ∙ mine;
    current = λ is. apart (sym (ap (λ (u : Turns). u.current) h.0) ∙ is);
    nearer = subst (λ (b : Bool). cond b 1 0 + distance t.turns.last i ≤ distance w.turns.last i) (sym none) (no_nearer w.turns.last t.turns.last i (ap (λ (u : Turns). u.last) h.0));
  }

  by_step : (n : ℕ) → w.turns.current ≡ Some n → Happens w Run o t → StepOf w n o t → Still w t o p i
  by_step n runs whole h =
      let after = stays_runnable w t Run o p whole can idle in record {
        slot = kept_slot w t n o slots runs h p (process_seen t.state p (get t.state.processes p) after.0) (process_seen w.state p (get w.state.processes p) can.0) ∙ mine;
        current = λ is. by_number n (own h.before).answer p (λ e. idle (runs ∙ ap Some e)) (sym h.turns.current ∙ is);
        nearer = subst (λ (x : Outcome). cond (is_turn x) 1 0 + distance t.turns.last i ≤ distance w.turns.last i) (sym h.answer) (no_nearer w.turns.last t.turns.last i h.turns.last);
      }

by_turn : (w t : World) (o : Outcome) (p i : ℕ) (slots : HasSlots w.state w.turns) (can : IsRunnable w p) (idle : w.turns.current ≢ Some p) (mine : HasSlot w.turns p i) (other : o ≢ Turn p)
    → w.turns.halted ≡ None → w.turns.current ≡ None → Happens w Run o t → TurnTaken w o t → TakesNearest w Run o → Still w t o p i
by_turn w t (Turn q) p i slots can idle mine other halted current whole h takes =
    let apart : q ≢ p = λ e. other (ap Turn e) in
    let less : distance t.turns.last i < distance w.turns.last i = comes_nearer w t p q i whole takes halted current slots can apart mine in
    let a : ℕ = distance t.turns.last i in let b : ℕ = distance w.turns.last i in let below : a < b = less in record {
      slot = ap (λ (u : World). get u.turns.slots p) h.3 ∙ mine;
      current = λ is. apart (same_Some q p (sym (ap (λ (u : World). u.turns.current) h.3) ∙ is));
      nearer = let goal : 1 + a ≤ b = omega arith in goal;
    }
by_turn w t Idle p i slots can idle mine other halted current whole h takes = unchanged w t Idle p i slots can idle mine other refl h
by_turn w t (Step_of q a) p i slots can idle mine other halted current whole h takes = absurd h
by_turn w t Ticked p i slots can idle mine other halted current whole h takes = absurd h
by_turn w t (Typed echo) p i slots can idle mine other halted current whole h takes = absurd h
by_turn w t (Sent b) p i slots can idle mine other halted current whole h takes = absurd h
by_turn w t Halted p i slots can idle mine other halted current whole h takes = absurd h

module _ (w t : World) (o : Outcome) (p i : ℕ) (slots : HasSlots w.state w.turns) (can : IsRunnable w p) (idle : w.turns.current ≢ Some p) (mine : HasSlot w.turns p i) (other : o ≢ Turn p) where
  by_run : (halted : Option ℤ) (current : Option ℕ) → w.turns.halted ≡ halted → w.turns.current ≡ current → Happens w Run o t → RunHappens w halted current o t → TakesNearest w Run o → Still w t o p i
  by_run (Some status) current e f whole h takes = unchanged w t o p i slots can idle mine other (ap is_turn h.0) h.1
  by_run None (Some n) e f whole h takes = by_step w t o p i slots can idle mine other n f whole h
  by_run None None e f whole h takes = by_turn w t o p i slots can idle mine other e f whole h takes

  by_tick : (halted : Option ℤ) → TickHappens w halted o t → Still w t o p i
  by_tick (Some status) h = unchanged w t o p i slots can idle mine other (ap is_turn h.0) h.1
  by_tick None h = woken w t o p i slots can idle mine other (ap is_turn h.0) None (λ e. let no : ⊥ = cc in no) h.2

  by_key : (halted : Option ℤ) (b : ℕ) → KeyHappens w halted b o t → Still w t o p i
  by_key (Some status) b h = unchanged w t o p i slots can idle mine other (ap is_turn h.0) h.1
  by_key None b h = woken w t o p i slots can idle mine other (ap is_turn h.0) w.turns.current idle h.2

  by_event : (e : Event) → Happens w e o t → TakesNearest w e o → Still w t o p i
  by_event Run h takes = by_run w.turns.halted w.turns.current refl refl h h takes
  by_event Tick h takes = by_tick w.turns.halted h
  by_event (Key b) h takes = by_key w.turns.halted b h
  by_event Send h takes = woken w t o p i slots can idle mine other (ap is_turn h.0) w.turns.current idle h.2

pub waits_at_most : WaitsAtMost
waits_at_most w t [] p i run slots can idle mine none = let d : ℕ = distance w.turns.last i in let goal : 0 ≤ d = omega arith in goal
waits_at_most w t (e ∷ es) p i run slots can idle mine none =
    let mid : World = run.0 in
    let keeps = run.1 in
    let still = by_event w mid e.1 p i slots can idle mine none.0 e.0 keeps.0 keeps.2 in
    let more : turns_taken es ≤ distance mid.turns.last i =
    waits_at_most mid t es p i run.2 (slots_stay w mid e.0 e.1 keeps.0 keeps.2 slots)
    (stays_runnable w mid e.0 e.1 p keeps.0 can idle) still.current still.slot none.1 in
    let one : ℕ = cond (is_turn e.1) 1 0 in let n : ℕ = turns_taken es in let a : ℕ = distance mid.turns.last i in let b : ℕ = distance w.turns.last i in
    let x : n ≤ a = more in let y : one + a ≤ b = still.nearer in
    let goal : one + n ≤ b = omega arith in goal

-- ---- from boot

slots_along : (w t : World) (es : List (Event × Outcome)) → HasSlots w.state w.turns → IsPromised w es t → HasSlots t.state t.turns
slots_along w t [] slots run = subst (λ (u : World). HasSlots u.state u.turns) (sym run) slots
slots_along w t (e ∷ es) slots run = slots_along run.0 t es (slots_stay w run.0 e.0 e.1 run.1.0 run.1.2 slots) run.2

pub turn_comes : TurnComes
turn_comes frames trace programs w m t es fs p boot run more ready_or idle none =
    let can : IsRunnable m p = elim ready_or [ inl could ↦ ready_may_run frames trace programs w m es p boot run could | inr may ↦ may ] in
    let slots : HasSlots m.state m.turns = slots_along w m es (first_slots frames trace programs w boot) run in
    let mine = the_value (get m.turns.slots p) (slots.some p (process_seen m.state p (get m.state.processes p) can.0)) in
    let n : ℕ = turns_taken fs in let d : ℕ = distance m.turns.last mine.0 in
    let far : n ≤ d = waits_at_most m t fs p mine.0 more slots can idle mine.1 none in
    let near : d ≤ NPROC - 1 = is_near m.turns.last mine.0 in
    let goal : n ≤ NPROC - 1 = omega arith in goal

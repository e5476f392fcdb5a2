-- Each process keeps a slot of its own.
use Rattle.kernel_spec.proofs.Prelude.{ℕ, ℤ, ◌<◌, ◌∙◌, ◌≡◌, ◌≢◌, ◌⊎◌, Answer, ap, Blocked, Bool, Called, Contains, contains_key-keys, eqb-true, Event, Exited, false, Faulted, FinMap, fun_ext, get}
use Rattle.kernel_spec.proofs.Prelude.{gone_with, Halted, Happens, HasSlot, HasSlots, Idle, inl, inr, is_some, IsButWoken, IsLowestFree, IsNearest, IsNewbornOf, IsRunnable, IsSome, Key, KeyHappens}
use Rattle.kernel_spec.proofs.Prelude.{keys, List, list_any, Live, live, live_part, MatchOption, nat_cmp, None, NPROC, Option, option_map, Outcome, Own, own, Process, refl, Run, RunHappens, same_Some}
use Rattle.kernel_spec.proofs.Prelude.{Send, Sent, Sleeps, SlotsStay, Some, State, stays_current, Step_of, StepOf, Stepped, subst, sym, TakesNearest, Tick, Ticked, TickHappens, true, Turn, Turns}
use Rattle.kernel_spec.proofs.Prelude.{TurnTaken, Typed, unsigned_tied, View, view, view_of, World}
use Rattle.std.proofs.lemmas.Map.Views.{Contains-from_any, list_any-from_Contains}
use Rattle.std.proofs.lemmas.Cmp.{nat_eq_equiv}
use Rattle.kernel_spec.proofs.steps.OthersKeepTheRest.{pid_is}
use Rattle.kernel_spec.proofs.rows.Pids.{has, own_sound}
use Rattle.kernel_spec.proofs.Common.{view_pids}

-- ---- pids as a list

-- q is listed where it is in the map
pub listed : {X : Type 0} (m : FinMap nat_cmp X) (q : ℕ) → has q (keys m) ≡ is_some (get m q)
listed m q = sym (contains_key-keys m q ∙ ap (λ (f : ℕ → Bool). list_any f (keys m)) (fun_ext (λ k. unsigned_tied q k)))

pub is_listed : {X : Type 0} (m : FinMap nat_cmp X) (q : ℕ) → IsSome (get m q) → Contains (keys m) q
is_listed m q there = Contains-from_any (λ x y e. eqb-true x y e) q (keys m) (listed m q ∙ there)

pub not_listed : {X : Type 0} (m : FinMap nat_cmp X) (q : ℕ) → get m q ≡ None → ¬ Contains (keys m) q
not_listed m q none among = let no : true ≡ false = sym (list_any-from_Contains nat_eq_equiv q (keys m) among) ∙ listed m q ∙ ap is_some none in let bad : ⊥ = cc in bad

-- ---- views

pub live_seen : (s : State) (p : ℕ) (o : Option Live) → IsSome (option_map (view_of s p) o) → IsSome o
live_seen s p None h = let no : ⊥ = cc in absurd no
live_seen s p (Some l) h = refl

pub process_seen : (s : State) (p : ℕ) (o : Option Process) → IsSome (option_map (view_of s p) (live_part o)) → IsSome o
process_seen s p None h = let no : ⊥ = cc in absurd no
process_seen s p (Some x) h = refl

-- ---- a step

module _ (w t : World) (p : ℕ) (o : Outcome) (slots : HasSlots w.state w.turns) (runs : w.turns.current ≡ Some p) (h : StepOf w p o t) where
  abbrev x : Own
  x = own h.before

  -- who is there after the step was there before, or is new
  pub was_or_new : (q : ℕ) → IsSome (get t.state.processes q) → IsSome (get w.state.processes q) ⊎ IsNewbornOf x q
  was_or_new q there = elim ((own_sound h.before).pids q (sym (ap (has q) h.state.left.pids) ∙ listed t.state.processes q ∙ there)) [
    | inl old ↦ inl (sym (listed w.state.processes q) ∙ sym (ap (has q) (view_pids w.state p (live w.state p) h.before h.was)) ∙ old)
    | inr new ↦ inr new
  ]

  -- who was there and is there keeps its slot
  pub kept_slot : (q : ℕ) → IsSome (get t.state.processes q) → IsSome (get w.state.processes q) → get t.turns.slots q ≡ get w.turns.slots q
  kept_slot q there old = h.turns.held q (subst (λ (pids : List ℕ). Contains pids q) h.state.left.pids (is_listed t.state.processes q there)) (slots.some q old)

  pub new_slot : (q : ℕ) (c : Option View) → MatchOption c ⊥ (λ c. q ≡ c.pid)
      → MatchOption c (Unit {0}) (λ c. ((slot : ℕ) × HasSlot t.turns c.pid slot × IsLowestFree w.turns slot) × ¬ Sleeps t.turns c.pid)
      → (slot : ℕ) × HasSlot t.turns q slot × IsLowestFree w.turns slot
  new_slot q None is born = absurd is
  new_slot q (Some c) is born = (born.0.0, ap (get t.turns.slots) is ∙ born.0.1, born.0.2)

  one_newborn : (q r : ℕ) (c : Option View) → MatchOption c ⊥ (λ c. q ≡ c.pid) → MatchOption c ⊥ (λ c. r ≡ c.pid) → q ≡ r
  one_newborn q r None a b = absurd a
  one_newborn q r (Some c) a b = a ∙ sym b

  -- a slot after the step was its holder's before, or was the lowest free one, and is the newborn's
  abbrev Origin : ℕ → ℕ → Type 0
  Origin q slot = HasSlot w.turns q slot ⊎ (IsNewbornOf x q × IsLowestFree w.turns slot)

  there_after : (q slot : ℕ) → HasSlot t.turns q slot → (o : Option Process) → get t.state.processes q ≡ o → IsSome (get t.state.processes q)
  there_after q slot holds (Some y) is = ap is_some is
  there_after q slot holds None is =
      let none : get t.turns.slots q ≡ None = h.turns.given_up q (λ among. not_listed t.state.processes q is (subst (λ (pids : List ℕ). Contains pids q) (sym h.state.left.pids) among)) in
      let no : None ≡ Some slot = sym none ∙ holds in let bad : ⊥ = cc in absurd bad

  origin : (q slot : ℕ) → HasSlot t.turns q slot → Origin q slot
  origin q slot holds =
      let there = there_after q slot holds (get t.state.processes q) refl in
      elim (was_or_new q there) [
        | inl old ↦ inl (sym (kept_slot q there old) ∙ holds)
        | inr new ↦
            let n = new_slot q x.child new h.turns.newborn in
            inr (new, subst (λ (k : ℕ). IsLowestFree w.turns k) (same_Some n.0 slot (sym n.1 ∙ holds)) n.2)
      ]

  some_after : (q : ℕ) → IsSome (get t.state.processes q) → IsSome (get t.turns.slots q)
  some_after q there = elim (was_or_new q there) [
    | inl old ↦ ap is_some (kept_slot q there old) ∙ slots.some q old
    | inr new ↦ ap is_some ((new_slot q x.child new h.turns.newborn).1)
  ]

  below_after : (q slot : ℕ) → HasSlot t.turns q slot → slot < NPROC
  below_after q slot holds = elim (origin q slot holds) [ inl old ↦ slots.below q slot old | inr new ↦ new.1.0 ]

  apart_after : (q r slot : ℕ) → HasSlot t.turns q slot → HasSlot t.turns r slot → q ≡ r
  apart_after q r slot a b = elim (origin q slot a) [
    | inl old ↦ elim (origin r slot b) [ inl other ↦ slots.apart q r slot old other | inr new ↦ absurd (new.1.1 q old) ]
    | inr new ↦ elim (origin r slot b) [ inl other ↦ absurd (new.1.1 r other) | inr also ↦ one_newborn q r x.child new.0 also.0 ]
  ]

  -- p runs on where its step doesn't end in sleep, and it isn't gone
  runs_on : (q : ℕ) (a : Answer) → x.answer ≡ a → gone_with a ≡ None → ((number : ℤ) → a ≢ Blocked number) → Some p ≡ Some q → IsSome (live t.state q) × ¬ Sleeps t.turns q
  runs_on q a is stays awake same =
      let e : p ≡ q = same_Some p q same in
      let seen : IsSome (view t.state p) = ap (λ (k : ℕ). is_some (view t.state k)) (sym (pid_is w.state p (live w.state p) h.before h.was))
      ∙ ap is_some h.state.next ∙ (own_sound h.before).left (ap gone_with is ∙ stays) in (
        subst (λ (k : ℕ). IsSome (live t.state k)) e (live_seen t.state p (live t.state p) seen),
        subst (λ (k : ℕ). ¬ Sleeps t.turns k) e (λ asleep. elim (h.turns.awake p asleep) [
          | inl before ↦ (slots.current p runs).1 before
          | inr fell ↦ awake fell.1.0 (sym is ∙ fell.1.1)
        ]),
      )

  current_after : (q : ℕ) (a : Answer) → x.answer ≡ a → stays_current p a ≡ Some q → IsSome (live t.state q) × ¬ Sleeps t.turns q
  current_after q Stepped is e = runs_on q Stepped is refl (λ k f. let no : ⊥ = cc in no) e
  current_after q (Called number value) is e = runs_on q (Called number value) is refl (λ k f. let no : ⊥ = cc in no) e
  current_after q (Blocked number) is e = let no : ⊥ = cc in absurd no
  current_after q (Exited status) is e = let no : ⊥ = cc in absurd no
  current_after q (Faulted cause) is e = let no : ⊥ = cc in absurd no

  pub slots_after : HasSlots t.state t.turns
  slots_after = record {
    some = some_after;
    only = λ q slot holds. there_after q slot holds (get t.state.processes q) refl;
    below = below_after;
    last = subst (λ (k : ℕ). k < NPROC) (sym h.turns.last) slots.last;
    current = λ q is. current_after q x.answer refl (sym h.turns.current ∙ is);
    apart = apart_after;
  }

-- ---- the other events

-- the same processes and slots, and no new sleeper; nobody runs, or who ran
same_slots : (s u : State) (before after : Turns) → u.processes ≡ s.processes → (current : Option ℕ)
    → ((q : ℕ) → current ≡ Some q → before.current ≡ Some q) → IsButWoken (record before { current = current }) after → HasSlots s before → HasSlots u after
same_slots s u before after same current runs woken slots =
    let slot : after.slots ≡ before.slots = ap (λ (t : Turns). t.slots) woken.0 in record {
      some = λ q there. ap (λ (m : FinMap nat_cmp ℕ). is_some (get m q)) slot ∙ slots.some q (sym (ap (λ (m : FinMap nat_cmp Process). is_some (get m q)) same) ∙ there);
      only = λ q k holds. ap (λ (m : FinMap nat_cmp Process). is_some (get m q)) same ∙ slots.only q k (sym (ap (λ (m : FinMap nat_cmp ℕ). get m q) slot) ∙ holds);
      below = λ q k holds. slots.below q k (sym (ap (λ (m : FinMap nat_cmp ℕ). get m q) slot) ∙ holds);
      last = subst (λ (k : ℕ). k < NPROC) (sym (ap (λ (t : Turns). t.last) woken.0)) slots.last;
      current = λ q is.
          let c = slots.current q (runs q (sym (ap (λ (t : Turns). t.current) woken.0) ∙ is)) in
          (ap (λ (m : FinMap nat_cmp Process). is_some (live_part (get m q))) same ∙ c.0, λ asleep. c.1 (woken.1 q asleep));
      apart = λ q r k a b. slots.apart q r k (sym (ap (λ (m : FinMap nat_cmp ℕ). get m q) slot) ∙ a) (sym (ap (λ (m : FinMap nat_cmp ℕ). get m r) slot) ∙ b);
    }

unchanged : (w t : World) → t ≡ w → HasSlots w.state w.turns → HasSlots t.state t.turns
unchanged w t e slots = subst (λ (u : World). HasSlots u.state u.turns) (sym e) slots

module _ (w t : World) (slots : HasSlots w.state w.turns) where
  by_turn : (o : Outcome) → TurnTaken w o t → ((q : ℕ) → o ≡ Turn q → IsRunnable w q × IsNearest w q) → HasSlots t.state t.turns
  by_turn (Turn q) h nearest = unchanged (record w { turns = record w.turns { current = Some q; last = h.0 } }) t h.3 (record {
    some = slots.some;
    only = slots.only;
    below = slots.below;
    last = slots.below q h.0 h.1;
    current = λ r is.
        let e : q ≡ r = same_Some q r is in
        let can = (nearest q refl).0 in
        (subst (λ (k : ℕ). IsSome (live w.state k)) e (live_seen w.state q (live w.state q) can.0), subst (λ (k : ℕ). ¬ Sleeps w.turns k) e can.1);
    apart = slots.apart;
  })
  by_turn Idle h nearest = unchanged w t h slots
  by_turn (Step_of q a) h nearest = absurd h
  by_turn Ticked h nearest = absurd h
  by_turn (Typed echo) h nearest = absurd h
  by_turn (Sent b) h nearest = absurd h
  by_turn Halted h nearest = absurd h

  by_run : (o : Outcome) (halted : Option ℤ) (current : Option ℕ) → w.turns.halted ≡ halted → w.turns.current ≡ current
      → RunHappens w halted current o t → TakesNearest w Run o → HasSlots t.state t.turns
  by_run o (Some status) current e f h takes = unchanged w t h.1 slots
  by_run o None (Some p) e f h takes = slots_after w t p o slots f h
  by_run o None None e f h takes = by_turn o h ((takes refl e f).1)

  by_tick : (o : Outcome) (halted : Option ℤ) → TickHappens w halted o t → HasSlots t.state t.turns
  by_tick o (Some status) h = unchanged w t h.1 slots
  by_tick o None h = same_slots w.state t.state w.turns t.turns (ap (λ (s : State). s.processes) h.1) None (λ q e. let no : ⊥ = cc in absurd no) h.2 slots

  by_key : (o : Outcome) (halted : Option ℤ) (b : ℕ) → KeyHappens w halted b o t → HasSlots t.state t.turns
  by_key o (Some status) b h = unchanged w t h.1 slots
  by_key o None b h = same_slots w.state t.state w.turns t.turns (ap (λ (s : State). s.processes) h.1) w.turns.current (λ q e. e) h.2 slots

  by_event : (e : Event) (o : Outcome) → Happens w e o t → TakesNearest w e o → HasSlots t.state t.turns
  by_event Run o h takes = by_run o w.turns.halted w.turns.current refl refl h takes
  by_event Tick o h takes = by_tick o w.turns.halted h
  by_event (Key b) o h takes = by_key o w.turns.halted b h
  by_event Send o h takes = same_slots w.state t.state w.turns t.turns (ap (λ (s : State). s.processes) h.1) w.turns.current (λ q e. e) h.2 slots

pub slots_stay : SlotsStay
slots_stay w t e o h takes slots = by_event w t slots e o h takes

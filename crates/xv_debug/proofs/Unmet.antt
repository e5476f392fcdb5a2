-- A done instruction that leads to none of the places is no aim, and meets no mark.
use Rattle.std.proofs.Common.{◌≡◌, ◌∷◌, ◌&&◌, ◌||◌, ℕ, ℤ, Bool, true, false, not, nat_eq, nat_le, List, [], Option, None, Some, flat_map, refl, sym, ap, ◌∙◌, subst}
use Rattle.std.specs.List.{list_any}
use Rattle.std.specs.Option.{option_to_list}
use Rattle.std.proofs.lemmas.Bool.{or_parts, or_from, and_left, and_right, ne_eqb, eqb-false}
use Rattle.std.proofs.lemmas.List.Folds.{list_any-append}
use Rattle.rv64i_core.specs.Registers.{Registers, reg}
use Rattle.kernel_spec.specs.runs.Run as runs
use Rattle.kernel_spec.proofs.Common.{or_false}
use Rattle.kernel_spec.specs.runs.Run.{Outcome, Step_of, World}
use Rattle.kernel_spec.specs.steps.Own as answers
use Rattle.kernel_spec.specs.views.State.{State}
use Rattle.kernel_spec.specs.views.Words.{is_this}
use Rattle.kernel_spec.proofs.Common.{this_is}
use Rattle.kcall_core.specs.Observers.{process_at, registers_of}
use Rattle.xv_machine.specs.Meaning.{Meaning}
use Rattle.xv_session.specs.Looking.{next_step_of}
use Rattle.xv_session.specs.Names.{place_in}
use Rattle.xv_session.specs.Stops.{is_before_stop, pc_is_one, stops_for, stores_by}
use Rattle.xv_session.specs.Until.{faults, ends, is_before, is_done, is_on_call, is_outside_calls, is_storing, pc_is, storing_by, storing_in}
use Rattle.xv_session.specs.declared.looking.NextStep.{NextStep}
use Rattle.xv_session.specs.declared.running.Running.{Running}
use Rattle.xv_session.specs.declared.until.Condition.TheVariants as waits_for
use Rattle.debug_words.specs.declared.vocabulary.Mark.{Mark}
use Rattle.debug_words.specs.declared.vocabulary.Mark.TheVariants.{At, Store}
use Rattle.xv_debug.specs.motion.Aims as aims
use Rattle.xv_debug.specs.motion.Marks as marked
use Rattle.xv_debug.specs.motion.Places.{IsFar, all_of, of_aim, of_mark}
use Rattle.xv_debug.specs.motion.Reaching.{is_turn_of, meets_one}
use Rattle.xv_debug.specs.declared.motion.aiming.Aim.{Aim}
use Rattle.xv_debug.specs.declared.motion.aiming.Aim.TheVariants.{Anything, Nothing, On, Answer, Return, Outside}
use Rattle.xv_debug.specs.declared.motion.places.Kind.TheVariants.{Instructions, Bytes}

-- ---- none of the addresses is stood at, and none of the bytes stored to

-- a process that runs stands at an address
abbrev at_in : State → Option ℕ → ℕ → Bool
at_in s None a = false
at_in s (Some p) a = pc_is_one (a ∷ []) (registers_of s p)

never-one : {A : Type 0} (xs : List A) → list_any (λ x. false) xs ≡ false
never-one [] = refl
never-one (x ∷ xs) = never-one xs

each-one : (f g : ℕ → Bool) (xs : List ℕ) → ((x : ℕ) → f x ≡ g x) → list_any f xs ≡ false → list_any g xs ≡ false
each-one f g [] same none = refl
each-one f g (x ∷ xs) same none =
    let parts = or_parts (f x) (list_any f xs) none in
    or_from (g x) (list_any g xs) (sym (same x) ∙ parts.0) (each-one f g xs same parts.1)

not-at : (pcs bs : List ℕ) (s : State) (current : Option ℕ) → stops_for pcs bs s current ≡ false → list_any (at_in s current) pcs ≡ false
not-at pcs bs s None none = never-one pcs
not-at pcs bs s (Some p) none = by (registers_of s p) (or_parts (pc_is_one pcs (registers_of s p)) _ none).0
  where
    by : (r : Option Registers) → pc_is_one pcs r ≡ false → list_any (λ a. pc_is_one (a ∷ []) r) pcs ≡ false
    by None e = never-one pcs
    by (Some regs) e = each-one (λ a. nat_eq a regs.pc) (λ a. nat_eq a regs.pc || false) pcs (λ a. or_false (nat_eq a regs.pc)) e

not-stored : (pcs bs : List ℕ) (s : State) (current : Option ℕ) → stops_for pcs bs s current ≡ false → list_any (λ a. storing_in a s current) bs ≡ false
not-stored pcs bs s None none = never-one bs
not-stored pcs bs s (Some p) none = by (next_step_of s p) (or_parts (pc_is_one pcs (registers_of s p)) (stores_by bs (next_step_of s p)) none).1
  where
    by : (o : Option NextStep) → stores_by bs o ≡ false → list_any (λ a. storing_by a o) bs ≡ false
    by None e = never-one bs
    by (Some step) e = e

-- ---- the marks

no-mark-at : (r : Running) (ms : List Mark) → list_any (at_in r.machine.world.state r.machine.world.turns.current) (flat_map (λ m. option_to_list (of_mark Instructions m)) ms) ≡ false
    → list_any (marked.is_at_mark r) ms ≡ false
no-mark-at r [] none = refl
no-mark-at r (At program address ∷ ms) none =
    let w = r.machine.world in
    let parts = or_parts (at_in w.state w.turns.current address) _ none in
    or_from (marked.is_at program address r) _ (by w.turns.current parts.0) (no-mark-at r ms parts.1)
  where
    at_pc : (o : Option Registers) → pc_is_one (address ∷ []) o ≡ false → pc_is address o ≡ false
    at_pc None e = refl
    at_pc (Some regs) e = ne_eqb regs.pc address (λ same. eqb-false address regs.pc (or_parts (nat_eq address regs.pc) false e).0 (sym same))

    by : (current : Option ℕ) → at_in r.machine.world.state current address ≡ false → marked.stands_in program address r current ≡ false
    by None e = refl
    by (Some p) e =
        let w = r.machine.world in
        and_right (is_this program (place_in p r.names)) (is_before address w p)
        (and_left (pc_is address (registers_of w.state p)) (is_outside_calls (process_at w p)) (at_pc (registers_of w.state p) e))
no-mark-at r (Store address ∷ ms) none = no-mark-at r ms none

no-mark-due : (w : World) (ms : List Mark) → list_any (λ a. is_storing a w) (flat_map (λ m. option_to_list (of_mark Bytes m)) ms) ≡ false → marked.is_any_due ms w ≡ false
no-mark-due w [] none = refl
no-mark-due w (At program address ∷ ms) none = no-mark-due w ms none
no-mark-due w (Store address ∷ ms) none =
    let parts = or_parts (is_storing address w) _ none in
    or_from (is_storing address w) _ parts.0 (no-mark-due w ms parts.1)

-- ---- the aim

not-on-call : (n : ℤ) (o : Outcome) → is_done o ≡ true → is_on_call n o ≡ false
not-on-call n (Step_of p answers.Stepped) done = refl
not-on-call n (Step_of p (answers.Called number value)) done = let bad : ⊥ = cc in absurd bad
not-on-call n (Step_of p (answers.Blocked number)) done = let bad : ⊥ = cc in absurd bad
not-on-call n (Step_of p (answers.Exited status)) done = refl
not-on-call n (Step_of p (answers.Faulted cause)) done = refl
not-on-call n (runs.Turn p) done = refl
not-on-call n runs.Idle done = refl
not-on-call n runs.Ticked done = refl
not-on-call n (runs.Typed echo) done = refl
not-on-call n (runs.Sent byte) done = refl
not-on-call n runs.Halted done = refl

-- a done instruction is no end
no-end : (o : Outcome) → is_done o ≡ true → (faults o ≡ false) × (ends o ≡ false)
no-end (Step_of p answers.Stepped) done = (refl, refl)
no-end (Step_of p (answers.Called number value)) done = (refl, refl)
no-end (Step_of p (answers.Blocked number)) done = (refl, refl)
no-end (Step_of p (answers.Exited status)) done = let bad : ⊥ = cc in absurd bad
no-end (Step_of p (answers.Faulted cause)) done = let bad : ⊥ = cc in absurd bad
no-end (runs.Turn p) done = (refl, refl)
no-end runs.Idle done = (refl, refl)
no-end runs.Ticked done = (refl, refl)
no-end (runs.Typed echo) done = (refl, refl)
no-end (runs.Sent byte) done = (refl, refl)
no-end runs.Halted done = (refl, refl)

no-end-of : (q : ℕ) (o : Outcome) → is_done o ≡ true → (aims.ends_of q o ≡ false) × (aims.is_answer_to q o ≡ false)
no-end-of q (Step_of p answers.Stepped) done = (refl, refl)
no-end-of q (Step_of p (answers.Called number value)) done = let bad : ⊥ = cc in absurd bad
no-end-of q (Step_of p (answers.Blocked number)) done = (refl, refl)
no-end-of q (Step_of p (answers.Exited status)) done = let bad : ⊥ = cc in absurd bad
no-end-of q (Step_of p (answers.Faulted cause)) done = let bad : ⊥ = cc in absurd bad
no-end-of q (runs.Turn p) done = (refl, refl)
no-end-of q runs.Idle done = (refl, refl)
no-end-of q runs.Ticked done = (refl, refl)
no-end-of q (runs.Typed echo) done = (refl, refl)
no-end-of q (runs.Sent byte) done = (refl, refl)
no-end-of q runs.Halted done = (refl, refl)

-- it stands elsewhere than at this address
elsewhere : (w : World) (p pc : ℕ) (b : Bool) → is_this p w.turns.current ≡ b → at_in w.state w.turns.current pc ≡ false → (b && is_before pc w p) ≡ false
elsewhere w p pc false is e = refl
elsewhere w p pc true is e =
    and_left (pc_is pc (registers_of w.state p)) (is_outside_calls (process_at w p))
    (by (registers_of w.state p) (subst (λ (c : Option ℕ). at_in w.state c pc ≡ false) (this_is p w.turns.current is) e))
  where
    by : (o : Option Registers) → pc_is_one (pc ∷ []) o ≡ false → pc_is pc o ≡ false
    by None e = refl
    by (Some regs) e = ne_eqb regs.pc pc (λ same. eqb-false pc regs.pc (or_parts (nat_eq pc regs.pc) false e).0 (sym same))

not-back : (s : State) (current : Option ℕ) (p pc stack : ℕ) (b : Bool) → is_this p current ≡ b → at_in s current pc ≡ false → aims.is_back pc stack (aims.regs_if b s p) ≡ false
not-back s current p pc stack false is e = refl
not-back s current p pc stack true is e =
    by (registers_of s p) (subst (λ (c : Option ℕ). at_in s c pc ≡ false) (this_is p current is) e)
  where
    by : (o : Option Registers) → pc_is_one (pc ∷ []) o ≡ false → aims.is_back pc stack o ≡ false
    by None e = refl
    by (Some regs) e = and_left (nat_eq regs.pc pc) (nat_le stack (reg regs 2)) (ne_eqb regs.pc pc (λ same. eqb-false pc regs.pc (or_parts (nat_eq pc regs.pc) false e).0 (sym same)))

no-aim : (aim : Aim) (o : Outcome) (m : Meaning) → IsFar aim → is_done o ≡ true → list_any (at_in m.world.state m.world.turns.current) (option_to_list (of_aim Instructions aim)) ≡ false
    → aims.meets_with aim false o m ≡ false
no-aim Anything o m far done none = absurd far
no-aim Nothing o m far done none = refl
no-aim (On (waits_for.StepOf p)) o m far done none = absurd far
no-aim (On (waits_for.Call n)) o m far done none = not-on-call n o done
no-aim (On (waits_for.At p pc)) o m far done none =
    let w = m.world in
    elsewhere w p pc (is_this p w.turns.current) refl (or_parts (at_in w.state w.turns.current pc) false none).0
no-aim (On waits_for.Fault) o m far done none = (no-end o done).0
no-aim (On waits_for.Exit) o m far done none = (no-end o done).1
no-aim (On (waits_for.StoreTo address)) o m far done none = refl
no-aim (Answer p) o m far done none = (no-end-of p o done).1
no-aim (Return p pc stack) o m far done none =
    let w = m.world in
    or_from (aims.has_returned p pc stack w) (aims.ends_of p o)
    (not-back w.state w.turns.current p pc stack (is_this p w.turns.current) refl (or_parts (at_in w.state w.turns.current pc) false none).0) (no-end-of p o done).0
no-aim (Outside p first last) o m far done none = absurd far

no-aim-due : (aim : Aim) (m : Meaning) → list_any (λ a. is_storing a m.world) (option_to_list (of_aim Bytes aim)) ≡ false → aims.is_due aim m ≡ false
no-aim-due Anything m none = refl
no-aim-due Nothing m none = refl
no-aim-due (On (waits_for.StepOf p)) m none = refl
no-aim-due (On (waits_for.Call n)) m none = refl
no-aim-due (On (waits_for.At p pc)) m none = refl
no-aim-due (On waits_for.Fault) m none = refl
no-aim-due (On waits_for.Exit) m none = refl
no-aim-due (On (waits_for.StoreTo address)) m none = (or_parts (is_storing address m.world) false none).0
no-aim-due (Answer p) m none = refl
no-aim-due (Return p pc stack) m none = refl
no-aim-due (Outside p first last) m none = refl

-- ---- both

-- no store that is waited for is due
pub record AreUndue (aim : Aim) (marks : List Mark) (m : Meaning) : Type 0 where
  pub by_aim : aims.is_due aim m ≡ false
  pub by_mark : marked.is_any_due marks m.world ≡ false

module _ (aim : Aim) (marks : List Mark) (pcs bs : List ℕ) (far : IsFar aim) (are_as : pcs ≡ all_of Instructions aim marks) (are_bs : bs ≡ all_of Bytes aim marks) where
  addresses-apart : (m : Meaning) → is_before_stop pcs bs m.world ≡ false
      → (list_any (at_in m.world.state m.world.turns.current) (option_to_list (of_aim Instructions aim)) ≡ false)
      × (list_any (at_in m.world.state m.world.turns.current) (flat_map (λ x. option_to_list (of_mark Instructions x)) marks) ≡ false)
  addresses-apart m none =
      let w = m.world in
      let own : List ℕ = option_to_list (of_aim Instructions aim) in
      let theirs : List ℕ = flat_map (λ x. option_to_list (of_mark Instructions x)) marks in
      or_parts (list_any (at_in w.state w.turns.current) own) (list_any (at_in w.state w.turns.current) theirs)
      (sym (list_any-append (at_in w.state w.turns.current) own theirs) ∙ sym (ap (list_any (at_in w.state w.turns.current)) are_as) ∙ not-at pcs bs w.state w.turns.current none)

  pub undue : (m : Meaning) → is_before_stop pcs bs m.world ≡ false → AreUndue aim marks m
  undue m none =
      let w = m.world in
      let own : List ℕ = option_to_list (of_aim Bytes aim) in
      let theirs : List ℕ = flat_map (λ x. option_to_list (of_mark Bytes x)) marks in
      let apart = or_parts (list_any (λ a. is_storing a w) own) (list_any (λ a. is_storing a w) theirs)
      (sym (list_any-append (λ a. is_storing a w) own theirs) ∙ sym (ap (list_any (λ a. is_storing a w)) are_bs) ∙ not-stored pcs bs w.state w.turns.current none) in
      record { by_aim = no-aim-due aim m apart.0; by_mark = no-mark-due w marks apart.1 }

  pub unmet : (ran : Option ℕ) (a b : Running) (o : Outcome) → AreUndue aim marks a.machine → is_done o ≡ true → is_before_stop pcs bs b.machine.world ≡ false → meets_one ran aim marks a o b ≡ false
  unmet ran a b o before done none =
      let apart = addresses-apart b.machine none in
      and_right (not (is_turn_of ran o)) (aims.meets aim a.machine o b.machine || marked.meets_marks marks a o b)
      (or_from (aims.meets aim a.machine o b.machine) (marked.meets_marks marks a o b)
      (ap (λ (due : Bool). aims.meets_with aim due o b.machine) before.by_aim ∙ no-aim aim o b.machine far done apart.0)
      (ap (λ (due : Bool). marked.meets_with marks due o b) before.by_mark ∙ no-mark-at b marks apart.1))

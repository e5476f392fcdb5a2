-- If a call of a process is refused by an event, the state before it shows why.
use Rattle.std.proofs.Common.{◌≡◌, ◌∙◌, ◌-◌, List, [], ◌∷◌, length, slice_get, arith, ℕ, ℤ, pos, Bool, true, false, Option, Some, None, refl, sym, ap, inl, inr, subst}
use Rattle.std.specs.Prelude.{IsSome, is_some, nat_eq, option_map}
use Rattle.std.specs.FinMap.{get}
use Rattle.std.specs.FinSet.{contains}
use Rattle.std.specs.Option.{option_and_then}
use Rattle.std.proofs.lemmas.Bool.{and_parts, eqb-true}
use Rattle.std.proofs.lemmas.Bool.Decides.{Decides-int_eq}
use Rattle.std.proofs.lemmas.Option.{slice_get_cases}
use Rattle.rv64i_core.specs.Registers.{Registers}
use Rattle.rv64i_core.specs.Step.{Step, Next, Ecall, Fault}
use Rattle.proc_table.specs.declared.process.Call.{Call}
use Rattle.kcall_core.specs.Observers.{told}
use Rattle.kcall_core.specs.declared.kernel.observers.ProcessState.TheVariants as state
use Rattle.kernel_spec.specs.rows.Calls as rows
use Rattle.kernel_spec.specs.rows.Calls.{Row, perform, row_of}
use Rattle.kernel_spec.specs.runs.Run.{World, Event, Run, Tick, Key, Send, Outcome, Step_of, Turn, Idle, Ticked, Typed, Sent, Halted, KeyHappens, RunHappens, StepOf, TickHappens, TurnTaken}
use Rattle.kernel_spec.specs.steps.Instruction.{next_instruction}
use Rattle.kernel_spec.specs.steps.Own.{Answer, Own, Stepped, Called, Blocked, Exited, Faulted, gone_with}
use Rattle.kernel_spec.specs.steps.Step.{after_instruction, begun, call_begun, call_in, call_or_begun, going_on, own, unless_killed}
use Rattle.kernel_spec.specs.views.Processes.{Alive, Live, Process, Zombie}
use Rattle.kernel_spec.specs.views.State.{live_part}
use Rattle.kernel_spec.specs.views.View.{View, view, view_of}
use Rattle.kernel_spec.specs.views.Words.{minus_one}
use Rattle.kernel_spec.proofs.rows.ByTouch.{by_instruction_apart}
use Rattle.kernel_spec.proofs.rows.Touched.{touched_view}
use Rattle.kernel_spec.proofs.rows.Outcomes.{Comes, StepComes, in_call, own_comes}
use Rattle.xv_machine.specs.Meaning.{Meaning}
use Rattle.xv_machine.specs.Reached.{IsEvent}
use Rattle.call_reasons.specs.Asked.{asked_by, asked_of, asked_with, call_asked, noted}
use Rattle.call_reasons.specs.Facts.{facts_of}
use Rattle.call_reasons.specs.Last.{IsReasonBy, is_refusal, is_refused, reason_asked}
use Rattle.call_reasons.specs.Laws.{Answers, RefusedStepsHaveReasons, ShowsReason, met, past_ecall}
use Rattle.call_reasons.specs.Reasons.{first, reason_by, reason_of, reason_told, tests}
use Rattle.call_reasons.specs.Shown.{reason_in}
use Rattle.call_reasons.specs.declared.asked.Asked.{Asked}
use Rattle.call_reasons.specs.declared.reason.Reason.{Reason}
use Rattle.call_reasons.proofs.Rows.{refusals_have_reasons, told_is_reason}

-- ---- a step that comes to a refusal does its call

module _ (v : View) where
  -- an instruction whose step comes to a refusal is an ECALL
  abbrev BeginsIt : Step → Own → Type 0
  BeginsIt st o = (n : ℤ) → o.answer ≡ Called n minus_one → o ≡ perform (call_begun v) (begun v)

  at_once : (st : Step) → BeginsIt st (after_instruction v st)
  at_once (Next r st) n is = let no : ⊥ = cc in absurd no
  at_once Ecall n is = refl
  at_once (Fault cause) n is = let no : ⊥ = cc in absurd no

  other_step : (u : View) (st : Step) → (st ≡ Ecall → ⊥) → BeginsIt st (after_instruction u st)
  other_step u (Next r st) other n is = let no : ⊥ = cc in absurd no
  other_step u Ecall other n is = absurd (other refl)
  other_step u (Fault cause) other n is = let no : ⊥ = cc in absurd no

  goes_on_so : (call : Option Call) (n : ℤ) → (going_on v call).answer ≡ Called n minus_one → going_on v call ≡ perform (call_or_begun v call) (past_ecall v call)
  goes_on_so (Some c) n is = refl
  goes_on_so None n is =
      by_instruction_apart BeginsIt v (at_once (next_instruction v.regs v.image)) (λ image free touched other. other_step (touched_view v image free) (next_instruction v.regs image) other) n is

  unless_so : (killed : Bool) (n : ℤ) → (unless_killed v killed).answer ≡ Called n minus_one → unless_killed v killed ≡ perform (call_in v) (met v)
  unless_so true n is = let no : ⊥ = cc in absurd no
  unless_so false n is = goes_on_so v.call n is

  does_call : (n : ℤ) → (own v).answer ≡ Called n minus_one → own v ≡ perform (call_in v) (met v)
  unfolding own
  does_call n is = unless_so v.killed n is

  -- and it has the number of that call
  own_number : (n : ℤ) (o : Own) → o.answer ≡ Called n minus_one → Comes (call_in v) (met v) o → n ≡ (call_in v).number
  own_number n o is (inl it) =
      let both : Called n minus_one ≡ Called (call_in v).number minus_one = sym is ∙ ap (λ (x : Own). x.answer) it in cc
  own_number n o is (inr (inl done)) = let both : Called n minus_one ≡ Called (call_in v).number (pos done.value) = sym is ∙ done.answer in let no : ⊥ = cc in absurd no
  own_number n o is (inr (inr (inl wait))) =
      let both : Called n minus_one ≡ Blocked (call_in v).number = sym is ∙ ap (λ (x : Own). x.answer) wait.is in let no : ⊥ = cc in absurd no
  own_number n o is (inr (inr (inr gone))) = let no : IsSome (gone_with (Called n minus_one)) = subst (λ (a : Answer). IsSome (gone_with a)) is gone.ends in let bad : ⊥ = cc in absurd bad

  same_view : (call : Option Call) → in_call v call ≡ past_ecall v call
  same_view None = refl
  same_view (Some c) = refl

  step_number : (n : ℤ) → (own v).answer ≡ Called n minus_one → n ≡ (call_in v).number
  step_number n is = by (own_comes v)
    where
      by : StepComes v v.call (own v) → n ≡ (call_in v).number
      by (inl done) = let both : Called n minus_one ≡ Stepped = sym is ∙ done.answer in let no : ⊥ = cc in absurd no
      by (inr comes) = own_number n (own v) is (subst (λ (u : View). Comes (call_in v) u (own v)) (same_view v.call) comes)

  refusing : (n : ℤ) → (own v).answer ≡ Called n minus_one → Answers (call_in v) (met v) minus_one
  refusing n is = ap (λ (x : Own). x.answer) (sym (does_call n is)) ∙ is ∙ ap (λ (k : ℤ). Called k minus_one) (step_number n is)

-- ---- what has been moved, and registers, tell no reason

module _ (c : Call) (v : View) (regs : Registers) (call : Option Call) where
  abbrev fresh : Call
  fresh = record c { moved = 0; clock = 0 }

  abbrev later : View
  later = record v { regs = regs; call = call }

  same_row : (r : Row) → first (tests r fresh (facts_of v) true) ≡ first (tests r c (facts_of later) true)
  unfolding tests
  same_row rows.Fork = refl
  same_row rows.Exit = refl
  same_row rows.Wait = refl
  same_row rows.Pipe_row = refl
  same_row rows.Read = refl
  same_row rows.Kill = refl
  same_row rows.Exec = refl
  same_row rows.Dup = refl
  same_row rows.Getpid = refl
  same_row rows.Sbrk = refl
  same_row rows.Sleep = refl
  same_row rows.Uptime = refl
  same_row rows.Open = refl
  same_row rows.Write = refl
  same_row rows.Close = refl
  same_row rows.Sbrklazy = refl

  same_reason : reason_told fresh (facts_of v) minus_one ≡ reason_told c (facts_of later) minus_one
  unfolding reason_told
  same_reason = by (row_of c.number)
    where
      by : (o : Option Row) → reason_by o fresh (facts_of v) (λ r. true) ≡ reason_by o c (facts_of later) (λ r. true)
      by None = refl
      by (Some r) = same_row r

-- ---- what a process asks for, by its view

abbrev asked_in : Option Call → Registers → Asked
asked_in None regs = asked_with regs
asked_in (Some c) regs = noted c

asked_state : (parent : Option ℕ) (marked : Bool) (call : Option Call) (asleep : Bool) (regs : Registers)
    → asked_by (Some (state.Live parent marked call asleep)) (Some (asked_with regs)) ≡ Some (asked_in call regs)
asked_state parent marked None asleep regs = refl
asked_state parent marked (Some c) asleep regs = refl

asked_at : (w : World) (p : ℕ) (o : Option Process) (v : View) → get w.state.processes p ≡ o → option_map (view_of w.state p) (live_part o) ≡ Some v
    → asked_of w p ≡ Some (asked_in v.call v.regs)
unfolding view_of
asked_at w p None v e is = let no : ⊥ = cc in absurd no
asked_at w p (Some (Zombie parent status)) v e is = let no : ⊥ = cc in absurd no
asked_at w p (Some (Alive l)) v e is =
    let same : view_of w.state p l ≡ v = cc in
    ap (λ (q : Option Process). asked_by (option_map (told (contains w.turns.sleepers p)) q) (option_map asked_with (option_map (λ (x : Live). x.regs) (live_part q)))) e
    ∙ asked_state l.parent l.killed l.call (contains w.turns.sleepers p) l.regs
    ∙ ap (λ (x : View). Some (asked_in x.call x.regs)) same

same_asked : (v : View) (call : Option Call)
    → reason_told (call_asked (asked_in call v.regs)) (facts_of v) minus_one ≡ reason_told (call_or_begun v call) (facts_of (past_ecall v call)) minus_one
same_asked v None = same_reason (call_begun v) v (begun v).regs (begun v).call
same_asked v (Some c) = same_reason c v v.regs v.call

reason_shown : (w : World) (p : ℕ) (v : View) → view w.state p ≡ Some v → reason_asked w p ≡ reason_told (call_in v) (facts_of (met v)) minus_one
reason_shown w p v was =
    ap (λ (o : Option Asked). option_and_then (λ asked. reason_in w.state p (call_asked asked) minus_one) o) (asked_at w p (get w.state.processes p) v refl was)
    ∙ ap (λ (o : Option View). option_and_then (λ u. reason_told (call_asked (asked_in v.call v.regs)) (facts_of u) minus_one) o) was
    ∙ same_asked v v.call

-- ---- of a step, and of an event

shows : (w : World) (p : ℕ) (v : View) → view w.state p ≡ Some v → (n : ℤ) → (own v).answer ≡ Called n minus_one → ShowsReason w p
shows w p v was n is =
    let answers = refusing v n is in
    let same : reason_asked w p ≡ reason_of (call_in v) (met v) = reason_shown w p v was ∙ told_is_reason (call_in v) (met v) answers in
    record { before = v; was = was; is = same; some = subst (λ (o : Option Reason). IsSome o) (sym same) (refusals_have_reasons (call_in v) (met v) answers) }

refused_so : (a : Answer) → is_refused a ≡ true → (n : ℤ) × (a ≡ Called n minus_one)
refused_so Stepped is = let no : ⊥ = cc in absurd no
refused_so (Called number value) is = (number, ap (λ (z : ℤ). Called number z) ((Decides-int_eq value minus_one).0 is))
refused_so (Blocked number) is = let no : ⊥ = cc in absurd no
refused_so (Exited status) is = let no : ⊥ = cc in absurd no
refused_so (Faulted cause) is = let no : ⊥ = cc in absurd no

of_step : (w t : World) (q p : ℕ) (o : Outcome) → StepOf w q o t → is_refusal p o ≡ true → ShowsReason w p
of_step w t q p o step is =
    let both = and_parts (nat_eq q p) (is_refused (own step.before).answer) (sym (ap (is_refusal p) step.answer) ∙ is) in
    let it = refused_so (own step.before).answer both.1 in
    shows w p step.before (subst (λ (x : ℕ). view w.state x ≡ Some step.before) (eqb-true q p both.0) step.was) it.0 it.1

no_step : (p : ℕ) (o x : Outcome) → o ≡ x → is_refusal p x ≡ false → is_refusal p o ≡ true → ⊥
no_step p o x is other so = let bad : true ≡ false = sym so ∙ ap (is_refusal p) is ∙ other in let no : ⊥ = cc in no

no_turn : (w t : World) (p : ℕ) (o : Outcome) → TurnTaken w o t → is_refusal p o ≡ true → ⊥
no_turn w t p (Step_of q answer) taken is = taken
no_turn w t p (Turn q) taken is = let no : ⊥ = cc in no
no_turn w t p Idle taken is = let no : ⊥ = cc in no
no_turn w t p Ticked taken is = taken
no_turn w t p (Typed echo) taken is = taken
no_turn w t p (Sent byte) taken is = taken
no_turn w t p Halted taken is = taken

of_run : (w t : World) (p : ℕ) (o : Outcome) (halted : Option ℤ) (current : Option ℕ) → RunHappens w halted current o t → is_refusal p o ≡ true → ShowsReason w p
of_run w t p o (Some status) current h is = absurd (no_step p o Halted h.0 refl is)
of_run w t p o None (Some q) h is = of_step w t q p o h is
of_run w t p o None None h is = absurd (no_turn w t p o h is)

of_tick : (w t : World) (p : ℕ) (o : Outcome) (halted : Option ℤ) → TickHappens w halted o t → is_refusal p o ≡ true → ⊥
of_tick w t p o (Some status) h is = no_step p o Halted h.0 refl is
of_tick w t p o None h is = no_step p o Ticked h.0 refl is

of_key : (w t : World) (p byte : ℕ) (o : Outcome) (halted : Option ℤ) → KeyHappens w halted byte o t → is_refusal p o ≡ true → ⊥
of_key w t p byte o (Some status) h is = no_step p o Halted h.0 refl is
of_key w t p byte o None h is = no_step p o _ h.0 refl is

pub refused_steps_have_reasons : RefusedStepsHaveReasons
refused_steps_have_reasons w t Run o p h is = of_run w t p o w.turns.halted w.turns.current h is
refused_steps_have_reasons w t Tick o p h is = absurd (of_tick w t p o w.turns.halted h is)
refused_steps_have_reasons w t (Key byte) o p h is = absurd (of_key w t p byte o w.turns.halted h is)
refused_steps_have_reasons w t Send o p h is = absurd (no_step p o _ h.0 refl is)

-- ---- by an event of a machine

pub reason-refused : (old new : Meaning) (e : Event) (o : Outcome) (p : ℕ) (reason : Option Reason) → IsEvent old e o new → reason ≡ reason_asked old.world p → is_refusal p o ≡ true
    → IsReasonBy old e p reason
reason-refused old new e o p reason came shown is =
    let law = refused_steps_have_reasons old.world new.world e o p came.promised.0 is in
    record { outcome = o; after = new; came = came; exactly = ap is_some shown ∙ law.some ∙ sym is; shown = λ _. shown }

pub none-refused : (old new : Meaning) (e : Event) (o : Outcome) (p : ℕ) → IsEvent old e o new → is_refusal p o ≡ false → IsReasonBy old e p None
none-refused old new e o p came is = record { outcome = o; after = new; came = came; exactly = sym is; shown = λ some. let no : ⊥ = cc in absurd no }

-- where no event is the last, there is none
pub no-last : (list : List Event) → slice_get list (length list - 1) ≡ None → list ≡ []
no-last [] none = refl
no-last (e ∷ list) none = elim ((slice_get_cases (e ∷ list) (length (e ∷ list) - 1)).1) [
  | inl within ↦ let both : None ≡ Some within.0 = sym none ∙ within.2 in let no : ⊥ = cc in absurd no
  | inr past ↦ absurd (omega (arith, past.0))
]

pub is-last : (list : List Event) (e : Event) → slice_get list (length list - 1) ≡ Some e → list ≡ [] → ⊥
is-last [] e is empty = let no : ⊥ = cc in no
is-last (first ∷ list) e is empty = let no : ⊥ = cc in no

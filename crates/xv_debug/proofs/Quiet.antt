-- A done instruction adds no byte to those that wait in the console.
use Rattle.std.proofs.Common.{◌≡◌, ℕ, ℤ, Bool, true, false, [], Option, None, Some, IsSome, option_map, inl, inr, refl, sym, ap, ◌∙◌, subst}
use Rattle.std.proofs.lemmas.Option.{same_Some}
use Rattle.console_core.specs.Lists.{Console}
use Rattle.proc_table.specs.declared.process.Call.{Call}
use Rattle.rv64i_core.specs.Step.{Step, Next, Ecall, Fault}
use Rattle.kernel_spec.specs.rows.Calls.{perform}
use Rattle.kernel_spec.specs.runs.Run as runs
use Rattle.kernel_spec.specs.runs.Run.{Outcome, Run, RunHappens, StepOf, Step_of, World}
use Rattle.kernel_spec.specs.steps.Instruction.{next_instruction}
use Rattle.kernel_spec.specs.steps.Own.{Answer, Own, Stepped, Called, Blocked, Exited, Faulted, gone_with}
use Rattle.kernel_spec.specs.steps.Step.{after_instruction, begun, call_begun, going_on, own, unless_killed}
use Rattle.kernel_spec.specs.views.State.{State, live}
use Rattle.kernel_spec.specs.views.View.{View, view, view_of}
use Rattle.kernel_spec.specs.views.Processes.{Live}
use Rattle.kernel_spec.specs.views.Words.{minus_one}
use Rattle.kernel_spec.proofs.rows.ByTouch.{by_instruction_apart}
use Rattle.kernel_spec.proofs.rows.Outcomes.{Comes, perform_comes}
use Rattle.xv_session.specs.Steps.{Advances}
use Rattle.xv_session.specs.Until.{is_done}
use Rattle.xv_session.specs.declared.running.Running.{Running}

abbrev Keeps : View → Own → Type 0
Keeps v o = o.answer ≡ Stepped → o.left.console ≡ v.console

-- a call is no done instruction
call-keeps : (v u : View) (c : Call) (o : Own) → Comes c u o → Keeps v o
call-keeps v u c o (inl refused) is = let no : Called c.number minus_one ≡ Stepped = sym (ap (λ (x : Own). x.answer) refused) ∙ is in let bad : ⊥ = cc in absurd bad
call-keeps v u c o (inr (inl done)) is = let no : Called c.number _ ≡ Stepped = sym done.answer ∙ is in let bad : ⊥ = cc in absurd bad
call-keeps v u c o (inr (inr (inl wait))) is = let no : Blocked c.number ≡ Stepped = sym (ap (λ (x : Own). x.answer) wait.is) ∙ is in let bad : ⊥ = cc in absurd bad
call-keeps v u c o (inr (inr (inr left))) is = let no : IsSome (gone_with Stepped) = subst (λ (a : Answer). IsSome (gone_with a)) is left.ends in let bad : ⊥ = cc in absurd bad

instruction-keeps : (v : View) (st : Step) → Keeps v (after_instruction v st)
instruction-keeps v (Next r None) is = refl
instruction-keeps v (Next r (Some st)) is = refl
instruction-keeps v Ecall is = call-keeps v (begun v) (call_begun v) (perform (call_begun v) (begun v)) (perform_comes (call_begun v) (begun v)) is
instruction-keeps v (Fault cause) is = let bad : ⊥ = cc in absurd bad

going-keeps : (v : View) (call : Option Call) → Keeps v (going_on v call)
going-keeps v None = by_instruction_apart (λ st o. Keeps v o) v (instruction-keeps v (next_instruction v.regs v.image))
    (λ image free touched other. instruction-keeps (record v { image = image; free = free }) (next_instruction v.regs image))
going-keeps v (Some c) = call-keeps v v c (perform c v) (perform_comes c v)

unless-keeps : (v : View) (killed : Bool) → Keeps v (unless_killed v killed)
unless-keeps v true is = let bad : ⊥ = cc in absurd bad
unless-keeps v false is = going-keeps v v.call is

own-keeps : (v : View) → Keeps v (own v)
unfolding own
own-keeps v = unless-keeps v v.killed

-- what a process sees of the console is the console
seen-console : (s : State) (p : ℕ) (v : View) → view s p ≡ Some v → v.console ≡ s.console
unfolding view_of
seen-console s p v is = by (live s p) is
  where
    by : (l : Option Live) → option_map (view_of s p) l ≡ Some v → v.console ≡ s.console
    by None e = let bad : ⊥ = cc in absurd bad
    by (Some l) e = sym (ap (λ (u : View). u.console) (same_Some (view_of s p l) v e))

pub done-is : (p : ℕ) (a : Answer) → is_done (Step_of p a) ≡ true → a ≡ Stepped
done-is p Stepped is = refl
done-is p (Called number value) is = let bad : ⊥ = cc in absurd bad
done-is p (Blocked number) is = let bad : ⊥ = cc in absurd bad
done-is p (Exited status) is = let bad : ⊥ = cc in absurd bad
done-is p (Faulted cause) is = let bad : ⊥ = cc in absurd bad

run-keeps : (w t : World) (halted : Option ℤ) (current : Option ℕ) (o : Outcome) → RunHappens w halted current o t → is_done o ≡ true → t.state.console ≡ w.state.console
run-keeps w t (Some status) current o (is, same) done = ap (λ (x : World). x.state.console) same
run-keeps w t None (Some p) o step done =
    let stepped = done-is p (own step.before).answer (sym (ap is_done step.answer) ∙ done) in
    step.state.left.console ∙ own-keeps step.before stepped ∙ seen-console w.state p step.before step.was
run-keeps w t None None (Step_of p a) bad done = absurd bad
run-keeps w t None None (runs.Turn p) taken done = let bad : ⊥ = cc in absurd bad
run-keeps w t None None runs.Idle taken done = let bad : ⊥ = cc in absurd bad
run-keeps w t None None runs.Ticked bad done = absurd bad
run-keeps w t None None (runs.Typed echo) bad done = absurd bad
run-keeps w t None None (runs.Sent byte) bad done = absurd bad
run-keeps w t None None runs.Halted bad done = absurd bad

pub done-quiet : (a b : Running) (o : Outcome) → Advances a Run o b → is_done o ≡ true → a.machine.world.state.console.to_send ≡ [] → b.machine.world.state.console.to_send ≡ []
done-quiet a b o one done quiet =
    let w = a.machine.world in
    ap (λ (c : Console). c.to_send) (run-keeps w b.machine.world w.turns.halted w.turns.current o one.event.promised.0 done) ∙ quiet

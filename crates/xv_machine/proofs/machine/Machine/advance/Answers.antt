use Rattle.std.proofs.Common.{sym, ◌∙◌, subst, None, Some, Option}
use Rattle.std.specs.Prelude.{ℤ}
use Rattle.kcall_core.specs.Machine.{turns_of, world_of}
use Rattle.kcall_core.specs.Kernel.{state_of}
use Rattle.kernel_spec.specs.waking.Wakes.{IsPromised}
use Rattle.xv_machine.specs.declared.event.RunOutcome.{RunOutcome}
use Rattle.xv_machine.specs.Sound.{IsHalted}
use Rattle.xv_machine.specs.Steps.{Advanced, runs_made}
use Rattle.xv_machine.proofs.Runs.{current-pid, count-is, now-frames}
use Rattle.xv_machine.proofs.Advances.{now-running, now-ran, is-on, none-run, none-frames, some-end, some-whole, some-halted, some-frames, some-run}
use Rattle.xv_machine.proofs.machine.Machine.advance.Goals as goal

pub advance-made-requires-clause-running : goal.advance-made-requires-clause-running
advance-made-requires-clause-running c =
    let i = c.self.inside in
    (current-pid i.kernel c.args.pid (now-running i.kernel i.hart i.halted i.trace c.args.self.now c.args.pid c.self.view_is c.requires.current)).0

pub advance-made-requires-clause-pid : goal.advance-made-requires-clause-pid
advance-made-requires-clause-pid c =
    let i = c.self.inside in
    (current-pid i.kernel c.args.pid (now-running i.kernel i.hart i.halted i.trace c.args.self.now c.args.pid c.self.view_is c.requires.current)).1

pub returns-in_default-clause-run : goal.returns-in_default-clause-run
returns-in_default-clause-run c =
    let i = c.self.inside in
    let made = c.advance-made.result.made in
    let k = c.advance-made.new.kernel in
    let h = c.advance-made.new.hart in
    let current = now-running i.kernel i.hart i.halted i.trace c.args.self.now c.args.pid c.self.view_is c.requires.current in
    let on = is-on i.kernel i.hart i.halted c.args.pid current c.self.invariant.halted in
    let a : Advanced i.kernel i.hart c.args.most made None k h = subst (λ (e : Option RunOutcome). Advanced i.kernel i.hart c.args.most made e k h) c.in_default.is c.advance-made.ensures in
    now-ran i.kernel i.hart i.halted i.trace c.args.self.now c.self.view_is (runs_made c.args.pid made None) (world_of k h i.halted) on
    (subst (λ (s : Option ℤ). IsPromised (world_of i.kernel i.hart None) (runs_made c.args.pid made None) (world_of k h s)) (sym on)
    (none-run i.kernel i.hart i.halted c.args.pid current c.self.invariant.halted c.args.most made k h a))

pub returns-in_default-clause-frames : goal.returns-in_default-clause-frames
returns-in_default-clause-frames c =
    let i = c.self.inside in
    let made = c.advance-made.result.made in
    let k = c.advance-made.new.kernel in
    let h = c.advance-made.new.hart in
    let current = now-running i.kernel i.hart i.halted i.trace c.args.self.now c.args.pid c.self.view_is c.requires.current in
    let a : Advanced i.kernel i.hart c.args.most made None k h = subst (λ (e : Option RunOutcome). Advanced i.kernel i.hart c.args.most made e k h) c.in_default.is c.advance-made.ensures in
    count-is k ∙ none-frames i.kernel i.hart i.halted c.args.pid current c.self.invariant.halted c.args.most made k h a ∙ now-frames i.kernel i.hart i.halted i.trace c.args.self.now c.self.view_is

pub invariant_of-self-2 : goal.invariant_of-self-2
invariant_of-self-2 c =
    let i = c.self.inside in
    let made = c.advance-made.result.made in
    let k = c.advance-made.new.kernel in
    let h = c.advance-made.new.hart in
    let o = c.in-Some.last in
    let current = now-running i.kernel i.hart i.halted i.trace c.args.self.now c.args.pid c.self.view_is c.requires.current in
    let a : Advanced i.kernel i.hart c.args.most made (Some o) k h = subst (λ (e : Option RunOutcome). Advanced i.kernel i.hart c.args.most made e k h) c.in-Some.is c.advance-made.ensures in
    record {
      whole = some-whole i.kernel i.hart i.halted c.args.pid current c.self.invariant.halted c.args.most made k h o a;
      halted = subst (λ (s : Option ℤ). IsHalted (state_of k h) (turns_of k s) s) (sym c.halted_by-self-inside.ensures)
          (some-halted i.kernel i.hart i.halted c.args.pid current c.self.invariant.halted c.args.most made k h o a);
      kept = c.self.invariant.kept;
    }

pub returns-clause-run : goal.returns-clause-run
returns-clause-run c =
    let i = c.self.inside in
    let made = c.advance-made.result.made in
    let k = c.advance-made.new.kernel in
    let h = c.advance-made.new.hart in
    let o = c.in-Some.last in
    let current = now-running i.kernel i.hart i.halted i.trace c.args.self.now c.args.pid c.self.view_is c.requires.current in
    let on = is-on i.kernel i.hart i.halted c.args.pid current c.self.invariant.halted in
    let a : Advanced i.kernel i.hart c.args.most made (Some o) k h = subst (λ (e : Option RunOutcome). Advanced i.kernel i.hart c.args.most made e k h) c.in-Some.is c.advance-made.ensures in
    now-ran i.kernel i.hart i.halted i.trace c.args.self.now c.self.view_is (runs_made c.args.pid made (Some o)) (world_of k h c.halted_by-self-inside.result) on
    (subst (λ (s : Option ℤ). IsPromised (world_of i.kernel i.hart None) (runs_made c.args.pid made (Some o)) (world_of k h s))
    (sym c.halted_by-self-inside.ensures) (some-run i.kernel i.hart i.halted c.args.pid current c.self.invariant.halted c.args.most made k h o a))

pub returns-clause-frames : goal.returns-clause-frames
returns-clause-frames c =
    let i = c.self.inside in
    let made = c.advance-made.result.made in
    let k = c.advance-made.new.kernel in
    let h = c.advance-made.new.hart in
    let o = c.in-Some.last in
    let current = now-running i.kernel i.hart i.halted i.trace c.args.self.now c.args.pid c.self.view_is c.requires.current in
    let a : Advanced i.kernel i.hart c.args.most made (Some o) k h = subst (λ (e : Option RunOutcome). Advanced i.kernel i.hart c.args.most made e k h) c.in-Some.is c.advance-made.ensures in
    count-is k ∙ some-frames i.kernel i.hart i.halted c.args.pid current c.self.invariant.halted c.args.most made k h o a ∙ now-frames i.kernel i.hart i.halted i.trace c.args.self.now c.self.view_is

pub returns-clause-end : goal.returns-clause-end
returns-clause-end c =
    let i = c.self.inside in
    let made = c.advance-made.result.made in
    let k = c.advance-made.new.kernel in
    let h = c.advance-made.new.hart in
    let o = c.in-Some.last in
    let current = now-running i.kernel i.hart i.halted i.trace c.args.self.now c.args.pid c.self.view_is c.requires.current in
    let a : Advanced i.kernel i.hart c.args.most made (Some o) k h = subst (λ (e : Option RunOutcome). Advanced i.kernel i.hart c.args.most made e k h) c.in-Some.is c.advance-made.ensures in
    some-end i.kernel i.hart i.halted c.args.pid current c.self.invariant.halted c.args.most made k h o a

use Rattle.kcall_core.proofs.Prelude.{◌-◌, ◌∙◌, arith, ClosesFrom, NOFILE, subst}
use Rattle.kcall_core.proofs.files.AllClosed.{closes-none, closes-on}
use Rattle.kcall_core.proofs.kernel.Kernel.close_all.Goals as goal

pub loop-closed-init : goal.loop-closed-init
loop-closed-init c = record { slot = c.running_slot-slot.ensures.is; closed = λ hart closing. closes-none closing }

pub close_if_used-requires-clause-closing : goal.close_if_used-requires-clause-closing
close_if_used-requires-clause-closing c = let r = c.loop-closed.invariant.closed c.requires.0 c.requires.1 in (c.requires.0, r.after)

pub close_if_used-requires-clause-slot : goal.close_if_used-requires-clause-slot
close_if_used-requires-clause-slot c = c.loop-closed.invariant.slot

pub loop-closed-preserved : goal.loop-closed-preserved
loop-closed-preserved c = record {
  slot =
      let before = c.loop-closed.invariant.closed c.requires.0 c.requires.1 in
      let after = c.close_if_used.ensures c.requires.0 before.after in
      after.remains.current ∙ c.loop-closed.invariant.slot;
  closed = λ hart closing.
      let before = c.loop-closed.invariant.closed hart closing in
      closes-on (NOFILE - c.loop-closed.closed) _ c.new.result (omega (arith, c.new.ensures, c.loop-closed-test.true))
      (omega (arith, c.new.ensures, c.loop-closed-test.true)) closing before (c.close_if_used.ensures hart before.after);
}

pub returns : goal.returns
returns c = λ hart closing. subst (λ n. ClosesFrom c.args.self.now hart n c.loop-closed.self) (omega (arith, c.loop-closed-test.false)) (c.loop-closed.invariant.closed hart closing)

use Rattle.std.proofs.Common.{subst, arith, string_bytes}
use Rattle.kcall_core.specs.ObservedPipes.{pipe_counts_of}
use Rattle.debug_views.specs.Written.{Writes}
use Rattle.debug_views.proofs.Shown.{writes-nothing}
use Rattle.xv_debug.specs.PipeText.{AddsPipe, ArePipes}
use Rattle.xv_debug.proofs.ToldPipes.{no-pipes, pipes-more}
use Rattle.xv_debug.proofs.pipes.show_first.Goals as goal

pub loop-number-init : goal.loop-number-init
loop-number-init c = record {
  told = writes-nothing (ArePipes c.args.machine.now.world 0 0) _ (no-pipes c.args.machine.now.world);
  few = omega arith;
}

pub loop-number-preserved : goal.loop-number-preserved
loop-number-preserved c =
    let w = c.args.machine.now.world in
    let number = c.loop-number.number in
    let mid = string_bytes c.loop-number.answer in
    let new = string_bytes c.show_if_there.new.answer in
    record {
      told = pipes-more w number c.loop-number.count c.in_ok-count.count _ mid new c.loop-number.invariant.told
          (subst (λ f. Writes mid new (AddsPipe w f (pipe_counts_of w.state f) c.loop-number.count c.in_ok-count.count)) c.new.ensures c.in_ok-count.ensures.adds);
      few = omega (arith, c.loop-number.invariant.few, c.in_ok-count.ensures.few);
    }

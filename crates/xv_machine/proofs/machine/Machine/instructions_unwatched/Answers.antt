use Rattle.std.proofs.Common.{◌<◌, sym, ap, subst}
use Rattle.kernel_spec.specs.views.Words.{or_zero}
use Rattle.xv_machine.specs.Instructions.{RunsUnwatched, AreUnwatched}
use Rattle.xv_machine.specs.Meaning.{Meaning}
use Rattle.xv_machine.proofs.machine.Machine.instructions_unwatched.Goals as goal

pub returns-clause-made : goal.returns-clause-made
returns-clause-made c =
    let m = c.make_unwatched-made in
    subst (λ p. AreUnwatched c.args.watch.now.addresses.now c.args.watch.now.bytes.now p m.result c.args.self.now c.keep_often.new.self) (sym (ap or_zero (sym c.in-Some.ensures.pid)))
    (subst (AreUnwatched c.args.watch.now.addresses.now c.args.watch.now.bytes.now c.in-Some.pid m.result c.args.self.now) (sym c.keep_often.ensures.kept) m.ensures.made)

pub returns-clause-stops : goal.returns-clause-stops
returns-clause-stops c =
    let m = c.make_unwatched-made in
    subst (λ (x : Meaning). m.result < c.args.most → RunsUnwatched c.args.watch.now.addresses.now c.args.watch.now.bytes.now x.world → ⊥) (sym c.keep_often.ensures.kept) m.ensures.stops

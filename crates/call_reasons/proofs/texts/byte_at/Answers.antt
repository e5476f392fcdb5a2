use Rattle.std.proofs.Common.{◌∙◌, Some, None, cond, sym, ap, arith}
use Rattle.xk_base.specs.declared.access.Access.TheVariants.{Load}
use Rattle.kernel_spec.specs.views.State.{live}
use Rattle.call_reasons.specs.Shown.{facts_in}
use Rattle.call_reasons.proofs.Reading.{reached_low}
use Rattle.call_reasons.proofs.texts.byte_at.Goals as goal

pub returns-then-not-reaches-clause-value : goal.returns-then-not-reaches-clause-value
returns-then-not-reaches-clause-value c =
    let f = facts_in c.args.machine.now.world.state c.args.pid in
    sym (ap (λ b. cond b (Some (f.byte c.args.address)) None) (sym c.reaches.ensures ∙ c.if-not-reaches.true))

pub returns-clause-value : goal.returns-clause-value
returns-clause-value c =
    let f = facts_in c.args.machine.now.world.state c.args.pid in
    ap Some c.byte.ensures ∙ sym (ap (λ b. cond b (Some (f.byte c.args.address)) None) (sym c.reaches.ensures ∙ c.if-not-reaches.false))

pub returns-clause-low : goal.returns-clause-low
returns-clause-low c =
    omega (arith, reached_low Load (live c.args.machine.now.world.state c.args.pid) c.args.address 1 (omega arith) (sym c.reaches.ensures ∙ c.if-not-reaches.false))

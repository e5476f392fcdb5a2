use Rattle.kcall_core.proofs.Prelude.{ℕ, ◌<◌, ◌∙◌, arith, IsOffTheWay, root-inside, subst, sym}
use Rattle.kcall_core.proofs.memory.Roles.{map-none, none-in-space}
use Rattle.kcall_core.proofs.memories.frame_roles.role_in_space.Goals as goal

pub role_below-requires-clause-root_in : goal.role_below-requires-clause-root_in
role_below-requires-clause-root_in c = omega (arith, c.root-2.ensures, root-inside c.args.ram.now c.args.space.now.root c.requires.tree)

pub returns-clause-none : goal.returns-clause-none
returns-clause-none c =
    map-none c.role_below.result
    (λ off. none-in-space c.args.ram.now c.args.space.now c.args.frame c.end.result c.requires c.end.ensures.value
    (λ e. c.if-number.false (c.number.ensures.value ∙ c.root.ensures ∙ e ∙ sym c.number-2.ensures.value))
    (subst (λ r. (v : ℕ) → v < c.end.result → IsOffTheWay c.args.ram.now r c.args.frame v) c.root-2.ensures off))
    c.role_below.ensures.none

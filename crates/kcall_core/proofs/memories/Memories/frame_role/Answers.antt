use Rattle.kcall_core.proofs.Prelude.{◌∙◌, sym}
use Rattle.kcall_core.proofs.memory.Roles.{map-none, slot-read, none-in-slot}
use Rattle.kcall_core.proofs.memories.Memories.frame_role.Goals as goal

pub role_in_space-requires : goal.role_in_space-requires
role_in_space-requires c =
    (c.requires.sound.memories c.args.slot c.in-Some.memory
    (slot-read c.args.self.now c.args.slot c.index.result.now c.requires.sound c.requires.slot c.index.ensures ∙ c.in-Some.is)).space

pub returns-clause-none : goal.returns-clause-none
returns-clause-none c =
    map-none c.role_in_space.result
    (none-in-slot c.args.self.now c.args.slot c.args.frame c.in-Some.memory (slot-read c.args.self.now c.args.slot c.index.result.now c.requires.sound c.requires.slot c.index.ensures ∙ c.in-Some.is)
    (λ e. c.if-number.false (c.number.ensures.value ∙ e ∙ sym c.number-2.ensures.value)))
    c.role_in_space.ensures.none

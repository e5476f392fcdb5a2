use Rattle.kcall_core.proofs.Prelude.{◌<◌, ◌∙◌, ◌≤◌, arith, frame_count, FrameUse, Free, IsUsed, subst, sym}
use Rattle.kcall_core.specs.declared.kernel.observers.frame_uses.FrameUse.TheVariants.{Pipe}
use Rattle.kcall_core.proofs.memory.PipesTold.{keeps-told}
use Rattle.kcall_core.proofs.table.FrameUses.{told-none, told-some, left-free, owned-used, some-counted}
use Rattle.kcall_core.proofs.kernel.Kernel.frame_use.Goals as goal

pub returns-then-number-frames-clause-told : goal.returns-then-number-frames-clause-told
returns-then-number-frames-clause-told c =
    let past : frame_count c.args.self.now ≤ c.args.frame = omega (arith, c.if-number-frames.true, c.frames.ensures, c.number.ensures.value) in
    told-none c.args.self.now c.requires.0 c.requires.1 c.args.frame c.number.ensures.range past

pub returns-then-is_some-clause-told : goal.returns-then-is_some-clause-told
returns-then-is_some-clause-told c =
    told-some c.args.self.now c.requires.0 c.requires.1 c.args.frame c.number.ensures.range Pipe
    (some-counted c.args.self.now.memories c.args.frame c.pipe_counts.result c.pipe_counts.ensures ∙ sym c.is_some.ensures ∙ c.if-is_some.true)

pub returns-in_default-clause-told : goal.returns-in_default-clause-told
returns-in_default-clause-told c =
    let low = c.number.ensures.range in
    let inside : c.args.frame < frame_count c.args.self.now = omega (arith, c.if-number-frames.false, c.frames.ensures, c.number.ensures.value) in
    let no-pipe = some-counted c.args.self.now.memories c.args.frame c.pipe_counts.result c.pipe_counts.ensures ∙ sym c.is_some.ensures ∙ c.if-is_some.false in
    told-some c.args.self.now c.requires.0 c.requires.1 c.args.frame low Free
    (left-free c.args.self.now c.requires.0 c.requires.1 c.args.frame low inside (sym (keeps-told c.args.self.now.memories c.args.frame low) ∙ no-pipe) c.in_default.ensures.none)

pub returns-clause-told : goal.returns-clause-told
returns-clause-told c =
    let low = c.number.ensures.range in
    told-some c.args.self.now c.requires.0 c.requires.1 c.args.frame low c.of.result
    (subst (λ (used : FrameUse). IsUsed c.args.self.now c.args.frame used) (sym c.of.ensures) (owned-used c.args.self.now c.requires.0 c.requires.1 c.args.frame low _ _ c.in-Some.ensures.some))

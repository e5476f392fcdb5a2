use Rattle.kcall_core.proofs.Prelude.{◌∙◌, Load, refl, sym}
use Rattle.kcall_core.proofs.memory.Written.{told, whole-of, touching-seen}
use Rattle.kcall_core.proofs.memories.Memories.may_read.Goals as goal

pub check_range_lazily-requires : goal.check_range_lazily-requires
check_range_lazily-requires c = whole-of c.memory-memory.ensures

pub returns : goal.returns
returns c =
    let s = c.memory-memory.ensures in
    c.is_ok.ensures.value ∙ told c.check_range_lazily.result _ c.check_range_lazily.ensures.fine c.check_range_lazily.ensures.refused ∙ sym (touching-seen Load refl s c.args.address c.args.len)

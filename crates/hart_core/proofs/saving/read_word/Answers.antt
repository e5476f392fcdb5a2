use Rattle.std.proofs.Common.{◌*◌, ◌-◌, [], ◌∷◌, drop, sym, ◌∙◌, arith}
use Rattle.byteorder.specs.Numbers.{little_from-take}
use Rattle.phys_ram.proofs.Words.{word_at-number}
use Rattle.hart_core.proofs.saving.read_word.Goals as goal

pub returns : goal.returns
returns c =
    c.read_u64.ensures ∙ little_from-take 0 8 (4096 - 8 * c.args.word) (drop (8 * c.args.word) c.args.bytes.now) (omega (arith, c.requires))
    ∙ sym (word_at-number (c.args.bytes.now ∷ []) 0 c.args.word)

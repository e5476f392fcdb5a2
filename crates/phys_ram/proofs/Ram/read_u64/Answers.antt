use Rattle.std.proofs.Common.{◌*◌, ◌-◌, drop, sym, ap, ◌∙◌, arith}
use Rattle.byteorder.specs.Endian.{little_number}
use Rattle.byteorder.specs.Numbers.{little_from-take}
use Rattle.phys_ram.proofs.Words.{word_at-number}
use Rattle.phys_ram.proofs.Ram.read_u64.Goals as goal

pub returns : goal.returns
returns c =
    c.read_u64.ensures ∙ little_from-take 0 8 (4096 - 8 * c.args.word) (drop (8 * c.args.word) c.frame.result.now) (omega (arith, c.requires.word_in))
    ∙ ap (λ fr. little_number 8 (drop (8 * c.args.word) fr)) c.frame.ensures ∙ sym (word_at-number c.args.self.now c.args.frame c.args.word)

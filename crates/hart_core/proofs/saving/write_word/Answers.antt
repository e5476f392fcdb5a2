use Rattle.std.proofs.Common.{◌≡◌, [], ◌∷◌, length, refl, arith, rules}
use Rattle.phys_ram.proofs.Words.{word_written-put}
use Rattle.hart_core.proofs.saving.write_word.Goals as goal

pub returns : goal.returns
returns c =
    let whole : length c.args.bytes.now ≡ 4096 = search rules in
    word_written-put (c.args.bytes.now ∷ []) 0 c.args.word c.args.number _ _ c.args.bytes.now (omega arith) refl (omega (arith, c.requires, whole)) (omega arith)
    c.write_u64.ensures c.ranges.number.fits

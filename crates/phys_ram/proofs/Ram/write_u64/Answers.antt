use Rattle.std.proofs.Common.{rules, ◌≡◌, length, arith}
use Rattle.phys_ram.proofs.Words.{word_written-put}
use Rattle.phys_ram.proofs.Ram.write_u64.Goals as goal

pub returns : goal.returns
returns c =
    let whole : length c.frame_mut.result.now ≡ 4096 = search rules in
    word_written-put c.args.self.now c.args.frame c.args.word c.args.number _ _ c.frame_mut.result.now c.requires.frame_in c.frame_mut.ensures.value
    (omega (arith, c.requires.word_in, whole)) (omega arith) c.write_u64.ensures c.ranges.number.fits

use Rattle.std.proofs.Common.{rules, arith, ◌∙◌, ◌≡◌, ◌-◌, ◌+◌, length, take, drop}
use Rattle.pipe_core.proofs.Pieces.{pieces_placed}
use Rattle.pipe_core.proofs.put_bytes.Goals as goal

pub returns : goal.returns
returns c =
    let b = c.min.result in
    let frame = c.args.frame.now in
    let whole : length frame ≡ 4096 = search rules in
    let one : c.copy_from_slice.new.self ≡ take b c.args.bytes.now = c.copy_from_slice.ensures.after ∙ c.split_at.ensures.front in
    let two : c.copy_from_slice-2.new.self ≡ drop b c.args.bytes.now = c.copy_from_slice-2.ensures.after ∙ c.split_at.ensures.back in
    let front : 32 + c.args.from + length c.split_at.result.0.now - (32 + c.args.from) ≡ length c.copy_from_slice.new.self = omega arith in
    let back : 32 + length c.split_at.result.1.now - 32 ≡ length c.copy_from_slice-2.new.self = omega arith in
    pieces_placed frame c.args.bytes.now c.copy_from_slice.new.self c.copy_from_slice-2.new.self c.args.from b _ _ whole c.requires.from c.requires.fits c.min.ensures one two front back

use Rattle.std.proofs.Common.{rules, ◌≡◌, length, set, replicate, ap, ◌∙◌}
use Rattle.phys_ram.specs.Ram.{zero_frame}
use Rattle.phys_ram.proofs.Ram.zero_frame.Goals as goal

pub returns : goal.returns
unfolding zero_frame
returns c =
    let whole : length c.frame_mut.result.now ≡ 4096 = search rules in
    let zeros : c.fill.new.self ≡ replicate 4096 0 = c.fill.ensures.after (λ y e. e) ∙ ap (λ n. replicate n 0) whole in
    ap (set c.args.self.now c.args.frame) zeros

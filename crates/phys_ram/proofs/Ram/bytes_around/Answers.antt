use Rattle.std.proofs.Common.{rules, ◌≡◌, ◌+◌, ◌*◌, length, take, drop, ap, ◌∙◌}
use Rattle.std.specs.List.{flat_map}
use Rattle.phys_ram.specs.Ram.{frame_at}
use Rattle.phys_ram.proofs.Flat.{part_here}
use Rattle.phys_ram.proofs.Ram.bytes_around.Goals as goal

pub returns-clause-here : goal.returns-clause-here
returns-clause-here c = λ at count low.
    let frames = c.args.self.now in
    let before : length (flat_map (λ bytes. bytes) (take c.args.frame frames)) ≡ 4096 * c.args.frame = search rules in
    let long : length (frame_at frames c.args.frame) ≡ 4096 = search rules in
    let whole : c.as_flattened.result.now ≡ flat_map (λ bytes. bytes) frames = search rules in
    ap (λ l. take count (drop (4096 * c.args.frame + at) l)) whole ∙ part_here frames c.args.frame c.requires before long at count low

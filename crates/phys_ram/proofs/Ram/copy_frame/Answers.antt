use Rattle.std.proofs.Common.{◌≡◌, ◌+◌, ◌<◌, length, refl, ap, ◌∙◌, arith}
use Rattle.std.specs.List.{copy_within}
use Rattle.phys_ram.proofs.Words.{copy_within-one}
use Rattle.phys_ram.proofs.Ram.copy_frame.Goals as goal

pub returns : goal.returns
returns c =
    let v : c.self.inside.frames.items ≡ c.args.self.now = c.self.view_is in
    let from_in : c.index-from.result < length c.self.inside.frames.items = omega (arith, c.requires.from_in, c.index-from.ensures.value, ap length v) in
    let to_in : c.index.result < length c.self.inside.frames.items = omega (arith, c.requires.to_in, c.index.ensures.value, ap length v) in
    let copied : c.copy_within.new.self.items ≡ copy_within c.self.inside.frames.items c.index-from.result (c.index-from.result + 1) c.index.result = c.copy_within.ensures.items in
    copied ∙ copy_within-one c.self.inside.frames.items c.index-from.result c.index.result from_in to_in ∙ rw (v, c.index.ensures.value, c.index-from.ensures.value) refl

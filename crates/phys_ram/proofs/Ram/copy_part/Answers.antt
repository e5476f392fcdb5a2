use Rattle.std.proofs.Common.{◌≡◌, ◌+◌, ◌<◌, length, take, drop, set, get_or, [], ap, ◌∙◌, arith}
use Rattle.std.proofs.lemmas.List.{get_or-take, get_or-drop}
use Rattle.phys_ram.specs.Ram.{with_bytes}
use Rattle.phys_ram.proofs.Parts.{set_in_upper, set_in_lower}
use Rattle.phys_ram.proofs.Ram.copy_part.Goals as goal

pub returns-then-source-target-clause-copied : goal.returns-then-source-target-clause-copied
returns-then-source-target-clause-copied c =
    let items = c.self.inside.frames.items in
    let ram = c.args.self.now in
    let source = c.index-source.result in
    let target = c.index-target.result in
    let inside : target < length items = omega (arith, c.requires.to_in, c.index-target.ensures.value, ap length c.self.view_is) in
    let low = c.split_at_mut-low.ensures.front ∙ ap (take target) c.deref_mut.ensures.value in
    let high = c.split_at_mut-low.ensures.back ∙ ap (drop target) c.deref_mut.ensures.value in
    let first : target + 0 ≡ target = omega arith in
    let from = ap (λ xs. get_or xs source []) low ∙ get_or-take target items source [] c.if-source-target.true ∙ (λ k. get_or (c.self.view_is k) (c.index-source.ensures.value k) []) in
    let to = ap (λ xs. get_or xs 0 []) high ∙ get_or-drop target items 0 [] ∙ ap (λ k. get_or items k []) first ∙ (λ k. get_or (c.self.view_is k) (c.index-target.ensures.value k) []) in
    let bytes = c.copy_bytes.ensures.copied ∙ (λ k. with_bytes c.args.at (take c.args.count (drop c.args.start (from k))) (to k)) in
    set_in_upper items c.self.inside.frames.len c.self.inside.frames.ok.0 target c.copy_bytes.new.to inside c.split_at_mut-low.result.0.now c.split_at_mut-low.result.1.now low high
    ∙ (λ k. set (c.self.view_is k) (c.index-target.ensures.value k) (bytes k))

pub returns-else-source-target-clause-copied : goal.returns-else-source-target-clause-copied
returns-else-source-target-clause-copied c =
    let items = c.self.inside.frames.items in
    let source = c.index-source.result in
    let target = c.index-target.result in
    let low_part = c.split_at_mut-low-else-source-target.result.0.now in
    let high_part = c.split_at_mut-low-else-source-target.result.1.now in
    let inside : target < length items = omega (arith, c.requires.to_in, c.index-target.ensures.value, ap length c.self.view_is) in
    let source_in : source < length items = omega (arith, c.requires.from_in, c.index-source.ensures.value, ap length c.self.view_is) in
    let below : target < source = omega (arith, c.if-source-target.false, c.index-source.ensures.value, c.index-target.ensures.value, c.requires.apart) in
    let low = c.split_at_mut-low-else-source-target.ensures.front ∙ ap (take source) c.deref_mut-else-source-target.ensures.value in
    let high = c.split_at_mut-low-else-source-target.ensures.back ∙ ap (drop source) c.deref_mut-else-source-target.ensures.value in
    let first : source + 0 ≡ source = omega arith in
    let from = ap (λ xs. get_or xs 0 []) high ∙ get_or-drop source items 0 [] ∙ ap (λ k. get_or items k []) first ∙ (λ k. get_or (c.self.view_is k) (c.index-source.ensures.value k) []) in
    let to = ap (λ xs. get_or xs target []) low ∙ get_or-take source items target [] below ∙ (λ k. get_or (c.self.view_is k) (c.index-target.ensures.value k) []) in
    let bytes = c.copy_bytes-else-source-target.ensures.copied ∙ (λ k. with_bytes c.args.at (take c.args.count (drop c.args.start (from k))) (to k)) in
    set_in_lower items c.self.inside.frames.len c.self.inside.frames.ok.0 target c.copy_bytes-else-source-target.new.to inside low_part high_part source below (omega (arith, source_in)) low high
    ∙ (λ k. set (c.self.view_is k) (c.index-target.ensures.value k) (bytes k))

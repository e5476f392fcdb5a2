use Rattle.std.proofs.Common.{rules, arith, ap, ◌∙◌, ◌≡◌, ◌≤◌, ◌-◌, ◌+◌, ◌++◌, length, take, drop, ℕ}
use Rattle.std.proofs.lemmas.List.{length-drop}
use Rattle.pipe_core.proofs.Pieces.{pieces_read}
use Rattle.pipe_core.proofs.get_bytes.Goals as goal

pub returns : goal.returns
returns c =
    let b = c.min-before.result in
    let frame = c.args.frame.now in
    let bytes = c.args.bytes.now in
    let xs = c.copy_from_slice.new.self ++ drop b bytes in
    let whole : length frame ≡ 4096 = search rules in
    let one : c.copy_from_slice.new.self ≡ take b (drop (32 + c.args.from) frame) =
    c.copy_from_slice.ensures.after ∙ ap (λ (m : ℕ). take m (drop (32 + c.args.from) frame)) (let e : 32 + c.args.from + b - (32 + c.args.from) ≡ b = omega arith in e) in
    let two : c.copy_from_slice-2.new.self ≡ take (length bytes - b) (drop 32 frame) =
    c.copy_from_slice-2.ensures.after ∙ ap (λ (m : ℕ). take m (drop 32 frame)) (let e : 32 + (length bytes - b) - 32 ≡ length bytes - b = omega arith in e) in
    let past : length (drop b xs) ≤ length xs - b = omega (arith, length-drop b xs) in
    pieces_read frame bytes c.copy_from_slice.new.self c.copy_from_slice-2.new.self c.args.from b _ whole c.requires.from c.requires.fits c.min-before.ensures one two past

use Rattle.std.proofs.Common.{ℕ, ◌≡◌, ◌+◌, ◌++◌, List, [], take, drop, set, sym, ap, ◌∙◌, arith}
use Rattle.std.proofs.lemmas.List.{set-get_or, take-append-drop}
use Rattle.phys_ram.specs.Ram.{frame_at, with_bytes}
use Rattle.pipe_core.proofs.fast.frames.copy_rest.Goals as goal

-- no bytes are written over others
none_over : (at : ℕ) (frame : List ℕ) → with_bytes at [] frame ≡ frame
none_over at frame = let same : at + 0 ≡ at = omega arith in ap (λ n. take at frame ++ drop n frame) same ∙ take-append-drop at frame

pub returns-then-count-eq0 : goal.returns-then-count-eq0
returns-then-count-eq0 c =
    let ram = c.args.ram.now in
    let frame = frame_at ram c.args.to in
    sym (ap (λ n. set ram c.args.to (with_bytes c.args.at (take n (drop c.args.start (frame_at ram c.args.from))) frame)) c.if-count-eq0.true
    ∙ ap (set ram c.args.to) (none_over c.args.at frame) ∙ set-get_or ram c.args.to [])

use Rattle.std.proofs.Common.{◌∙◌, ◌++◌, ℕ, List, ap, rules, length, ◌≤◌, arith}
use Rattle.std.specs.String.{string_bytes}
use Rattle.trace_picture.proofs.Texts.{left-none}
use Rattle.trace_picture.proofs.Letters.{bytes-are, bytes-over, no-bytes}
use Rattle.trace_picture.proofs.picture.push_bytes.Goals as goal

pub returns-then-free-right : goal.returns-then-free-right
returns-then-free-right c =
    left-none _ _ _ c.loop-event.invariant (search (rules, bytes-over))
    ∙ ap (λ (z : List ℕ). string_bytes c.args.text.now ++ z) (bytes-are c.args.axis.left c.args.axis.events c.args.base c.args.line c.args.notes.now)

pub returns : goal.returns
returns c =
    left-none _ _ _ c.loop-event.invariant (search (rules, no-bytes))
    ∙ ap (λ (z : List ℕ). string_bytes c.args.text.now ++ z) (bytes-are c.args.axis.left c.args.axis.events c.args.base c.args.line c.args.notes.now)

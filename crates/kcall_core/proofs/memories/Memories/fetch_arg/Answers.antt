use Rattle.kcall_core.proofs.Prelude.{ℕ, ◌∙◌, ◌≡◌, ap, each_of, held_at, List, push_refusal, rules, same_Some, Some, sym, take, text_at}
use Rattle.kcall_core.proofs.memory.Arguments.{text-longer, taken-if, refused-if}
use Rattle.kcall_core.proofs.memories.Memories.fetch_arg.Goals as goal

pub returns-in-Ok-clause-added : goal.returns-in-Ok-clause-added
returns-in-Ok-clause-added c is =
    let image = (held_at (each_of c.args.self.now) c.args.slot).image in
    let text : List ℕ = take c.in-Ok.len c.fetch_text.new.text in
    let short : text_at 128 image c.args.address ≡ Some text = search rules in
    (text, text-longer 128 3968 image c.args.address text short, taken-if c.push.result (sym c.is_ok.ensures.value ∙ is) c.push.ensures.added)

pub returns-in-Ok-clause-refused : goal.returns-in-Ok-clause-refused
returns-in-Ok-clause-refused c is text there =
    let image = (held_at (each_of c.args.self.now) c.args.slot).image in
    let read : List ℕ = take c.in-Ok.len c.fetch_text.new.text in
    let short : text_at 128 image c.args.address ≡ Some read = search rules in
    let same : read ≡ text = same_Some read text (sym (text-longer 128 3968 image c.args.address read short) ∙ there) in
    let out = refused-if c.push.result (sym c.is_ok.ensures.value ∙ is) in
    (out.0, ap (push_refusal c.args.args.now) (sym same) ∙ sym c.push.ensures.refusal ∙ out.1)

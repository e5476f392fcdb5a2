use Rattle.std.proofs.Common.{◌≡◌, ◌∙◌, ◌*◌, ◌<◌, Bool, if◌then◌else◌, [], ◌∷◌, ◌++◌, ap, arith, codes, lt-ltb, string_bytes, sym}
use Rattle.std.proofs.lemmas.Result.{on_ok_weaker}
use Rattle.std.specs.List.{concat}
use Rattle.debug_words.specs.Texts.{hexadecimal}
use Rattle.debug_views.specs.PagesText.{go_on_text}
use Rattle.debug_views.proofs.pages.show_more.Goals as goal

pub returns : goal.returns
returns c =
    let old = string_bytes c.args.answer.now in
    let more : c.args.behind < c.args.end = omega (arith, c.if-behind-end.false) in
    let text = codes "there are more: pages " ++ hexadecimal (c.args.behind * 4096) ++ codes " goes on\n" in
    let told : text ≡ go_on_text c.args.behind c.args.end = sym (ap (λ (b : Bool). if b then text else []) (lt-ltb c.args.behind c.args.end more)) in
    on_ok_weaker c.writeln.result (λ written. written ∙ (λ i. old ++ concat (codes "there are more: pages " ∷ hexadecimal (c.from.ensures i * 4096) ∷ codes " goes on\n" ∷ []))
    ∙ ap (λ t. old ++ t) told) c.writeln.ensures.bytes

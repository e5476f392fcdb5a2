use Rattle.std.proofs.Common.{◌≡◌, ◌∙◌, [], ◌∷◌, ◌++◌, ap, codes, string_bytes}
use Rattle.std.proofs.lemmas.Result.{on_ok_weaker}
use Rattle.std.specs.List.{concat}
use Rattle.xv_machine.specs.Meaning.{Meaning}
use Rattle.debug_words.specs.Texts.{grouped, many}
use Rattle.xv_debug.proofs.processes.show_place.Goals as goal

pub returns : goal.returns
returns c =
    let ticks : c.from.result ≡ c.args.session.now.machine.world.state.clock = c.from.ensures ∙ c.clock.ensures ∙ ap (λ (m : Meaning). m.world.state.clock) c.machine.ensures.machine in
    on_ok_weaker c.write.result (λ written. written ∙ (λ i. string_bytes c.args.answer.now ++ concat (
    codes "at " ∷ grouped (c.at.ensures i) ∷ codes ", " ∷ many (ticks i) (codes "tick") ∷ codes ": " ∷ []))) c.write.ensures.bytes

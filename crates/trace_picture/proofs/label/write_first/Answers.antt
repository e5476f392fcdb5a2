use Rattle.std.proofs.Common.{◌≡◌, ◌∙◌, sym, rules, take}
use Rattle.std.proofs.lemmas.Grind.{put_two}
use Rattle.std.proofs.lemmas.Iterator.{YieldsList-from_chars, YieldsList-from_take}
use Rattle.std.proofs.lemmas.Iterator.Consumers.{YieldsList-end}
use Rattle.std.proofs.lemmas.List.{map-id}
use Rattle.std.specs.Str.{chars}
use Rattle.trace_picture.proofs.Texts.{letters-next}
use Rattle.trace_picture.proofs.label.write_first.Goals as goal

pub loop-letter-preserved : goal.loop-letter-preserved
loop-letter-preserved g c = λ plain.
    let before = c.loop-letter.invariant plain in
    put_two _ _ _ _ _ _ _ before (search rules) (letters-next c.loop-letter.yielded _)

pub returns : goal.returns
returns g c =
    let t = YieldsList-end (YieldsList-from_take 24 (YieldsList-from_chars c.args.program.now c.utf8.program cc) cc)
    c.loop-letter.yielded _ c.loop-letter.yielded_by _ _ c.in-None.is c.next.ensures.steps in
    let all : take 24 (chars c.args.program.now) ≡ c.loop-letter.yielded = sym (sym (map-id c.loop-letter.yielded) ∙ t.0) in
    rw all (search rules)

use Rattle.std.proofs.Common.{◌≡◌, map, take}
use Rattle.debug_words.specs.Texts.{visible}
use Rattle.debug_words.proofs.texts.name_text.Given as goal

abbrev pub invariant-loop-place : goal.invariant-loop-place
invariant-loop-place l = l.text.bytes ≡ map visible (take l.place l.name)

use Rattle.grade_sheets.proofs.Prelude.{◌≡◌, take}
use Rattle.grade_sheets.specs.Forms.{without_commas}
use Rattle.grade_sheets.proofs.forms.without_commas.Given as goal

abbrev pub invariant-loop-byte : goal.invariant-loop-byte
invariant-loop-byte l = l.kept.items ≡ without_commas (take l.byte-index l.word)

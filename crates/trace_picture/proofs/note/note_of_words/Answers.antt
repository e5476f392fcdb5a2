use Rattle.std.proofs.Common.{Bor, List, ℕ, arith, map}
use Rattle.std.proofs.lemmas.List.{length-map}
use Rattle.trace_picture.proofs.Lines.{no-words, many-words}
use Rattle.trace_picture.proofs.note.note_of_words.Goals as goal

pub returns-in_default : goal.returns-in_default
returns-in_default c = no-words (map (λ (w : Bor (List ℕ)). w.now) c.args.words.now) (omega (arith, length-map c.args.words.now (λ (w : Bor (List ℕ)). w.now), c.in_default.len_below))

pub returns-in_default-2 : goal.returns-in_default-2
returns-in_default-2 c = many-words (map (λ (w : Bor (List ℕ)). w.now) c.args.words.now) (omega (arith, length-map c.args.words.now (λ (w : Bor (List ℕ)). w.now), c.in_default.len_at_least))

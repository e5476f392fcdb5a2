use Rattle.std.proofs.Common.{◌≡◌, ◌+◌, drop}
use Rattle.c_expressions.specs.Tokens.{word_length}
use Rattle.c_expressions.proofs.tokens.word_length.Given as goal

abbrev pub invariant-loop-byte : goal.invariant-loop-byte
invariant-loop-byte l = record {
  counted : l.count ≡ l.byte-index;
  whole : word_length l.text ≡ l.count + word_length (drop l.byte-index l.text);
}

use Rattle.std.proofs.Common.{◌≡◌, Some, drop}
use Rattle.c_expressions.specs.Tokens.{number_of, number_on}
use Rattle.c_expressions.proofs.tokens.number_of.Given as goal

abbrev pub invariant-loop-byte : goal.invariant-loop-byte
invariant-loop-byte l = number_on l.base (Some l.number) (drop l.byte-index l.digits) ≡ number_of l.base l.digits

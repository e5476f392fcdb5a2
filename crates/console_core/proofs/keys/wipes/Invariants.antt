use Rattle.std.proofs.Common.{◌≡◌, ◌*◌, length}
use Rattle.console_core.specs.Keys.{wipes}
use Rattle.console_core.proofs.keys.wipes.Given as goal

abbrev pub invariant-loop-wiped : goal.invariant-loop-wiped
invariant-loop-wiped l = record {
  bytes : l.echo.items ≡ wipes l.wiped;
  count : length l.echo.items ≡ 3 * l.wiped;
}

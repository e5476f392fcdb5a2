use Rattle.debug_info.proofs.Prelude.{[], ◌≡◌, string_bytes}
use Rattle.debug_info.proofs.rows.rows_text.Given as goal

abbrev pub invariant-loop-variable : goal.invariant-loop-variable
invariant-loop-variable g l = l.variables ≡ [] → string_bytes l.text ≡ []

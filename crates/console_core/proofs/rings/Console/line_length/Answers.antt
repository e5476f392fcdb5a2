use Rattle.std.proofs.Common.{◌≡◌, ◌∙◌, ◌≤◌, ℕ, List, Option, Some, None, cond, ltb, length, arith, rules, tests}
use Rattle.std.specs.Prelude.{unwrap_or}
use Rattle.std.proofs.lemmas.Bool.Decides.{nat_tests}
use Rattle.std.proofs.lemmas.List.Sums.{prefix_len-le-length}
use Rattle.std.proofs.lemmas.Iterator.Search.{position_from_yields_List}
use Rattle.std.proofs.lemmas.Iterator.Consumers.{YieldsList-from_rest}
use Rattle.console_core.specs.Reads.{ends_read, line_length}
use Rattle.console_core.proofs.rings.Console.line_length.Goals as goal

-- the place that was found, or else the length, is the place or the length
place_or_length : (k n : ℕ) → k ≤ n → unwrap_or (cond (ltb k n) (Some k) None) n ≡ k
place_or_length k n h = grind (arith, nat_tests)

-- the same for a place that was looked for in these bytes
length_from_found : (found : Option ℕ) (n : ℕ) (items bytes : List ℕ) → found ≡ cond (ltb (line_length items) (length items)) (Some (line_length items)) None → items ≡ bytes → n ≡ length bytes
    → unwrap_or found n ≡ line_length bytes
length_from_found found n items bytes is same len = rw (is, same, len) (place_or_length (line_length bytes) (length bytes) (prefix_len-le-length _ bytes))

pub returns-clause-value : goal.returns-clause-value
returns-clause-value c =
    let bytes = c.args.self.now.committed in
    let same : c.iter.result ≡ bytes = cc in
    let len : c.committed.result ≡ length bytes = cc in
    let found = position_from_yields_List ends_read _ _ c.position.result c.position.ensures.ran (YieldsList-from_rest c.iter.result cc) (λ x b q k. search (rules, tests)) in
    c.unwrap_or.ensures ∙ length_from_found c.position.result c.committed.result c.iter.result bytes found same len

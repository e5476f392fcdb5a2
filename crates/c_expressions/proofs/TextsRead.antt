-- Texts that are expressions, and texts that are none.
use Rattle.std.proofs.Common.{◌≡◌, ℕ, ◌<◌, List, length, map, subst, Some, None}
use Rattle.std.specs.Borrow.{Bor}
use Rattle.c_expressions.specs.Grammar.{IsExpressionOf, IsNoExpression}
use Rattle.c_expressions.specs.ReadErrors.{Refuses}
use Rattle.c_expressions.specs.Tokens.{seen, tokens_in}
use Rattle.c_expressions.specs.Written.{IsExpressionText, IsNoExpressionText, no_expression, no_tokens}
use Rattle.c_expressions.specs.declared.expression.Step.{Step}
use Rattle.c_expressions.specs.declared.parser.ReadError.{ReadError}
use Rattle.c_expressions.specs.declared.parser.ReadError.TheVariants.{Memory, NoExpression}
use Rattle.c_expressions.specs.declared.tokens.Token.{Token}

pub written : (text : List ℕ) (tokens slice : List Token) (name : Bor (List ℕ)) (taken : List Step) → tokens_in text ≡ Some (map seen tokens) → slice ≡ tokens → IsExpressionOf slice name taken
    → IsExpressionText text name taken
written text tokens slice name taken parted same is = record { tokens = tokens; parted = parted; is = subst (λ (ts : List Token). IsExpressionOf ts name taken) same is }

pub unwritten : (e : ReadError) (text : List ℕ) (tokens slice : List Token) → tokens_in text ≡ Some (map seen tokens) → slice ≡ tokens → Refuses (length slice < 64 → IsNoExpression slice) e
    → Refuses (IsNoExpressionText text) e
unwritten Memory text tokens slice parted same r = tt
unwritten NoExpression text tokens slice parted same r =
    no_expression tokens parted (subst (λ (ts : List Token). length ts < 64 → IsNoExpression ts) same r)

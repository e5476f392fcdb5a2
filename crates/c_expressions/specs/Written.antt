-- Expressions as they are written.
use Rattle.std.specs.Prelude.{◌≡◌, ◌<◌, ℕ, List, length, map, Some, None}
use Rattle.std.specs.Borrow.{Bor}
use Rattle.c_expressions.specs.Grammar.{IsExpressionOf, IsNoExpression}
use Rattle.c_expressions.specs.Tokens.{seen, tokens_in}
use Rattle.c_expressions.specs.declared.expression.Step.{Step}
use Rattle.c_expressions.specs.declared.tokens.Token.{Token}

-- The tokens of this text are an expression of the variable of this name, and these are its steps
pub record IsExpressionText (text : List ℕ) (name : Bor (List ℕ)) (taken : List Step) : Type 0 where
  pub tokens : List Token
  pub parted : tokens_in text ≡ Some (map seen tokens)
  pub is : IsExpressionOf tokens name taken

-- A text is none if a piece of it is no token, or its tokens are none. Nothing is said of 64 tokens and more
pub data IsNoExpressionText (text : List ℕ) : Type 0 where
  no_tokens : tokens_in text ≡ None → IsNoExpressionText text
  no_expression : (tokens : List Token) → tokens_in text ≡ Some (map seen tokens) → (length tokens < 64 → IsNoExpression tokens) → IsNoExpressionText text

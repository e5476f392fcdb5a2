-- What may stand behind an expression (C17, section 6.5.2).
use Rattle.std.specs.Prelude.{List, [], ◌∷◌}
use Rattle.c_expressions.specs.declared.expression.Step.{Step}
use Rattle.c_expressions.specs.declared.expression.Step.TheVariants as steps
use Rattle.c_expressions.specs.declared.parser.Behind.{Behind}
use Rattle.c_expressions.specs.declared.parser.Behind.TheVariants.{Member, Arrow, Element}
use Rattle.c_expressions.specs.declared.tokens.Token.{Token}
use Rattle.c_expressions.specs.declared.tokens.Token.TheVariants as tokens

-- its tokens, as they are written
abbrev pub written : Behind → List Token
written (Member name) = tokens.Dot ∷ tokens.Name name ∷ []
written (Arrow name) = tokens.Arrow ∷ tokens.Name name ∷ []
written (Element number) = tokens.Left ∷ tokens.Number number ∷ tokens.Right ∷ []

-- the steps that it takes: `->name` is where the pointer leads, and then the member
abbrev pub steps_behind : Behind → List Step
steps_behind (Member name) = steps.Member name ∷ []
steps_behind (Arrow name) = steps.Target ∷ steps.Member name ∷ []
steps_behind (Element number) = steps.Index number ∷ []

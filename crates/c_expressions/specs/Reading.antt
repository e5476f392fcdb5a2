-- How expressions stand in tokens, one after another: what stands first decides (C17, sections 6.5.1 to 6.5.3).
use Rattle.std.specs.Prelude.{◌≡◌, ℕ, Bool, true, false, List, [], ◌∷◌, ◌++◌, Option, Some, None}
use Rattle.std.specs.Borrow.{Bor}
use Rattle.c_expressions.specs.declared.expression.Step.{Step}
use Rattle.c_expressions.specs.declared.expression.Step.TheVariants as steps
use Rattle.c_expressions.specs.declared.tokens.Token.{Token}
use Rattle.c_expressions.specs.declared.tokens.Token.TheVariants.{Name, Number, Dot, Arrow, Left, Right, Open, Close, Star, And}

-- what stands behind a closed expression: the steps that it takes, and the tokens that are left
pub record Tail : Type 0 where
  pub taken : List Step
  pub rest : List Token

abbrev pub taking : List Step → Tail → Tail
taking steps tail = record { taken = steps ++ tail.taken; rest = tail.rest }

abbrev pub nothing : List Token → Tail
nothing tokens = record { taken = []; rest = tokens }

-- members and elements, as many as stand there
abbrev pub behind : List Token → Tail
behind (Dot ∷ Name m ∷ tokens) = taking (steps.Member m ∷ []) (behind tokens)
behind (Arrow ∷ Name m ∷ tokens) = taking (steps.Target ∷ steps.Member m ∷ []) (behind tokens)
behind (Left ∷ Number n ∷ Right ∷ tokens) = taking (steps.Index n ∷ []) (behind tokens)
behind tokens = nothing tokens

-- an expression that stands first: its name, the steps that it takes, and the tokens that are left
pub record Reading : Type 0 where
  pub name : Bor (List ℕ)
  pub taken : List Step
  pub rest : List Token

-- after some steps of an expression of this name
abbrev pub after : Bor (List ℕ) → List Step → Tail → Reading
after name steps tail = record { name = name; taken = steps ++ tail.taken; rest = tail.rest }

abbrev pub and_step : Step → Option Reading → Option Reading
and_step step (Some reading) = Some (record { name = reading.name; taken = reading.taken ++ step ∷ []; rest = reading.rest })
and_step step None = None

-- a bracket closes, and something may stand behind it
abbrev pub closed : Bor (List ℕ) → List Step → List Token → Option Reading
closed name steps (Close ∷ tokens) = Some (after name steps (behind tokens))
closed name steps tokens = None

abbrev pub in_brackets : Option Reading → Option Reading
in_brackets (Some reading) = closed reading.name reading.taken reading.rest
in_brackets None = None

abbrev pub reading : List Token → Option Reading
reading (Name name ∷ tokens) = Some (after name [] (behind tokens))
reading (Open ∷ tokens) = in_brackets (reading tokens)
reading (Star ∷ tokens) = and_step steps.Target (reading tokens)
reading (And ∷ tokens) = and_step steps.Address (reading tokens)
reading tokens = None

-- ---- what is read

-- the first token is a name; a bracket of an element that closes; a number, and such a bracket
abbrev pub begins_name : List Token → Bool
begins_name (Name name ∷ tokens) = true
begins_name tokens = false

abbrev pub begins_right : List Token → Bool
begins_right (Right ∷ tokens) = true
begins_right tokens = false

abbrev pub begins_close : List Token → Bool
begins_close (Close ∷ tokens) = true
begins_close tokens = false

abbrev pub begins_number : List Token → Bool
begins_number (Number n ∷ Right ∷ tokens) = true
begins_number tokens = false

-- this is what stands behind a closed expression, and its steps are put after older ones
pub record IsTail (tail : Tail) (rest : List Token) (old new : List Step) : Type 0 where
  pub rest_is : rest ≡ tail.rest
  pub added : new ≡ old ++ tail.taken

-- this is the expression that stands first, and its steps are put after older ones
pub record IsReading (found : Option Reading) (name : Bor (List ℕ)) (rest : List Token) (old new : List Step) : Type 0 where
  pub taken : List Step
  pub is : found ≡ Some (record { name = name; taken = taken; rest = rest })
  pub added : new ≡ old ++ taken

-- Expressions of C that select a part of a variable's value (C17, sections 6.5.1 to 6.5.3).
use Rattle.std.specs.Prelude.{◌≡◌, ℕ, Bool, true, false, List, [], ◌∷◌, ◌++◌}
use Rattle.std.specs.Borrow.{Bor}
use Rattle.c_expressions.specs.declared.expression.Step.{Step}
use Rattle.c_expressions.specs.declared.expression.Step.TheVariants as steps
use Rattle.c_expressions.specs.declared.tokens.Token.{Token}
use Rattle.c_expressions.specs.declared.tokens.Token.TheVariants.{Name, Number, Dot, Arrow, Left, Right, Open, Close, Star, And}

-- These tokens are an expression of the variable of this name, and these steps lead from the variable's value to what it selects, the first one first. Behind a closed expression something may stand: so `*p->next` is `*(p->next)`
pub data IsExpression (name : Bor (List ℕ)) : (is_closed : Bool) → (tokens : List Token) → (taken : List Step) → Type 0 where
  -- a name alone takes no step
  alone : IsExpression name true (Name name ∷ []) []
  -- `(e)` takes those of e
  brackets : {c : Bool} {ts : List Token} {ss : List Step} → IsExpression name c ts ss → IsExpression name true (Open ∷ ts ++ Close ∷ []) ss
  -- `e.m` goes on to the member m
  member : {ts : List Token} {ss : List Step} → IsExpression name true ts ss → (m : Bor (List ℕ)) → IsExpression name true (ts ++ Dot ∷ Name m ∷ []) (ss ++ steps.Member m ∷ [])
  -- `e->m` goes on to where e leads, and from there to the member m
  arrow : {ts : List Token} {ss : List Step} → IsExpression name true ts ss → (m : Bor (List ℕ)) → IsExpression name true (ts ++ Arrow ∷ Name m ∷ []) (ss ++ steps.Target ∷ steps.Member m ∷ [])
  -- `e[n]` goes on to the element n
  element : {ts : List Token} {ss : List Step} → IsExpression name true ts ss → (n : ℕ) → IsExpression name true (ts ++ Left ∷ Number n ∷ Right ∷ []) (ss ++ steps.Index n ∷ [])
  -- `*e` goes on to where e leads
  target : {c : Bool} {ts : List Token} {ss : List Step} → IsExpression name c ts ss → IsExpression name false (Star ∷ ts) (ss ++ steps.Target ∷ [])
  -- `&e` goes on to the address of e
  address : {c : Bool} {ts : List Token} {ss : List Step} → IsExpression name c ts ss → IsExpression name false (And ∷ ts) (ss ++ steps.Address ∷ [])

-- All of these tokens are such an expression
pub record IsExpressionOf (tokens : List Token) (name : Bor (List ℕ)) (taken : List Step) : Type 0 where
  pub is_closed : Bool
  pub is : IsExpression name is_closed tokens taken

-- No name and no steps make these tokens one
abbrev pub IsNoExpression : (tokens : List Token) → Type 0
IsNoExpression tokens = (name : Bor (List ℕ)) (taken : List Step) → IsExpressionOf tokens name taken → ⊥

-- The first tokens are one, the others are left, and its steps are put after older ones
pub record IsRead (tokens : List Token) (name : Bor (List ℕ)) (rest : List Token) (old new : List Step) : Type 0 where
  pub is_closed : Bool
  pub read : List Token
  pub taken : List Step
  pub split : tokens ≡ read ++ rest
  pub added : new ≡ old ++ taken
  pub is : IsExpression name is_closed read taken

-- The first tokens make a longer expression of each closed one behind which they stand
pub record IsBehind (tokens rest : List Token) (old new : List Step) : Type 0 where
  pub read : List Token
  pub taken : List Step
  pub split : tokens ≡ read ++ rest
  pub added : new ≡ old ++ taken
  pub longer : (name : Bor (List ℕ)) (ts : List Token) (ss : List Step) → IsExpression name true ts ss → IsExpression name true (ts ++ read) (ss ++ taken)

-- Worked expressions.
use Rattle.std.specs.Prelude.{ℕ, true, false, List, [], ◌∷◌}
use Rattle.std.specs.Borrow.{Bor}
use Rattle.c_expressions.specs.Grammar.{IsExpression, address, alone, arrow, brackets, element, member, target}
use Rattle.c_expressions.specs.declared.expression.Step.TheVariants as steps
use Rattle.c_expressions.specs.declared.tokens.Token.TheVariants.{Name, Number, Dot, Arrow, Left, Right, Open, Close, Star, And}

-- `*p->next`: what stands behind is done first
behind_first : (p next : Bor (List ℕ)) → IsExpression p false (Star ∷ Name p ∷ Arrow ∷ Name next ∷ []) (steps.Target ∷ steps.Member next ∷ steps.Target ∷ [])
behind_first p next = target (arrow alone next)

-- `(*p).next` takes the same steps as `p->next`
in_brackets : (p next : Bor (List ℕ)) → IsExpression p true (Open ∷ Star ∷ Name p ∷ Close ∷ Dot ∷ Name next ∷ []) (steps.Target ∷ steps.Member next ∷ [])
in_brackets p next = member (brackets (target alone)) next

by_arrow : (p next : Bor (List ℕ)) → IsExpression p true (Name p ∷ Arrow ∷ Name next ∷ []) (steps.Target ∷ steps.Member next ∷ [])
by_arrow p next = arrow alone next

-- `&grid[1][2]`
of_elements : (grid : Bor (List ℕ)) → IsExpression grid false (And ∷ Name grid ∷ Left ∷ Number 1 ∷ Right ∷ Left ∷ Number 2 ∷ Right ∷ []) (steps.Index 1 ∷ steps.Index 2 ∷ steps.Address ∷ [])
of_elements grid = address (element (element alone 1) 2)

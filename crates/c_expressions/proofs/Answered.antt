-- What is told by tables, or if they tell nothing, is an answer.
use Rattle.std.proofs.Common.{◌≡◌, ℕ, List, Option, None, Some, inl, inr, refl, subst}
use Rattle.c_expressions.specs.Answers.{IsAnswer, IsOfNothing, IsToldBy, MayBeTold}
use Rattle.c_expressions.specs.declared.asked.Asked.{Asked}
use Rattle.c_expressions.specs.declared.asked.Asked.TheVariants.{Value, Hexadecimal, Locals, Arguments, «Type» as OfType, Layout}

module _ (file : List ℕ) (address : ℕ) (registers memory : ℕ → Option ℕ) where
  pub of-some : (asked : Asked) (text : List ℕ) → MayBeTold file address registers memory asked (Some text) → IsAnswer file address registers memory asked (Some text)
  of-some (Value it) text told = told
  of-some (Hexadecimal it) text told = told
  of-some Locals text told = refl
  of-some Arguments text told = refl
  of-some (OfType it) text told = refl
  of-some (Layout it) text told = refl

  pub of-none : (asked : Asked) (line : Option (List ℕ)) → IsOfNothing asked line → IsAnswer file address registers memory asked line
  of-none (Value it) line nothing = inl nothing
  of-none (Hexadecimal it) line nothing = inl nothing
  of-none Locals line some = some
  of-none Arguments line some = some
  of-none (OfType it) line some = some
  of-none (Layout it) line some = some

  -- a call stands where its frame does
  pub in-frame : (asked : Asked) (line : Option (List ℕ)) (at : ℕ) → at ≡ address → IsToldBy file at registers memory asked line → MayBeTold file address registers memory asked line
  in-frame asked line at same told = inr (subst (λ place. IsToldBy file place registers memory asked line) same told)

-- What is read of the tokens of an expression, as the grammar has it.
use Rattle.std.proofs.Common.{◌≡◌, ◌∙◌, ℕ, ◌<◌, ◌≤◌, ◌-◌, List, [], ◌∷◌, ◌++◌, length, true, false, refl, sym, ap, Option, Some, None, arith}
use Rattle.std.proofs.lemmas.Bool.{true≢false}
use Rattle.std.specs.Borrow.{Bor}
use Rattle.c_expressions.specs.Grammar.{IsNoExpression}
use Rattle.c_expressions.specs.ReadErrors.{Refuses}
use Rattle.c_expressions.specs.Reading.{IsReading, IsTail, Reading, and_step, begins_close}
use Rattle.c_expressions.specs.Reading.{behind, closed, in_brackets, reading}
use Rattle.c_expressions.specs.declared.expression.Step.{Step}
use Rattle.c_expressions.specs.declared.expression.Step.TheVariants as steps
use Rattle.c_expressions.specs.declared.parser.ReadError.{ReadError}
use Rattle.c_expressions.specs.declared.parser.ReadError.TheVariants.{Memory, NoExpression}
use Rattle.c_expressions.specs.declared.tokens.Token.{Token}
use Rattle.c_expressions.specs.declared.tokens.Token.TheVariants.{Name, Number, Dot, Arrow, Left, Right, Open, Close, Star, And}
use Rattle.c_expressions.proofs.Complete.{all-of}
use Rattle.c_expressions.proofs.Longer.{added-twice}

abbrev made : Bor (List ℕ) → List Step → List Token → Option Reading
made name taken rest = Some (record { name = name; taken = taken; rest = rest })

-- ---- expressions

pub name-reads : (name : Bor (List ℕ)) (tokens rest left : List Token) (old new : List Step) → tokens ≡ Name name ∷ rest → IsTail (behind rest) left old new
    → IsReading (reading tokens) name left old new
name-reads name tokens rest left old new first tail = record {
  taken = (behind rest).taken;
  is = ap reading first ∙ ap (made name (behind rest).taken) (sym tail.rest_is);
  added = tail.added;
}

pub star-reads : (name : Bor (List ℕ)) (tokens rest left : List Token) (old mid new : List Step) → tokens ≡ Star ∷ rest → IsReading (reading rest) name left old mid → new ≡ mid ++ steps.Target ∷ []
    → IsReading (reading tokens) name left old new
star-reads name tokens rest left old mid new first r added = record {
  taken = r.taken ++ steps.Target ∷ [];
  is = ap reading first ∙ ap (and_step steps.Target) r.is;
  added = added-twice old mid new r.taken (steps.Target ∷ []) added r.added;
}

pub and-reads : (name : Bor (List ℕ)) (tokens rest left : List Token) (old mid new : List Step) → tokens ≡ And ∷ rest → IsReading (reading rest) name left old mid → new ≡ mid ++ steps.Address ∷ []
    → IsReading (reading tokens) name left old new
and-reads name tokens rest left old mid new first r added = record {
  taken = r.taken ++ steps.Address ∷ [];
  is = ap reading first ∙ ap (and_step steps.Address) r.is;
  added = added-twice old mid new r.taken (steps.Address ∷ []) added r.added;
}

pub brackets-read : (name : Bor (List ℕ)) (tokens rest inner outer left : List Token) (old mid new : List Step) → tokens ≡ Open ∷ rest → IsReading (reading rest) name inner old mid
    → inner ≡ Close ∷ outer → IsTail (behind outer) left mid new → IsReading (reading tokens) name left old new
brackets-read name tokens rest inner outer left old mid new first r close tail = record {
  taken = r.taken ++ (behind outer).taken;
  is = ap reading first ∙ ap in_brackets r.is ∙ ap (closed name r.taken) close ∙ ap (made name (r.taken ++ (behind outer).taken)) (sym tail.rest_is);
  added = added-twice old mid new r.taken (behind outer).taken tail.added r.added;
}

-- ---- all tokens

no-reading : (r : Option Reading) (name : Bor (List ℕ)) (taken : List Step) → r ≡ None → r ≡ made name taken [] → ⊥
no-reading r name taken none some = let same : true ≡ false = cc in true≢false same

pub unread_refused : (e : ReadError) (tokens : List Token) → Refuses (length tokens < 64 → reading tokens ≡ None) e → Refuses (length tokens < 64 → IsNoExpression tokens) e
unread_refused Memory tokens r = tt
unread_refused NoExpression tokens r = λ few name taken is. no-reading (reading tokens) name taken (r few) (all-of tokens name taken is)

abbrev left_of : Option Reading → List Token
left_of (Some r) = r.rest
left_of None = []

pub rest_refused : (tokens rest : List Token) (name : Bor (List ℕ)) (old new : List Step) → IsReading (reading tokens) name rest old new → (length rest ≡ 0 → ⊥) → IsNoExpression tokens
rest_refused tokens rest name old new r some own taken is = some (ap (λ (found : Option Reading). length (left_of found)) (sym r.is ∙ all-of tokens own taken is))

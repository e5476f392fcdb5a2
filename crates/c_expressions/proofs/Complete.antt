-- Each expression is read as it is: the grammar has one reading of it.
use Rattle.std.proofs.Common.{◌≡◌, ◌∙◌, ℕ, List, [], ◌∷◌, ◌++◌, append-nil, append_assoc, Bool, true, false, refl, sym, ap, Option, Some}
use Rattle.std.specs.Borrow.{Bor}
use Rattle.c_expressions.specs.Grammar.{IsExpression, IsExpressionOf, alone, brackets, member, arrow, element, target, address}
use Rattle.c_expressions.specs.Reading.{Reading, Tail, after, and_step, behind, in_brackets, nothing, reading, taking}
use Rattle.c_expressions.specs.declared.expression.Step.{Step}
use Rattle.c_expressions.specs.declared.expression.Step.TheVariants as steps
use Rattle.c_expressions.specs.declared.tokens.Token.{Token}
use Rattle.c_expressions.specs.declared.tokens.Token.TheVariants.{Name, Number, Dot, Arrow, Left, Right, Open, Close}

-- behind an expression that isn't closed nothing stands
abbrev Ends : Bool → List Token → Type 0
Ends true rest = Unit {0}
Ends false rest = behind rest ≡ nothing rest

ends-any : (c : Bool) (rest : List Token) → behind rest ≡ nothing rest → Ends c rest
ends-any true rest e = tt
ends-any false rest e = e

abbrev Whole : Bor (List ℕ) → Bool → List Token → List Step → Type 0
Whole name c ts ss = (rest : List Token) → Ends c rest → reading (ts ++ rest) ≡ Some (after name ss (behind rest))

made : Bor (List ℕ) → List Token → List Step → Option Reading
made name rest taken = Some (record { name = name; taken = taken; rest = rest })

-- some steps, and then those of what stands behind
regrouped : (name : Bor (List ℕ)) (ss one : List Step) (tail : Tail) → Some (after name ss (taking one tail)) ≡ Some (after name (ss ++ one) tail)
unfolding made
regrouped name ss one tail = ap (made name tail.rest) (sym (append_assoc ss one tail.taken))

-- what stands right behind a closed expression makes it longer
longer : (name : Bor (List ℕ)) (ts first : List Token) (ss one : List Step) → ((rest : List Token) → behind (first ++ rest) ≡ taking one (behind rest)) → Whole name true ts ss
    → Whole name true (ts ++ first) (ss ++ one)
longer name ts first ss one grows whole rest end =
    ap reading (append_assoc ts first rest) ∙ whole (first ++ rest) tt ∙ ap (λ (t : Tail). Some (after name ss t)) (grows rest) ∙ regrouped name ss one (behind rest)

-- a sign before an expression
before : (name : Bor (List ℕ)) (rest : List Token) (ss : List Step) (step : Step) → behind rest ≡ nothing rest
    → and_step step (Some (after name ss (behind rest))) ≡ Some (after name (ss ++ step ∷ []) (behind rest))
unfolding made
before name rest ss step end =
    ap (λ (t : Tail). and_step step (Some (after name ss t))) end ∙ ap (made name rest) (ap (λ (s : List Step). s ++ step ∷ []) (append-nil ss) ∙ sym (append-nil (ss ++ step ∷ [])))
    ∙ ap (λ (t : Tail). Some (after name (ss ++ step ∷ []) t)) (sym end)

around : (name : Bor (List ℕ)) (c : Bool) (ts : List Token) (ss : List Step) → Whole name c ts ss → Whole name true (Open ∷ ts ++ Close ∷ []) ss
around name c ts ss whole rest end =
    ap (λ (t : List Token). in_brackets (reading t)) (append_assoc ts (Close ∷ []) rest) ∙ ap in_brackets (whole (Close ∷ rest) (ends-any c (Close ∷ rest) refl))
    ∙ ap (λ (s : List Step). Some (after name s (behind rest))) (append-nil ss)

whole : (name : Bor (List ℕ)) (c : Bool) (ts : List Token) (ss : List Step) → IsExpression name c ts ss → Whole name c ts ss
whole name true ts ss alone rest end = refl
whole name true ts ss (brackets {c = c} {ts = us} {ss = rs} e) rest end = around name c us rs (whole name c us rs e) rest end
whole name true ts ss (member {ts = us} {ss = rs} e m) rest end = longer name us (Dot ∷ Name m ∷ []) rs (steps.Member m ∷ []) (λ r. refl) (whole name true us rs e) rest end
whole name true ts ss (arrow {ts = us} {ss = rs} e m) rest end = longer name us (Arrow ∷ Name m ∷ []) rs (steps.Target ∷ steps.Member m ∷ []) (λ r. refl) (whole name true us rs e) rest end
whole name true ts ss (element {ts = us} {ss = rs} e n) rest end = longer name us (Left ∷ Number n ∷ Right ∷ []) rs (steps.Index n ∷ []) (λ r. refl) (whole name true us rs e) rest end
whole name false ts ss (target {c = c} {ts = us} {ss = rs} e) rest end = ap (and_step steps.Target) (whole name c us rs e rest (ends-any c rest end)) ∙ before name rest rs steps.Target end
whole name false ts ss (address {c = c} {ts = us} {ss = rs} e) rest end = ap (and_step steps.Address) (whole name c us rs e rest (ends-any c rest end)) ∙ before name rest rs steps.Address end

-- an expression that all tokens are is read to the last one
pub all-of : (tokens : List Token) (name : Bor (List ℕ)) (taken : List Step) → IsExpressionOf tokens name taken → reading tokens ≡ Some (record { name = name; taken = taken; rest = [] })
unfolding made
all-of tokens name taken e =
    ap reading (sym (append-nil tokens)) ∙ whole name e.is_closed tokens taken e.is [] (ends-any e.is_closed [] refl) ∙ ap (made name []) (append-nil taken)

-- How an expression grows: by what stands behind it, and by what stands before it.
use Rattle.std.specs.Prelude.{◌≡◌, ℕ, Bool, true, false, List, [], ◌∷◌, ◌++◌, refl}
use Rattle.std.proofs.Common.{◌∙◌, ap, sym, subst}
use Rattle.std.proofs.lemmas.List.{append_assoc, append-nil}
use Rattle.std.specs.Borrow.{Bor}
use Rattle.c_expressions.specs.Behind.{steps_behind, written}
use Rattle.c_expressions.specs.declared.parser.Behind.{Behind}
use Rattle.c_expressions.specs.declared.parser.Behind.TheVariants as ways
use Rattle.c_expressions.specs.Grammar.{IsBehind, IsExpression, IsExpressionOf, IsRead, member, arrow, element, target, address, brackets, alone}
use Rattle.c_expressions.specs.declared.expression.Step.{Step}
use Rattle.c_expressions.specs.declared.expression.Step.TheVariants as steps
use Rattle.c_expressions.specs.declared.tokens.Token.{Token}
use Rattle.c_expressions.specs.declared.tokens.Token.TheVariants.{Name, Open, Close, Star, And}

-- lists that are put together one after another
pub added-twice : (old mid new one two : List Step) → new ≡ mid ++ two → mid ≡ old ++ one → new ≡ old ++ (one ++ two)
added-twice old mid new one two second first = second ∙ ap (λ x. x ++ two) first ∙ append_assoc old one two

-- two equations of tokens and of steps move an expression
moved : (name : Bor (List ℕ)) (c : Bool) (ts us : List Token) (ss rs : List Step) → ts ≡ us → ss ≡ rs → IsExpression name c ts ss → IsExpression name c us rs
moved name c ts us ss rs same_tokens same_steps e = subst (λ x. IsExpression name c us x) same_steps (subst (λ x. IsExpression name c x ss) same_tokens e)

-- nothing stands behind
pub nothing-behind : (tokens : List Token) (held : List Step) → IsBehind tokens tokens held held
nothing-behind tokens held = record {
  read = [];
  taken = [];
  split = refl;
  added = sym (append-nil held);
  longer = λ name ts ss e. moved name true ts (ts ++ []) ss (ss ++ []) (sym (append-nil ts)) (sym (append-nil ss)) e;
}

-- some tokens, behind which others stand, make each closed expression longer by some steps
behind : (first after rest : List Token) (steps_first : List Step) (old mid new : List Step)
    → ((name : Bor (List ℕ)) (ts : List Token) (ss : List Step) → IsExpression name true ts ss → IsExpression name true (ts ++ first) (ss ++ steps_first))
    → mid ≡ old ++ steps_first → IsBehind after rest mid new → IsBehind (first ++ after) rest old new
behind first after rest steps_first old mid new grows added b = record {
  read = first ++ b.read;
  taken = steps_first ++ b.taken;
  split = ap (λ x. first ++ x) b.split ∙ sym (append_assoc first b.read rest);
  added = added-twice old mid new steps_first b.taken b.added added;
  longer = λ name ts ss e. moved name true ((ts ++ first) ++ b.read) (ts ++ (first ++ b.read)) ((ss ++ steps_first) ++ b.taken) (ss ++ (steps_first ++ b.taken))
      (append_assoc ts first b.read) (append_assoc ss steps_first b.taken) (b.longer name (ts ++ first) (ss ++ steps_first) (grows name ts ss e));
}

grows : (b : Behind) (name : Bor (List ℕ)) (ts : List Token) (ss : List Step) → IsExpression name true ts ss → IsExpression name true (ts ++ written b) (ss ++ steps_behind b)
grows (ways.Member m) name ts ss e = member e m
grows (ways.Arrow m) name ts ss e = arrow e m
grows (ways.Element n) name ts ss e = element e n

-- something stands behind, and more behind that
pub more-behind : (b : Behind) (tokens after rest : List Token) (old mid new : List Step) → tokens ≡ written b ++ after → mid ≡ old ++ steps_behind b
    → IsBehind after rest mid new → IsBehind tokens rest old new
more-behind b tokens after rest old mid new split added more =
    subst (λ x. IsBehind x rest old new) (sym split) (behind (written b) after rest (steps_behind b) old mid new (grows b) added more)

-- an expression behind a star, behind an and-sign, and between brackets
pub star-before : (name : Bor (List ℕ)) (tokens after rest : List Token) (old mid new : List Step) → tokens ≡ Star ∷ after → IsRead after name rest old mid
    → new ≡ mid ++ steps.Target ∷ [] → IsRead tokens name rest old new
star-before name tokens after rest old mid new first r added = record {
  is_closed = false;
  read = Star ∷ r.read;
  taken = r.taken ++ steps.Target ∷ [];
  split = first ∙ ap (λ x. Star ∷ x) r.split;
  added = added-twice old mid new r.taken (steps.Target ∷ []) added r.added;
  is = target r.is;
}

pub and-before : (name : Bor (List ℕ)) (tokens after rest : List Token) (old mid new : List Step) → tokens ≡ And ∷ after → IsRead after name rest old mid
    → new ≡ mid ++ steps.Address ∷ [] → IsRead tokens name rest old new
and-before name tokens after rest old mid new first r added = record {
  is_closed = false;
  read = And ∷ r.read;
  taken = r.taken ++ steps.Address ∷ [];
  split = first ∙ ap (λ x. And ∷ x) r.split;
  added = added-twice old mid new r.taken (steps.Address ∷ []) added r.added;
  is = address r.is;
}

-- a closed expression, and what stands behind it
closed-behind : (name : Bor (List ℕ)) (first after rest : List Token) (steps_first old mid new : List Step) → IsExpression name true first steps_first → mid ≡ old ++ steps_first
    → IsBehind after rest mid new → IsRead (first ++ after) name rest old new
closed-behind name first after rest steps_first old mid new e added b = record {
  is_closed = true;
  read = first ++ b.read;
  taken = steps_first ++ b.taken;
  split = ap (λ x. first ++ x) b.split ∙ sym (append_assoc first b.read rest);
  added = added-twice old mid new steps_first b.taken b.added added;
  is = b.longer name first steps_first e;
}

pub name-before : (name : Bor (List ℕ)) (tokens after rest : List Token) (old new : List Step) → tokens ≡ Name name ∷ after → IsBehind after rest old new → IsRead tokens name rest old new
name-before name tokens after rest old new first b =
    subst (λ x. IsRead x name rest old new) (sym first) (closed-behind name (Name name ∷ []) after rest [] old old new alone (sym (append-nil old)) b)

pub brackets-around : (name : Bor (List ℕ)) (tokens inner closing behind rest : List Token) (old mid new : List Step) → tokens ≡ Open ∷ inner → IsRead inner name closing old mid
    → closing ≡ Close ∷ behind → IsBehind behind rest mid new → IsRead tokens name rest old new
brackets-around name tokens inner closing behind rest old mid new first r close b =
    let whole : IsRead ((Open ∷ r.read ++ Close ∷ []) ++ behind) name rest old new
    = closed-behind name (Open ∷ r.read ++ Close ∷ []) behind rest r.taken old mid new (brackets r.is) r.added b in
    let inside : r.read ++ (Close ∷ behind) ≡ inner = ap (λ x. r.read ++ x) (sym close) ∙ sym r.split in
    subst (λ x. IsRead x name rest old new) (ap (λ x. Open ∷ x) (append_assoc r.read (Close ∷ []) behind ∙ inside) ∙ sym first) whole

-- all tokens are read
pub all_read : (tokens : List Token) (name : Bor (List ℕ)) (rest : List Token) (old new : List Step) → IsRead tokens name rest old new → old ≡ [] → rest ≡ [] → IsExpressionOf tokens name new
all_read tokens name rest old new r empty none =
    let taken : new ≡ r.taken = r.added ∙ ap (λ x. x ++ r.taken) empty in
    record { is_closed = r.is_closed; is = moved name r.is_closed r.read tokens r.taken new (sym (append-nil r.read) ∙ sym (r.split ∙ ap (λ x. r.read ++ x) none)) (sym taken) r.is }

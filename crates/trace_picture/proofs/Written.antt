-- A picture that is written in parts.
use Rattle.std.proofs.Common.{◌≡◌, ◌∙◌, ℕ, ◌+◌, ◌<◌, List, [], ◌∷◌, ◌++◌, flat_map, get_or, length, take, Option, None, Some, sym, ap, subst, refl, append_assoc, append-nil}
use Rattle.std.specs.Prelude.{IfSome, OnOk, Result, Ok, Err}
use Rattle.std.proofs.lemmas.Grind.{flat_map-append}
use Rattle.std.proofs.lemmas.List.{take_more}
use Rattle.std.specs.Io.KnownBytes.{Appends, Keeps}
use Rattle.trace_picture.specs.Drawing.{Draws, IsPictureOf, Moves}

-- some bytes, and then others
pub appends-join : (a b c : Option (List ℕ)) (xs ys : List ℕ) → Appends a b xs → Appends b c ys → Appends a c (xs ++ ys)
appends-join None b c xs ys first next = tt
appends-join (Some was) None c xs ys first next = absurd first
appends-join (Some was) (Some mid) None xs ys first next = absurd next
appends-join (Some was) (Some mid) (Some is) xs ys first next = next ∙ ap (λ (zs : List ℕ). zs ++ ys) first ∙ append_assoc was xs ys

pub appends-none : (a : Option (List ℕ)) → Appends a a []
appends-none None = tt
appends-none (Some was) = sym (append-nil was)

pub appends-kept : (a b c : Option (List ℕ)) (xs : List ℕ) → Appends a b xs → Keeps b c → Appends a c xs
appends-kept None b c xs wrote kept = tt
appends-kept (Some was) None c xs wrote kept = absurd wrote
appends-kept (Some was) (Some mid) None xs wrote kept = absurd kept
appends-kept (Some was) (Some mid) (Some is) xs wrote kept = kept ∙ wrote

-- ---- parts

-- nothing is written
pub moves-none : (a : Option (List ℕ)) (text : List ℕ) → Moves a a text text
moves-none a text = ([], appends-none a, refl)

-- some is, and then more behind what was left
pub moves-more : (a b c : Option (List ℕ)) (old mid more longer new : List ℕ) → Moves a b old mid → longer ≡ mid ++ more → Moves b c longer new → Moves a c (old ++ more) new
moves-more a b c old mid more longer new first is next = (
  first.0 ++ next.0,
  appends-join a b c first.0 next.0 first.1 next.1,
  append_assoc first.0 next.0 new ∙ ap (λ (z : List ℕ). first.0 ++ z) (next.2 ∙ is) ∙ sym (append_assoc first.0 mid more) ∙ ap (λ (z : List ℕ). z ++ more) first.2,
)

-- and the rest
pub moves-end : (a b c : Option (List ℕ)) (old mid more longer : List ℕ) → Moves a b old mid → longer ≡ mid ++ more → Appends b c longer → Appends a c (old ++ more)
moves-end a b c old mid more longer first is next =
    subst (λ (z : List ℕ). Appends a c z)
    (ap (λ (z : List ℕ). first.0 ++ z) is ∙ sym (append_assoc first.0 mid more) ∙ ap (λ (z : List ℕ). z ++ more) first.2)
    (appends-join a b c first.0 longer first.1 next)

-- ---- a list, item by item

-- what is shown of one item more
pub one-more : {A : Type 0} (show : A → List ℕ) (front : List ℕ) (items : List A) (i : ℕ) (item : A) → i < length items → item ≡ get_or items i item
    → (front ++ flat_map show (take i items)) ++ show item ≡ front ++ flat_map show (take (i + 1) items)
one-more show front items i item within is =
    append_assoc front (flat_map show (take i items)) (show item)
    ∙ ap (λ (z : List ℕ). front ++ z) (sym (ap (flat_map show) (take_more items i item within)
    ∙ flat_map-append show (take i items) (get_or items i item ∷ [])
    ∙ ap (λ (z : List ℕ). flat_map show (take i items) ++ z) (append-nil (show (get_or items i item)) ∙ ap show (sym is))))

-- ---- the picture of a trace that was read

draws-kept : (text : List ℕ) (before after kept : Option (List ℕ)) → Draws (Some text) before after → Keeps after kept → Draws (Some text) before kept
draws-kept text before after kept drawn same = (drawn.0, drawn.1, appends-kept before after kept drawn.0 drawn.2 same)

pub whatever-comes : {T E P : Type 0} (r : Result T E) → P → OnOk r P
whatever-comes (Ok x) is = is
whatever-comes (Err e) is = tt

-- what was read is what the trace has
pub drawn : (trace before after kept : Option (List ℕ)) (text : List ℕ) → IfSome trace (λ xs. text ≡ xs) → Draws (Some text) before after → Keeps after kept → Draws trace before kept
drawn None before after kept text read is same = tt
drawn (Some xs) before after kept text read is same = subst (λ (t : List ℕ). Draws (Some t) before kept) read (draws-kept text before after kept is same)

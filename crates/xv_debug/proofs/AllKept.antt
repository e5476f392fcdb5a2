-- Marks that are kept one after another are those that are kept at once.
use Rattle.std.proofs.Common.{◌≡◌, ℕ, ◌+◌, ◌≤◌, ◌<◌, [], ◌∷◌, ◌++◌, ◌∙◌, List, Bool, refl, ap, sym, length, take, drop, get_or}
use Rattle.std.proofs.lemmas.List.{append_assoc, take-append-drop, take_all, take_at, take_more}
use Rattle.debug_words.specs.declared.vocabulary.Mark.{Mark}
use Rattle.debug_words.specs.declared.vocabulary.TheConstants.{MARKS_MOST}
use Rattle.xv_debug.specs.Kept.{next_mark, next_number, numbered_from}
use Rattle.xv_debug.specs.declared.kept.Kept.{Kept}

-- how many were made, once these are
abbrev pub made_after : (made : ℕ) → List Mark → ℕ
made_after made [] = made
made_after made (m ∷ ms) = made_after (next_number made) ms

numbered_append : (made : ℕ) (xs ys : List Mark) (once : Bool) → numbered_from made (xs ++ ys) once ≡ numbered_from made xs once ++ numbered_from (made_after made xs) ys once
numbered_append made [] ys once = refl
numbered_append made (x ∷ xs) ys once = ap (λ (rest : List Kept). next_mark made x once ∷ rest) (numbered_append (next_number made) xs ys once)

made_append : (made : ℕ) (xs ys : List Mark) → made_after made (xs ++ ys) ≡ made_after (made_after made xs) ys
made_append made [] ys = refl
made_append made (x ∷ xs) ys = made_append (next_number made) xs ys

-- one more of them is kept
pub one_more : (old : List Kept) (made : ℕ) (ms : List Mark) (once : Bool) (i : ℕ) (d : Mark) (now : List Kept) (then : ℕ) → i < length ms
    → now ≡ old ++ numbered_from made (take i ms) once → then ≡ made_after made (take i ms)
    → now ++ next_mark then (get_or ms i d) once ∷ [] ≡ old ++ numbered_from made (take (i + 1) ms) once
one_more old made ms once i d now then lt is are =
    ap (λ (xs : List Kept). xs ++ next_mark then (get_or ms i d) once ∷ []) is
    ∙ append_assoc old (numbered_from made (take i ms) once) (next_mark then (get_or ms i d) once ∷ [])
    ∙ ap (λ (n : ℕ). old ++ (numbered_from made (take i ms) once ++ next_mark n (get_or ms i d) once ∷ [])) are
    ∙ ap (λ (xs : List Kept). old ++ xs) (sym (numbered_append made (take i ms) (get_or ms i d ∷ []) once))
    ∙ ap (λ (xs : List Mark). old ++ numbered_from made xs once) (sym (take_more ms i d lt))

pub made_more : (made : ℕ) (ms : List Mark) (i : ℕ) (d : Mark) (then : ℕ) → i < length ms → then ≡ made_after made (take i ms) → next_number then ≡ made_after made (take (i + 1) ms)
made_more made ms i d then lt are =
    ap next_number are ∙ sym (made_append made (take i ms) (get_or ms i d ∷ [])) ∙ ap (made_after made) (sym (take_more ms i d lt))

-- there is no room for the others
pub full_stays : (old : List Kept) (made : ℕ) (ms : List Mark) (once : Bool) (i : ℕ) (now : List Kept)
    → now ≡ old ++ numbered_from made (take i ms) once → length now ≡ MARKS_MOST
    → now ≡ take MARKS_MOST (old ++ numbered_from made ms once)
full_stays old made ms once i now is full =
    let rest : List Kept = numbered_from (made_after made (take i ms)) (drop i ms) once in
    let all : old ++ numbered_from made ms once ≡ now ++ rest =
    ap (λ (xs : List Mark). old ++ numbered_from made xs once) (sym (take-append-drop i ms))
    ∙ ap (λ (xs : List Kept). old ++ xs) (numbered_append made (take i ms) (drop i ms) once)
    ∙ sym (append_assoc old (numbered_from made (take i ms) once) rest)
    ∙ ap (λ (xs : List Kept). xs ++ rest) (sym is) in
    sym (ap (take MARKS_MOST) all ∙ take_at now rest MARKS_MOST full)

-- all are kept
pub all_stay : (old : List Kept) (made : ℕ) (ms : List Mark) (once : Bool) (now : List Kept) → now ≡ old ++ numbered_from made ms once → length now ≤ MARKS_MOST
    → now ≡ take MARKS_MOST (old ++ numbered_from made ms once)
all_stay old made ms once now is few = is ∙ sym (ap (take MARKS_MOST) (sym is) ∙ take_all MARKS_MOST now few ∙ is)

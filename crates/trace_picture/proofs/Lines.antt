-- Words of lines, and what stands before the first blank of one.
use Rattle.std.proofs.Common.{◌≡◌, ◌∙◌, ℕ, ◌+◌, ◌<◌, ◌≤◌, Bool, true, false, List, [], ◌∷◌, length, Bor, Option, None, Some, cond, arith, refl, sym, ap, suc}
use Rattle.std.specs.Prelude.{MatchOption, not, ◌||◌, option_map}
use Rattle.std.specs.List.{after_first, before_first, list_any, position_or_len}
use Rattle.trace_picture.specs.Notes.{is_blank, note_of_words}
use Rattle.trace_picture.specs.Remarks.{at_blank}

-- ---- how many words a line has

pub no-words : (list : List (List ℕ)) → length list < 1 → None ≡ note_of_words list
no-words [] few = refl
no-words (a ∷ list) few = absurd (omega (arith, few))

pub many-words : (list : List (List ℕ)) → 5 ≤ length list → None ≡ note_of_words list
many-words [] many = refl
many-words (a ∷ []) many = absurd (omega (arith, many))
many-words (a ∷ b ∷ []) many = absurd (omega (arith, many))
many-words (a ∷ b ∷ d ∷ []) many = absurd (omega (arith, many))
many-words (a ∷ b ∷ d ∷ e ∷ []) many = absurd (omega (arith, many))
many-words (a ∷ b ∷ d ∷ e ∷ f ∷ list) many = refl

-- ---- the first blank

no-blank : (text : List ℕ) → position_or_len is_blank text ≡ length text → list_any is_blank text ≡ false
no-blank [] all = refl
no-blank (b ∷ text) all = by (is_blank b) (no-blank text) all
  where
    by : (is : Bool) → (position_or_len is_blank text ≡ length text → list_any is_blank text ≡ false)
        → cond (not is) (1 + position_or_len is_blank text) 0 ≡ suc (length text) → (is || list_any is_blank text) ≡ false
    by true later all = absurd (omega (arith, all))
    by false later all = later (omega (arith, all))

some-blank : (text : List ℕ) → position_or_len is_blank text < length text → list_any is_blank text ≡ true
some-blank [] within = absurd (omega (arith, within))
some-blank (b ∷ text) within = by (is_blank b) (some-blank text) within
  where
    by : (is : Bool) → (position_or_len is_blank text < length text → list_any is_blank text ≡ true)
        → cond (not is) (1 + position_or_len is_blank text) 0 < suc (length text) → (is || list_any is_blank text) ≡ true
    by true later within = refl
    by false later within = later (omega (arith, within))

pub at-blank : (text : List ℕ) (r : Option (Bor (List ℕ) × Bor (List ℕ))) → MatchOption r (position_or_len is_blank text ≡ length text)
    (λ x. (position_or_len is_blank text < length text) × (x.0.now ≡ before_first is_blank text) × (x.1.now ≡ after_first is_blank text))
    → option_map (λ (p : Bor (List ℕ) × Bor (List ℕ)). (p.0.now, p.1.now)) r ≡ at_blank text
at-blank text None told = sym (ap (λ (b : Bool). cond b (Some (before_first is_blank text, after_first is_blank text)) None) (no-blank text told))
at-blank text (Some x) told =
    ap (λ (l : List ℕ). Some (l, x.1.now)) told.1 ∙ ap (λ (l : List ℕ). Some (before_first is_blank text, l)) told.2
    ∙ sym (ap (λ (b : Bool). cond b (Some (before_first is_blank text, after_first is_blank text)) None) (some-blank text told.0))

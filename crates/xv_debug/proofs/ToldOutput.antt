-- Bytes that the console showed, one by one.
use Rattle.std.proofs.Common.{◌≡◌, ℕ, ◌+◌, ◌<◌, ◌≤◌, Bool, true, false, List, [], ◌∷◌, ◌++◌, codes, length}
use Rattle.std.proofs.Common.{drop, slice_get, get_or, None, Some, Result, OnOk, sym, ◌∙◌, ap, append_assoc, append-nil, drop_of_length-le, ne_eqb}
use Rattle.std.specs.Prelude.{◌==◌, if◌then◌else◌}
use Rattle.std.proofs.lemmas.List.{drop_more}
use Rattle.std.proofs.lemmas.Option.{none-some, slice_get_within, slice_get-get_or, get_or_from_slice_get}
use Rattle.std.proofs.lemmas.Result.{on_ok_weaker}
use Rattle.xv_debug.specs.declared.motion.output.Output.{Output}
use Rattle.xv_debug.specs.OutputText.{behind_bars, output_head, output_text, with_bar}

-- a place within a list has a byte
pub byte-there : (xs : List ℕ) (place : ℕ) → place < length xs → slice_get xs place ≡ None → ⊥
byte-there xs place within none = none-some (get_or xs place 0) (sym none ∙ slice_get-get_or xs place 0 within)

-- what is left, behind what was written, is all of it: so it is behind one more byte
pub one-byte-more : (xs : List ℕ) (place b : ℕ) (begins : Bool) (whole mid new : List ℕ) → slice_get xs place ≡ Some b
    → mid ++ behind_bars begins (drop place xs) ≡ whole → new ≡ mid ++ with_bar begins b → new ++ behind_bars (b == 10) (drop (place + 1) xs) ≡ whole
one-byte-more xs place b begins whole mid new there so_far next =
    let left : drop place xs ≡ b ∷ drop (place + 1) xs =
    drop_more xs place b (slice_get_within xs place b there) ∙ ap (λ (x : ℕ). x ∷ drop (place + 1) xs) (get_or_from_slice_get xs place b b there) in
    let behind : List ℕ = behind_bars (b == 10) (drop (place + 1) xs) in
    ap (λ t. t ++ behind) next ∙ append_assoc mid (with_bar begins b) behind ∙ sym (ap (λ (rs : List ℕ). mid ++ behind_bars begins rs) left) ∙ so_far

-- behind the last byte nothing is left but the end of its line
nothing-left : (xs : List ℕ) (place : ℕ) (begins : Bool) (whole mid : List ℕ) → length xs ≤ place
    → mid ++ behind_bars begins (drop place xs) ≡ whole → mid ++ (if begins then [] else codes "\n") ≡ whole
nothing-left xs place begins whole mid past so_far = sym (ap (λ (rs : List ℕ). mid ++ behind_bars begins rs) (drop_of_length-le xs past)) ∙ so_far

-- which was written
pub line-ended : (xs : List ℕ) (place : ℕ) (begins : Bool) (whole mid : List ℕ) → length xs ≤ place → begins ≡ true → mid ++ behind_bars begins (drop place xs) ≡ whole → mid ≡ whole
line-ended xs place begins whole mid past on so_far =
    sym (append-nil mid) ∙ ap (λ (b : Bool). mid ++ (if b then [] else codes "\n")) (sym on) ∙ nothing-left xs place begins whole mid past so_far

-- or is written now
pub line-ends : {T E : Type 0} (r : Result T E) (xs : List ℕ) (place : ℕ) (begins : Bool) (whole mid new : List ℕ) → length xs ≤ place → begins ≡ false
    → mid ++ behind_bars begins (drop place xs) ≡ whole → OnOk r (new ≡ mid ++ codes "\n") → OnOk r (new ≡ whole)
line-ends r xs place begins whole mid new past off so_far wrote =
    on_ok_weaker r (λ e. e ∙ ap (λ (b : Bool). mid ++ (if b then [] else codes "\n")) (sym off) ∙ nothing-left xs place begins whole mid past so_far) wrote

-- if there were bytes, they are told behind their number
pub some-output : (o : Output) → (o.count ≡ 0 → ⊥) → output_head o.count ++ behind_bars true o.last.items ≡ output_text o
some-output o some = ap (λ (none : Bool). if none then [] else output_head o.count ++ behind_bars true o.last.items) (sym (ne_eqb o.count 0 some))

-- What is put behind a text.
use Rattle.std.proofs.Common.{◌≡◌, ◌⊎◌, inl, inr, ℕ, zero, suc, ◌-◌, ◌/◌, ◌%◌, ◌<◌, ◌≤◌, List, ◌++◌, codes, decimal, Option, None, Some, Result, OnOk, refl, arith, lt-ltb, le-ltb}
use Rattle.std.proofs.lemmas.Fmt.{contents_after_writes}
use Rattle.std.proofs.lemmas.Result.{on_ok_weaker}
use Rattle.std.specs.Fmt.{AppendsText, WritesText}
use Rattle.arrayvec.specs.ArrayString.{ArrayString}
use Rattle.debug_words.specs.Texts.{grouped_by, decimal_places}

-- a text of fixed room, before and after bytes are put behind it
abbrev pub put : ArrayString → List ℕ → ArrayString → Type 0
put old bytes new = new.bytes ≡ old.bytes ++ bytes

written : (old new : ArrayString) (text : Option (List ℕ)) → WritesText put old text new → AppendsText old.bytes new.bytes text
written old new None wrote = wrote
written old new (Some bytes) wrote = contents_after_writes put (λ s. s.bytes) (λ _ _ _ e. e) old bytes new wrote

-- what was written to it stands behind it
pub appends-text : {T E : Type 0} (r : Result T E) (old new : ArrayString) (text : Option (List ℕ)) → OnOk r (WritesText put old text new) → OnOk r (AppendsText old.bytes new.bytes text)
appends-text r old new text wrote = on_ok_weaker r (written old new text) wrote

-- a number without a comma
pub grouped-few : (k n : ℕ) → (k ≡ 0) ⊎ (n < 1000) → grouped_by k n ≡ decimal n
unfolding grouped_by
grouped-few zero n few = refl
grouped-few (suc k) n (inl none) = absurd (omega (arith, none))
grouped-few (suc k) n (inr few) = rw (lt-ltb n 1000 few) refl

-- and one with commas
pub grouped-more : (k n : ℕ) → 0 < k → 1000 ≤ n → grouped_by k n ≡ grouped_by (k - 1) (n / 1000) ++ codes "," ++ decimal_places 3 (n % 1000)
unfolding grouped_by
grouped-more zero n some more = absurd (omega (arith, some))
grouped-more (suc k) n some more =
    let less : suc k - 1 ≡ k = omega arith in
    rw (less, le-ltb n 1000 more) refl

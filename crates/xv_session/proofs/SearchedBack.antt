-- What was looked for again, where nothing was found before.
use Rattle.std.proofs.Common.{◌≡◌, ◌⊎◌, ◌∙◌, ℕ, Option, None, is_some, true, inl, inr, ap, subst, sym}
use Rattle.std.proofs.lemmas.Bool.{false≢true}

pub looks-on : {S F : Type 0} (looked : ℕ → S → S → Option F → Type 0)
    → ((before begin : ℕ) (a b c : S) (found : Option F) → looked before a b None → looked begin b c found → looked begin a c found)
    → (begin : ℕ) (a b c : S) (found : Option F) → (b ≡ a) ⊎ ((before : ℕ) × looked before a b None) → looked begin b c found → looked begin a c found
looks-on looked again begin a b c found (inl same) looks = subst (λ s. looked begin s c found) same looks
looks-on looked again begin a b c found (inr (before, vain)) looks = again before begin a b c found vain looks

-- one that was found isn't none
pub none-found : {A : Type 0} (n : ℕ) (found : Option A) → is_some found ≡ true → found ≡ None → n ≡ 0
none-found n found some none = absurd (false≢true (sym (ap is_some none) ∙ some))

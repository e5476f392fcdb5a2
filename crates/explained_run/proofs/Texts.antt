-- Texts that are written one after another.
use Rattle.std.proofs.Common.{◌≡◌, ◌∙◌, ap, ap₂, codes, ℕ, List, ◌++◌, Result, OnOk}
use Rattle.std.specs.Prelude.{ℤ}
use Rattle.debug_views.proofs.Texts.{two_behind, shown_behind}
use Rattle.kernel_spec.specs.views.State.{State}
use Rattle.explained_run.specs.Lines.{answered_text, called_line, done_text, mark}
use Rattle.explained_run.specs.Seen.{Before}

-- of five texts
pub five_shown : {T E : Type 0} (r : Result T E) (old one two three four new a b d e f : List ℕ) → one ≡ old ++ a → two ≡ one ++ b → three ≡ two ++ d → four ≡ three ++ e
    → OnOk r (new ≡ four ++ f) → OnOk r (new ≡ old ++ (a ++ b ++ d ++ e ++ f))
five_shown r old one two three four new a b d e f first second third fourth fifth =
    shown_behind r old four new (a ++ b ++ d ++ e) f
    (two_behind old three four (a ++ b ++ d) e (two_behind old two three (a ++ b) d (two_behind old one two a b first second) third) fourth) fifth

-- the line of a call that is done, by number and value as they were seen
pub called_written : {T E : Type 0} (r : Result T E) (b : Before) (s : State) (p : ℕ) (number seen value told again : ℤ) (old one two three four new : List ℕ)
    → seen ≡ number → told ≡ value → again ≡ value
    → one ≡ old ++ b.who → two ≡ one ++ mark b.resumed → three ≡ two ++ done_text b s p seen told → four ≡ three ++ answered_text s p b.asked again → OnOk r (new ≡ four ++ codes "\n")
    → OnOk r (new ≡ old ++ called_line b s p number value)
called_written r b s p number seen value told again old one two three four new is_number is_value is_again first second third fourth fifth =
    five_shown r old one two three four new b.who (mark b.resumed) (done_text b s p number value) (answered_text s p b.asked value) (codes "\n") first second
    (third ∙ ap₂ (λ (n v : ℤ). two ++ done_text b s p n v) is_number is_value) (fourth ∙ ap (λ (v : ℤ). three ++ answered_text s p b.asked v) is_again) fifth

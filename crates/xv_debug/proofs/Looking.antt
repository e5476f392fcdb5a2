-- What a word writes of the process that it looks at.
use Rattle.std.proofs.Common.{◌≡◌, ℕ, List, ◌++◌, Option, None, Some, Result, OnOk, refl, subst}
use Rattle.std.proofs.lemmas.Result.{on_ok_weaker}
use Rattle.xv_session.specs.Recorded.{Recorded}
use Rattle.debug_views.specs.Written.{Writes}
use Rattle.xv_debug.specs.Focus.{IsFocus}
use Rattle.xv_debug.specs.LookText.{IsOfFocus}
use Rattle.xv_debug.specs.WhereText.{nobody}

-- of the one that there is
pub of-some : {T E : Type 0} (r : Result T E) (s : Recorded) (named focus : Option ℕ) (p : ℕ) (Is : ℕ → List ℕ → Type 0) (old new text : List ℕ)
    → IsFocus named s focus → focus ≡ Some p → Is p text → OnOk r (new ≡ old ++ text) → OnOk r (Writes old new (IsOfFocus s named Is))
of-some r s named focus p Is old new text looks there is wrote =
    on_ok_weaker r (λ same. (text, (Some p, subst (IsFocus named s) there looks, is), same)) wrote

-- of which what is so is written
pub so-of-some : {T E : Type 0} (r : Result T E) (s : Recorded) (named focus : Option ℕ) (p : ℕ) (Is : ℕ → List ℕ → Type 0) (old new : List ℕ)
    → IsFocus named s focus → focus ≡ Some p → OnOk r (Writes old new (Is p)) → OnOk r (Writes old new (IsOfFocus s named Is))
so-of-some r s named focus p Is old new looks there wrote =
    on_ok_weaker r (λ w. (w.0, (Some p, subst (IsFocus named s) there looks, w.1), w.2)) wrote

-- or there is none
pub of-none : {T E : Type 0} (r : Result T E) (s : Recorded) (named focus : Option ℕ) (Is : ℕ → List ℕ → Type 0) (old new : List ℕ)
    → IsFocus named s focus → focus ≡ None → OnOk r (new ≡ old ++ nobody) → OnOk r (Writes old new (IsOfFocus s named Is))
of-none r s named focus Is old new looks none wrote =
    on_ok_weaker r (λ same. (nobody, (None, subst (IsFocus named s) none looks, refl), same)) wrote

-- The walk over the program headers: the segments from a header on, and the first refused one.
use Rattle.std.proofs.Common.{◌≡◌, ℕ, suc, ◌+◌, ◌-◌, ◌<◌, Bool, true, false, cond, List, ◌∷◌, Some, None, refl, sym, ap, ◌∙◌, arith, add-one}
use Rattle.xk_base.specs.declared.program.Header.{Header}
use Rattle.xk_base.specs.declared.program.ProgramHeader.{ProgramHeader}
use Rattle.xk_base.specs.ProgramFile.{is_refused, is_refused_after, size_before, segments_from, program_header_at, is_loaded, segment}
use Rattle.xk_base.proofs.Options.{some_chosen}

-- one header, and the others after it
segments_from-step : (file : List ℕ) (f : Header) (i n : ℕ) → i < n
    → segments_from file f i (n - i) ≡ cond (is_loaded (program_header_at file f i))
    (segment (program_header_at file f i) ∷ segments_from file f (i + 1) (n - (i + 1))) (segments_from file f (i + 1) (n - (i + 1)))
segments_from-step file f i n lt =
    let e : n - i ≡ suc (n - (i + 1)) = omega arith in
    let a : i + 1 ≡ suc i = add-one i in
    rw (e, a) refl

-- a header that makes a segment
pub segments_from-loaded : (file : List ℕ) (f : Header) (i n : ℕ) (h : ProgramHeader) → i < n → h ≡ program_header_at file f i → is_loaded h ≡ true
    → segments_from file f i (n - i) ≡ segment h ∷ segments_from file f (i + 1) (n - (i + 1))
segments_from-loaded file f i n h lt is loaded =
    segments_from-step file f i n lt
    ∙ ap (λ b. cond b (segment (program_header_at file f i) ∷ segments_from file f (i + 1) (n - (i + 1))) (segments_from file f (i + 1) (n - (i + 1)))) (ap is_loaded (sym is) ∙ loaded)
    ∙ ap (λ x. segment x ∷ segments_from file f (i + 1) (n - (i + 1))) (sym is)

-- a header that is passed over
pub segments_from-skipped : (file : List ℕ) (f : Header) (i n : ℕ) (h : ProgramHeader) → i < n → h ≡ program_header_at file f i → is_loaded h ≡ false
    → segments_from file f i (n - i) ≡ segments_from file f (i + 1) (n - (i + 1))
segments_from-skipped file f i n h lt is skipped =
    segments_from-step file f i n lt
    ∙ ap (λ b. cond b (segment (program_header_at file f i) ∷ segments_from file f (i + 1) (n - (i + 1))) (segments_from file f (i + 1) (n - (i + 1)))) (ap is_loaded (sym is) ∙ skipped)

other_chosen : {A : Type 0} (b : Bool) (x y : A) → cond b None (Some x) ≡ Some y → b ≡ false
other_chosen true x y e = cc
other_chosen false x y e = refl

-- a header that did not pass its test is refused
pub refused_if_none : (file : List ℕ) (f : Header) (size i : ℕ) (h : ProgramHeader) → size ≡ size_before file f i → cond (is_refused_after file f size i) None (Some h) ≡ None
    → is_refused file f i ≡ true
refused_if_none file f size i h e none = ap (λ s. is_refused_after file f s i) (sym e) ∙ some_chosen _ h none

-- a header that passed its test isn't refused
pub kept_if_some : (file : List ℕ) (f : Header) (size i : ℕ) (h x : ProgramHeader) → size ≡ size_before file f i → cond (is_refused_after file f size i) None (Some h) ≡ Some x
    → is_refused file f i ≡ false
kept_if_some file f size i h x e some = ap (λ s. is_refused_after file f s i) (sym e) ∙ other_chosen _ h x some

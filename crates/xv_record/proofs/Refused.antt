-- The first program that isn't there.
use Rattle.std.proofs.Common.{◌≡◌, ◌∙◌, ℕ, ◌+◌, ◌<◌, List, [], ◌∷◌, ◌++◌, ap, ap₂, drop, get_or, length, map, subst, sym, take}
use Rattle.std.proofs.lemmas.List.{drop_more, map-append, take-append-drop, take_more}
use Rattle.std.proofs.lemmas.List.Elements.{All-more}
use Rattle.xk_base.specs.declared.program.Program.{Program}
use Rattle.xv_record.specs.declared.refusal.RecordRefusal.{RecordRefusal}
use Rattle.xv_record.specs.declared.sums.ProgramSum.{ProgramSum}
use Rattle.xv_record.specs.Chosen.{AreThere, IsReason, IsRefused, IsThere}
use Rattle.xv_record.specs.Told.{ProgramTold, program_told, told_program}

pub refused-at : (programs : List Program) (recorded : List ProgramSum) (k : ℕ) (w : ProgramSum) (refusal : RecordRefusal) → k < length recorded → w ≡ get_or recorded k w → AreThere programs (take k recorded)
    → IsReason programs (told_program w) refusal → IsRefused programs recorded refusal
refused-at programs recorded k w refusal within at there reason = record {
  before = take k recorded;
  refused = w;
  after = drop (k + 1) recorded;
  parts = sym (take-append-drop k recorded) ∙ ap (λ (rest : List ProgramSum). take k recorded ++ rest) (drop_more recorded k w within ∙ ap (λ (x : ProgramSum). x ∷ drop (k + 1) recorded) (sym at));
  there = there;
  reason = reason;
}

pub there-more : (programs : List Program) (recorded : List ProgramSum) (k : ℕ) (w : ProgramSum) → k < length recorded → w ≡ get_or recorded k w → AreThere programs (take k recorded)
    → IsThere programs (told_program w) → AreThere programs (take (k + 1) recorded)
there-more programs recorded k w within at there is =
    All-more (λ (w : ProgramSum). IsThere programs (told_program w)) recorded k w within there (subst (λ (x : ProgramSum). IsThere programs (told_program x)) at is)

-- those that were copied so far are those that were recorded, and so with one more
pub same-more : (made new : List Program) (recorded : List ProgramSum) (k : ℕ) (p : Program) (w : ProgramSum) → k < length recorded → w ≡ get_or recorded k w
    → map program_told made ≡ map told_program (take k recorded) → new ≡ made ++ p ∷ [] → program_told p ≡ told_program w → map program_told new ≡ map told_program (take (k + 1) recorded)
same-more made new recorded k p w within at so_far put is =
    let next : take (k + 1) recorded ≡ take k recorded ++ w ∷ [] = take_more recorded k w within ∙ ap (λ (x : ProgramSum). take k recorded ++ x ∷ []) (sym at) in
    ap (map program_told) put ∙ map-append program_told made (p ∷ []) ∙ ap₂ (λ (us : List ProgramTold) (x : ProgramTold). us ++ x ∷ []) so_far is
    ∙ sym (map-append told_program (take k recorded) (w ∷ [])) ∙ sym (ap (map told_program) next)

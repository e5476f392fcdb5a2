-- What a judgement says of its rule.
use Rattle.std.proofs.Common.{◌≡◌, ◌↔◌, ◌≤◌, true, false, List, [], ◌∷◌, refl, ap, ap₂, subst}
use Rattle.std.specs.Prelude.{filter, count_by}
use Rattle.std.specs.List.{list_any}
use Rattle.std.proofs.lemmas.Bool.{false≢true, true≢false, or_parts}
use Rattle.grade_rules.specs.declared.asking.Asking.{Asking}
use Rattle.grade_rules.specs.declared.note.Note.{Note}
use Rattle.grade_rules.specs.declared.pattern.Pattern.{Pattern}
use Rattle.grade_rules.specs.declared.pattern.Pattern.TheVariants as shapes
use Rattle.grade_rules.specs.declared.pipes.Choice.{Choice}
use Rattle.grade_rules.specs.declared.pipes.Pipes.{Pipes}
use Rattle.grade_rules.specs.declared.pipes.Pipes.TheVariants as pipes
use Rattle.grade_rules.specs.declared.rule.Rule.{Rule}
use Rattle.grade_rules.specs.declared.rule.Rule.TheVariants.{Count, NoneOf, Before, InOrder, Exactly}
use Rattle.grade_rules.specs.declared.rule.Judgement.{Judgement}
use Rattle.grade_rules.specs.declared.rule.Judgement.TheVariants.{Holds, Counted, Unwanted, Alone, Missing, Other}
use Rattle.grade_rules.specs.Choices.{is_choice, is_letter, has_letter, names_letters, pipes_with, asking_with, pattern_with}
use Rattle.grade_rules.specs.Patterns.{fits, fits_one_of}
use Rattle.grade_rules.specs.Rules.{IsNoneOf, IsEachBehind, IsInOrder, are_these}
use Rattle.grade_rules.specs.Judged.{all_with, HoldsBy, HoldsOf, IsJudgedBy, IsOfAChoice, IsJudged, is_holding}

-- it says that the rule holds exactly if it does
pub told_by : (rule : Rule) (notes : List Note) (judgement : Judgement) → IsJudged rule notes judgement → (is_holding judgement ≡ true) ↔ HoldsOf rule notes
told_by rule notes Holds judged = (λ said. judged, λ held. refl)
told_by rule notes (Counted found) judged = (λ said. absurd (cc), λ held. absurd (judged.0 held))
told_by rule notes (Unwanted place) judged = (λ said. absurd (cc), λ held. absurd (judged.0 held))
told_by rule notes (Alone place) judged = (λ said. absurd (cc), λ held. absurd (judged.0 held))
told_by rule notes (Missing step) judged = (λ said. absurd (cc), λ held. absurd (judged.0 held))
told_by rule notes (Other place) judged = (λ said. absurd (cc), λ held. absurd (judged.0 held))

-- by one choice, that the rule doesn't hold by it
pub fails_by : (choice : Choice) (rule : Rule) (notes : List Note) (judgement : Judgement) → IsJudgedBy choice rule notes judgement → is_holding judgement ≡ false → ¬ (HoldsBy choice rule notes)
fails_by choice rule notes Holds judged fails = absurd (true≢false fails)
fails_by choice rule notes (Counted found) judged fails = judged.0
fails_by choice rule notes (Unwanted place) judged fails = judged.0
fails_by choice rule notes (Alone place) judged fails = judged.0
fails_by choice rule notes (Missing step) judged fails = judged.0
fails_by choice rule notes (Other place) judged fails = judged.0

-- of all choices, from one of them
pub holds_by_one : (rule : Rule) (notes : List Note) (judgement : Judgement) → IsOfAChoice rule notes judgement → is_holding judgement ≡ true → IsJudged rule notes judgement
holds_by_one rule notes Holds one holds = one
holds_by_one rule notes (Counted found) one holds = absurd (false≢true holds)
holds_by_one rule notes (Unwanted place) one holds = absurd (false≢true holds)
holds_by_one rule notes (Alone place) one holds = absurd (false≢true holds)
holds_by_one rule notes (Missing step) one holds = absurd (false≢true holds)
holds_by_one rule notes (Other place) one holds = absurd (false≢true holds)

pub fails_by_all : (rule : Rule) (notes : List Note) (judgement : Judgement) → IsOfAChoice rule notes judgement → (is_holding judgement ≡ false → ¬ (HoldsOf rule notes))
    → IsJudged rule notes judgement
fails_by_all rule notes Holds one all = one
fails_by_all rule notes (Counted found) one all = (all refl, one)
fails_by_all rule notes (Unwanted place) one all = (all refl, one)
fails_by_all rule notes (Alone place) one all = (all refl, one)
fails_by_all rule notes (Missing step) one all = (all refl, one)
fails_by_all rule notes (Other place) one all = (all refl, one)

-- ---- rules without letters say the same by each choice

module _ (one other : Choice) where
  same-pipes : (meant : Pipes) → is_letter meant ≡ false → pipes_with one meant ≡ pipes_with other meant
  same-pipes pipes.Any none = refl
  same-pipes (pipes.Only number) none = refl
  same-pipes (pipes.Called letter) none = absurd (true≢false none)

  same-asking : (asking : Asking) → is_letter asking.pipe ≡ false → asking_with one asking ≡ asking_with other asking
  same-asking asking none = ap (λ (p : Pipes). record asking { pipe = p }) (same-pipes asking.pipe none)

  same-pattern : (p : Pattern) → has_letter p ≡ false → pattern_with one p ≡ pattern_with other p
  same-pattern (shapes.Turn who) none = refl
  same-pattern (shapes.Called who call answers asking) none = ap (λ (a : Asking). shapes.Called who call answers a) (same-asking asking none)
  same-pattern (shapes.Blocked who call asking) none = ap (λ (a : Asking). shapes.Blocked who call a) (same-asking asking none)
  same-pattern (shapes.Exited who ends) none = refl
  same-pattern (shapes.Faulted who whys) none = refl

  same-patterns : (ps : List Pattern) → list_any has_letter ps ≡ false → all_with one ps ≡ all_with other ps
  same-patterns [] none = refl
  same-patterns (p ∷ ps) none =
      let parts = or_parts (has_letter p) (list_any has_letter ps) none in
      ap₂ (λ (q : Pattern) (qs : List Pattern). q ∷ qs) (same-pattern p parts.0) (same-patterns ps parts.1)

  holds-too : (rule : Rule) (notes : List Note) → names_letters rule ≡ false → HoldsBy one rule notes → HoldsBy other rule notes
  holds-too (Count pattern least most) notes none held =
      subst (λ (p : Pattern). (least ≤ count_by (fits p) notes) × (count_by (fits p) notes ≤ most)) (same-pattern pattern none) held
  holds-too (NoneOf patterns) notes none held = subst (λ (ps : List Pattern). IsNoneOf ps notes) (same-patterns patterns.items none) held
  holds-too (Before first next) notes none held =
      let parts = or_parts (has_letter first) (has_letter next) none in
      subst (λ (p : Pattern). IsEachBehind p (pattern_with other next) notes) (same-pattern first parts.0)
      (subst (λ (p : Pattern). IsEachBehind (pattern_with one first) p notes) (same-pattern next parts.1) held)
  holds-too (InOrder steps edges) notes none held = subst (λ (ps : List Pattern). IsInOrder ps edges.items notes) (same-patterns steps.items none) held
  holds-too (Exactly of wanted) notes none held =
      let parts = or_parts (list_any has_letter of.items) (list_any has_letter wanted.items) none in
      subst (λ (ps : List Pattern). are_these (all_with other wanted.items) (filter (fits_one_of ps) notes) ≡ true) (same-patterns of.items parts.0)
      (subst (λ (ps : List Pattern). are_these ps (filter (fits_one_of (all_with one of.items)) notes) ≡ true) (same-patterns wanted.items parts.1) held)

-- so what is told by one choice is told of the rule
pub without_letters : (choice : Choice) (rule : Rule) (notes : List Note) (judgement : Judgement) → is_choice choice ≡ true → IsJudgedBy choice rule notes judgement
    → names_letters rule ≡ false → IsJudged rule notes judgement
without_letters choice rule notes judgement may judged none =
    fails_by_all rule notes judgement (choice, may, judged)
    (λ fails. λ held. fails_by choice rule notes judgement judged fails (holds-too held.0 choice rule notes none held.2))
